-- Which sequences a template names: A, B or both (document 01, module 8).
-- Assumes nothing: these are definitions.
use Rattle.std.specs.Prelude.{Bool, true, false, ◌||◌, List, [], ◌∷◌, Result, Ok, Err}
use Rattle.template_pieces.specs.Piece.{Piece, sequence_a, sequence_b, special}
use Rattle.template_text.specs.Template.{TemplateReading, unread, reads}
use Rattle.record.specs.declared.Refusal.{Refusal}
use Rattle.template_walk.specs.declared.Named.{Named}

abbrev pub is_a : Piece → Bool
is_a (sequence_a _) = true
is_a (sequence_b _) = false
is_a (special _ _ _) = false

abbrev pub is_b : Piece → Bool
is_b (sequence_a _) = false
is_b (sequence_b _) = true
is_b (special _ _ _) = false

-- whether a test holds of some element
abbrev pub some_ok : {A : Type 0} → (A → Bool) → List A → Bool
some_ok t [] = false
some_ok t (x ∷ xs) = t x || some_ok t xs

-- 8 and 19 to 21, or whether it names each
unfoldable pub sequences_answer : TemplateReading → Result Named Refusal
sequences_answer (unread k) = Err k
sequences_answer (reads pieces) = Ok (record { a = some_ok is_a pieces; b = some_ok is_b pieces })
