-- The characters and the word of a row, with its sequence and its place there, over one encoding (document 01, module 1;
-- document 02, request 06).
-- Assumes nothing: these are definitions.
use Rattle.std.specs.Prelude.{ℕ, cond, eqb}
use Rattle.std.proofs.Math.Option.{Option, none as nothing, some, bind, map}
use Rattle.std.proofs.Math.ListN.{get_elem?}
use Rattle.record.specs.Tree.{Row, Encoding}
use Rattle.record.specs.declared.Bounds.{Bounds}
use Rattle.lookup_holding.specs.Holding.{Placed, token_to_sequence}

-- "token_to_chars and token_to_word first need a sequence" (document 01) and "hand it on", the row's place in it (document
-- 02): what k says of the row, with both
unfoldable pub of_token : {A : Type 0} → Encoding → ℕ → (Row → Option A) → Option (Placed × A)
of_token E row k = bind (token_to_sequence E row) (λ placed. bind (get_elem? E.rows row) (λ r. map (λ v. (placed, v)) (k r)))

-- its offsets
unfoldable pub token_to_chars : Encoding → ℕ → Option (Placed × Bounds)
token_to_chars E row = of_token E row (λ r. some (record { start = r.offset_start; end = r.offset_end }))

-- "word mark (0 none, 1 present)"
abbrev pub word_of : Row → Option ℕ
word_of r = cond (eqb r.word_mark 1) (some r.word) nothing

unfoldable pub token_to_word : Encoding → ℕ → Option (Placed × ℕ)
token_to_word E row = of_token E row word_of
