-- `count_added` (document 01, module 8, and "When an operation refuses").
-- Assumes nothing: these are definitions.
use Rattle.std.proofs.Math.Option.{Option, none as nothing, some}
use Rattle.std.specs.Prelude.{ℕ, ◌+◌, List, [], ◌∷◌, length, Result, Ok, Err}
use Rattle.template_pieces.specs.Piece.{Piece, sequence_a, sequence_b, special}
use Rattle.template_text.specs.Template.{TemplateReading, unread, reads}
use Rattle.template_entries.specs.Table.{Special, Table, faulty, sound}
use Rattle.template_find.specs.Last.{last_with}
use Rattle.record.specs.declared.Refusal.{Refusal}

-- "Unknown ids add 0"
abbrev pub member_count : Option Special → ℕ
member_count nothing = 0
member_count (some s) = length s.members

-- what a piece adds: the number of ids of a special one
unfoldable pub added : List Special → Piece → ℕ
added table (sequence_a _) = 0
added table (sequence_b _) = 0
added table (special _ id _) = member_count (last_with id table)

-- "the sum is a u64"
unfoldable pub added_by : List Special → List Piece → ℕ
added_by table [] = 0
added_by table (piece ∷ pieces) = added table piece + added_by table pieces

-- "Count added: 15, 12, 8", then 19 to 21: "counting .. pass the finer answer on"
unfoldable pub added_answer : Table → TemplateReading → Result ℕ Refusal
added_answer (faulty k) reading = Err k
added_answer (sound table) (unread k) = Err k
added_answer (sound table) (reads pieces) = Ok (added_by table pieces)

-- the count, 0 with a refusal
abbrev pub count_told : Result ℕ Refusal → ℕ
count_told (Err k) = 0
count_told (Ok n) = n
