-- What `check_batch` answers: refused with 1, or the number of encodings at the top.
-- Assumes nothing: these are definitions.
use Rattle.std.specs.Prelude.{ℕ, Result, Ok, Err}
use Rattle.record.specs.Tree.{tops}
use Rattle.record.specs.Read.{Reading, malformed, holds}
use Rattle.record.specs.declared.Refusal.{Refusal}
use Rattle.record.specs.declared.Refusal.TheVariants.{MalformedRecord}

abbrev pub shape_of : Reading → Result ℕ Refusal
shape_of malformed = Err MalformedRecord
shape_of (holds f) = Ok (tops f)

-- the number of encodings in the place of what a lent number was; a refusal leaves it
abbrev pub encodings_or : ℕ → Result ℕ Refusal → ℕ
encodings_or was (Err k) = was
encodings_or was (Ok n) = n
