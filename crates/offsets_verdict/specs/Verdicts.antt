-- Whether the offsets of a batch can be converted (document 02, request 01): "Turned away: after 1, text that is not UTF-8 or is above
-- 4,294,967,295 bytes (16), an offset past the end of the text (17), an offset inside a character (18, only from bytes to characters)".
-- Assumes nothing: these are definitions.
use Rattle.std.specs.Prelude.{Bool, cond, ◌&&◌, ℕ, List, leb, length, Option, None, Some, Result, Ok, Err}
use Rattle.record.specs.Read.{Reading, malformed, holds}
use Rattle.record.specs.declared.Refusal.{Refusal}
use Rattle.record.specs.declared.Refusal.TheVariants.{MalformedRecord, NotText, OffsetPastEnd, OffsetInsideCharacter}
use Rattle.chars_text.specs.Characters.{characters, well_formed}
use Rattle.chars_places.specs.Lengths.{text_largest}
use Rattle.offsets_trees.specs.declared.Way.{Way}
use Rattle.offsets_trees.specs.declared.Fault.{Fault}
use Rattle.offsets_trees.specs.declared.Fault.TheVariants.{PastEnd, InsideCharacter}
use Rattle.offsets_trees.specs.Offsets.{fault_by, batch_fault}

-- "text that is not UTF-8 or is above 4,294,967,295 bytes (16)"
abbrev pub is_text : List ℕ → Bool
is_text text = leb (length text) text_largest && well_formed text

-- the number of characters, or why there is a fault
abbrev pub of_fault : Option Fault → ℕ → Result ℕ Refusal
of_fault None total = Ok total
of_fault (Some PastEnd) total = Err OffsetPastEnd
of_fault (Some InsideCharacter) total = Err OffsetInsideCharacter

-- 1, then 16, then 17 or 18 by the first row concerned
abbrev pub verdict_of : Way → Reading → List ℕ → Result ℕ Refusal
verdict_of way malformed text = Err MalformedRecord
verdict_of way (holds f) text = cond (is_text text) (of_fault (batch_fault (fault_by way text) f) (length (characters text))) (Err NotText)
