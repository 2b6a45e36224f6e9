-- Converting the offsets of a batch (document 02, request 01).
-- Assumes nothing: these are definitions.
use Rattle.std.specs.Prelude.{cond, ℕ, List, Option, None, Some}
use Rattle.record.specs.Read.{Reading, malformed, holds}
use Rattle.record.specs.Outcome.{Outcome, refused, in_room}
use Rattle.record.specs.declared.Refusal.TheVariants.{MalformedRecord, NotText, OffsetPastEnd, OffsetInsideCharacter}
use Rattle.offsets_trees.specs.declared.Way.{Way}
use Rattle.offsets_trees.specs.declared.Fault.{Fault}
use Rattle.offsets_trees.specs.declared.Fault.TheVariants.{PastEnd, InsideCharacter}
use Rattle.offsets_trees.specs.Offsets.{converted, convert_by, fault_by, batch_fault}
use Rattle.offsets_verdict.specs.Verdicts.{is_text}

-- refused by the first row concerned, if there is one
abbrev pub unless_fault : Option Fault → Outcome → Outcome
unless_fault None otherwise = otherwise
unless_fault (Some PastEnd) otherwise = refused OffsetPastEnd
unless_fault (Some InsideCharacter) otherwise = refused OffsetInsideCharacter

-- "Turned away: after 1, text that is not UTF-8 or is above 4,294,967,295 bytes (16), an offset past the end of the text (17), an offset
-- inside a character (18, only from bytes to characters), then 2; 17 and 18 by the first row concerned, its start before its end"
unfoldable pub offsets_outcome : Way → Reading → List ℕ → List ℕ → List ℕ → Outcome
offsets_outcome way malformed text nodes rows = refused MalformedRecord
offsets_outcome way (holds f) text nodes rows =
    cond (is_text text) (unless_fault (batch_fault (fault_by way text) f) (in_room nodes rows (converted (convert_by way text) f))) (refused NotText)
