-- The numbers of the refusals (document 01, "When an operation refuses", and document 02).
-- Assumes nothing: these are definitions.
use Rattle.std.specs.Prelude.{ℕ, List, [], ◌∷◌, Option as Answer, Some, None}
use Rattle.std.proofs.Math.Option.{Option, none as nothing, some}
use Rattle.record.specs.declared.Why.{Why}
use Rattle.record.specs.declared.Why.TheVariants.{MoreThanOneColon, BadTypeNumber, UnknownSequenceName}
use Rattle.record.specs.declared.Fault.{Fault}
use Rattle.record.specs.declared.Refusal.{Refusal}
use Rattle.record.specs.declared.Refusal.TheVariants.{MalformedRecord, NoRoom, Stride, SecondMissing, TooShort, OffsetTooLarge, TemplateTooLong, PairLacksAOrB, SpecialIdUnknown, BWithoutSecond, IdsAndTextsDiffer, SequenceIdAboveLast, TextOutsidePool, MalformedTable, NotText, OffsetPastEnd, OffsetInsideCharacter, PartUnreadable, TotalTooLarge}

-- "19 more than one colon, 20 bad type number, 21 unknown sequence name" of document 02
abbrev pub why_number : Why → ℕ
why_number MoreThanOneColon = 19
why_number BadTypeNumber = 20
why_number UnknownSequenceName = 21

-- "1 malformed record, 2 no room, 3 stride, 4 second missing, 5 too short, 6 offset too large, .. 8 template too long,
-- 9 pair lacks A or B, 10 special id unknown, 11 B without a second, 12 ids and texts differ in number, 13 sequence id above 7,
-- 14 text outside its pool, 15 malformed table"; of document 02 "text that is not UTF-8 or is above 4,294,967,295 bytes (16), an
-- offset past the end of the text (17), an offset inside a character (18)", 19 to 21 "all in 7's position; 7 is given no more", and
-- "22 if a total would pass 18,446,744,073,709,551,615"
abbrev pub number_of : Refusal → ℕ
number_of MalformedRecord = 1
number_of NoRoom = 2
number_of Stride = 3
number_of SecondMissing = 4
number_of TooShort = 5
number_of OffsetTooLarge = 6
number_of TemplateTooLong = 8
number_of PairLacksAOrB = 9
number_of SpecialIdUnknown = 10
number_of BWithoutSecond = 11
number_of IdsAndTextsDiffer = 12
number_of SequenceIdAboveLast = 13
number_of TextOutsidePool = 14
number_of MalformedTable = 15
number_of NotText = 16
number_of OffsetPastEnd = 17
number_of OffsetInsideCharacter = 18
number_of (PartUnreadable fault) = why_number fault.why
number_of TotalTooLarge = 22

-- the part at fault, which only 19 to 21 tell: any other "refusal carries only its number"
abbrev pub fault_of : Refusal → Option Fault
fault_of MalformedRecord = nothing
fault_of NoRoom = nothing
fault_of Stride = nothing
fault_of SecondMissing = nothing
fault_of TooShort = nothing
fault_of OffsetTooLarge = nothing
fault_of TemplateTooLong = nothing
fault_of PairLacksAOrB = nothing
fault_of SpecialIdUnknown = nothing
fault_of BWithoutSecond = nothing
fault_of IdsAndTextsDiffer = nothing
fault_of SequenceIdAboveLast = nothing
fault_of TextOutsidePool = nothing
fault_of MalformedTable = nothing
fault_of NotText = nothing
fault_of OffsetPastEnd = nothing
fault_of OffsetInsideCharacter = nothing
fault_of (PartUnreadable fault) = some fault
fault_of TotalTooLarge = nothing

abbrev pub fault_answer : Option Fault → Answer Fault
fault_answer nothing = None
fault_answer (some fault) = Some fault

-- "the part's number and its first byte's place in the text", in the place of what two numbers were
abbrev pub place_or : List ℕ → Option Fault → List ℕ
place_or was nothing = was
place_or was (some fault) = fault.part ∷ fault.place ∷ []

abbrev pub fault_or : List ℕ → Refusal → List ℕ
fault_or was k = place_or was (fault_of k)
