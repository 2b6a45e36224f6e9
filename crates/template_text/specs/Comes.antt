-- What comes at a place of a template text: its end, a piece and the place after it, or a part that cannot be read, with why, its
-- number and its place.
-- Assumes nothing: these are definitions.
use Rattle.std.specs.Prelude.{ℕ, ◌-◌, List, length, take, drop, Option, Some, None, Result, Ok, Err}
use Rattle.record.specs.declared.Why.{Why}
use Rattle.record.specs.declared.Fault.{Fault}
use Rattle.record.specs.declared.Refusal.{Refusal}
use Rattle.record.specs.declared.Refusal.TheVariants.{PartUnreadable}
use Rattle.template_parts.specs.Parts.{parts, parts_from, part_step_at}
use Rattle.template_parts.specs.declared.Part.{Part}
use Rattle.template_pieces.specs.Piece.{read_part, piece_answer}
use Rattle.template_pieces.specs.declared.Piece.{Piece as PieceRead}
use Rattle.template_text.specs.Template.{fault_at}
use Rattle.template_text.specs.declared.PieceStep.{PieceStep}

-- the number of the part at a place: as many as the text has, less those from there on
abbrev pub number_at : List ℕ → ℕ → ℕ
number_at text place = length (parts text) - length (parts_from text place)

unfoldable pub fault_in : List ℕ → ℕ → Why → Fault
fault_in text place why = fault_at (number_at text place) place why

-- nothing at the end; a part that cannot be read; a piece and the place after it
abbrev pub Coming : Type 0
Coming = Result (Option PieceStep) Refusal

abbrev pub end_comes : Coming
end_comes = Ok None

abbrev pub fault_comes : Fault → Coming
fault_comes fault = Err (PartUnreadable fault)

abbrev pub piece_comes : PieceRead → ℕ → Coming
piece_comes piece next = Ok (Some (record { piece = piece; next = next }))

-- what a part at a place was read as, with the place after it
abbrev pub with_next : List ℕ → ℕ → ℕ → Result PieceRead Why → Coming
with_next text place next (Err why) = fault_comes (fault_in text place why)
with_next text place next (Ok piece) = piece_comes piece next

-- what a part is
abbrev pub of_part : List ℕ → ℕ → Option Part → Coming
of_part text next None = end_comes
of_part text next (Some part) = with_next text part.start next (piece_answer (read_part part.start (take part.length (drop part.start text))))

unfoldable pub comes_at : List ℕ → ℕ → Coming
comes_at text at = of_part text (part_step_at text at).next (part_step_at text at).answer
