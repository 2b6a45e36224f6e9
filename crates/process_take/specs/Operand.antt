-- What a step joins to the encoding in the output.
-- Assumes nothing: these are definitions.
use Rattle.std.specs.Prelude.{List, ℕ}
use Rattle.record.specs.declared.Spot.{Spot}
use Rattle.join_view.specs.declared.View.TheVariants.{Piece}
use Rattle.record.specs.Standing.{spot}
use Rattle.template_entries.specs.Rows.{members_of}
use Rattle.process_steps.specs.declared.Step.{Step}
use Rattle.process_steps.specs.declared.Step.TheVariants.{First, Second, Special}
use Rattle.process_take.specs.declared.Operand.{Operand}
use Rattle.process_take.specs.declared.Operand.TheVariants.{Stored, Special as SpecialRows}

-- "Encoding i gets sequence id i": the first at the front, the second at its spot; or the members of an entry of the
-- special table
abbrev pub operand_of : List ℕ → Spot → Step → Operand
operand_of entries s (First t) = Stored (spot 0 0) (Piece 0 t)
operand_of entries s (Second t) = Stored s (Piece 1 t)
operand_of entries s (Special t entry) = SpecialRows t (members_of entries entry).first (members_of entries entry).count
