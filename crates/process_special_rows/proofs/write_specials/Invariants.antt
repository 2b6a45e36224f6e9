-- `write_specials` writes a row for each member: after k turns, those of the first k. Assumes nothing.
use mathlib.Core.Path.{◌≡◌}
use mathlib.Core.List.{flat_map}
use lib.Seq.{sets}
use Rattle.record.specs.Flat.{row_numbers}
use Rattle.process_special_rows.specs.Lengthened.{special_rows}
use Rattle.process_special_rows.proofs.write_specials.Given as goal

abbrev pub invariant-loop-k : goal.invariant-loop-k
invariant-loop-k l = l.out ≡ sets l.initial.out l.to (flat_map row_numbers (special_rows l.members l.first l.k l.type_id))
