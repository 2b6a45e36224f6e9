-- `write_range` leaves a present range at `at`: three stores in a row. Assumes nothing.
use mathlib.Core.List.{[], ◌∷◌}
use Rattle.record.specs.Flat.{range_numbers}
use Rattle.record_write.proofs.Put.{puts_after}
use Rattle.record_write.proofs.write_range.Goals as goal

pub returns : goal.returns
unfolding range_numbers
returns c = puts_after c.args.out.now c.args.at 1 (c.args.start ∷ c.args.end ∷ [])
