-- `block_of_shifts` is the block: its eight stores are the offsets of four rows. Assumes nothing.
use mathlib.Core.Path.{refl}
use mathlib.Core.List.{flat_map}
use Rattle.record.specs.Flat.{row_numbers}
use Rattle.join_shift.proofs.block_of_shifts.Goals as goal

pub returns : goal.returns
unfolding flat_map row_numbers
returns c = refl
