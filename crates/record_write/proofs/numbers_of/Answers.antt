-- `numbers_of` lists them in their order. Assumes nothing.
use mathlib.Core.Path.{refl}
use Rattle.record.specs.Flat.{row_numbers}
use Rattle.record_write.proofs.numbers_of.Goals as goal

pub returns : goal.returns
unfolding row_numbers
returns c = refl
