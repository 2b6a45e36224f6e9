-- `Encoding::empty` is the node of the empty encoding. Assumes nothing.
use mathlib.Core.Path.{refl}
use mathlib.Core.List.{flat_map}
use Rattle.record.specs.Flat.{flat_nodes, range_numbers}
use Rattle.record.proofs.Encoding.empty.Goals as goal

pub returns : goal.returns
unfolding flat_nodes flat_map range_numbers
returns c = refl
