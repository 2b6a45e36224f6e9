-- `shift_ranges` shifts one range after another. Assumes nothing.
use mathlib.Core.Path.{◌≡◌}
use Prim.Native.Nat.{◌+◌}
use mathlib.Core.List.{flat_map}
use lib.Seq.{sets}
use Rattle.record.specs.Flat.{range_numbers}
use Rattle.pad_nodes.proofs.Ranges.{shifted_first}
use Rattle.pad_nodes.proofs.shift_ranges.Given as goal

abbrev pub invariant-loop-k : goal.invariant-loop-k
invariant-loop-k l = l.out ≡ sets l.initial.out (l.i + 2) (flat_map range_numbers (shifted_first l.nodes l.i l.shift l.k))
