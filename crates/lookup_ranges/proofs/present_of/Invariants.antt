-- `present_of` counts the ranges: after k turns, those before place k. Assumes nothing.
use mathlib.Core.Path.{◌≡◌}
use Prim.Native.Nat.{◌+◌, ◌≤◌}
use Rattle.lookup_ranges.specs.Promises.{OfTop}
use Rattle.lookup_ranges.specs.Ranges.{present}
use Rattle.lookup_ranges.proofs.Ranges.{present_from}
use Rattle.lookup_ranges.proofs.present_of.Given as goal

abbrev pub invariant-loop-k : goal.invariant-loop-k
invariant-loop-k l = (l.n ≤ l.k) × OfTop l.nodes (λ E. l.n + present_from l.k E ≡ present E.ranges)
