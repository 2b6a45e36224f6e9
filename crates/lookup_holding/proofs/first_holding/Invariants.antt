-- `first_holding` finds the first range that holds the row, and counts the row from its start: after k turns none before place
-- k does. Assumes nothing.
use mathlib.Core.Path.{◌≡◌}
use Rattle.lookup_ranges.specs.Promises.{OfTop}
use Rattle.lookup_ranges.specs.First.{first_from}
use Rattle.lookup_holding.specs.Holding.{holds_row}
use Rattle.lookup_holding.proofs.Holding.{first_holding}
use Rattle.lookup_holding.proofs.first_holding.Given as goal

abbrev pub invariant-loop-k : goal.invariant-loop-k
invariant-loop-k l = OfTop l.nodes (λ E. first_from (holds_row l.row) 0 E.ranges ≡ first_holding l.row l.k E)
