-- `node_ok` decides whether the ranges of a node are fine: those before k are. Assumes nothing.
use Rattle.std.proofs.Common.{ℕ, ◌+◌, ◌*◌, ◌<◌, List, get_or}
use Rattle.record_fields.specs.Promises.{RangeOk}
use Rattle.record_fields.proofs.node_ok.Given as goal

-- the range of sequence k, of the node at i
abbrev pub Ok : List ℕ → ℕ → ℕ → Type 0
Ok nodes i k = RangeOk (get_or nodes i 0) (get_or nodes (i + 2 + k * 3) 0) (get_or nodes (i + 2 + k * 3 + 1) 0) (get_or nodes (i + 2 + k * 3 + 2) 0)

abbrev pub invariant-loop-k : goal.invariant-loop-k
invariant-loop-k l = (m : ℕ) → m < l.k → Ok l.nodes l.i m
