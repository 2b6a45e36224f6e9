-- `node_numbers` meets its contract: the count of the nodes, times their width. Assumes nothing.
use mathlib.Core.Path.{ap}
use Prim.Native.Nat.{ℕ, ◌*◌}
use Rattle.record.specs.Flat.{node_width}
use Rattle.report_stored.specs.Stored.{node_words}
use native.Mathlib.Omega.{arith}
use Rattle.report_stored.proofs.node_numbers.Goals as goal

pub returns : goal.returns
unfolding node_words
returns c = (ap (λ (n : ℕ). n * node_width) c.word_at.ensures, omega arith)
