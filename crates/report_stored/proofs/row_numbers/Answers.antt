-- `row_numbers` meets its contract: the count of the rows, times their width. Assumes nothing.
use mathlib.Core.Path.{ap}
use Prim.Native.Nat.{ℕ, ◌*◌}
use Rattle.record.specs.Flat.{row_width}
use Rattle.report_stored.specs.Stored.{row_words}
use native.Mathlib.Omega.{arith}
use Rattle.report_stored.proofs.row_numbers.Goals as goal

pub returns : goal.returns
unfolding row_words
returns c = (ap (λ (n : ℕ). n * row_width) c.word_at.ensures, omega arith)
