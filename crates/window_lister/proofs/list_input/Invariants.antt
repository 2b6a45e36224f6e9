-- The output stays ready and keeps its length. Assumes nothing.
use mathlib.Core.Path.{◌≡◌}
use lib.ListN.{length}
use Rattle.listing.specs.Promises.{ReadyOutput}
use Rattle.window_lister.proofs.list_input.Given as goal

abbrev pub invariant-loop : goal.invariant-loop
invariant-loop g l = ReadyOutput l.out l.waiting × (length l.out ≡ length l.initial.out)
