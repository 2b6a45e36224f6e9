-- `fold_size` measures the fold by profiles, or, where there are as many nodes as encodings, by the rows. Assumes nothing.
use mathlib.Core.Path.{ap, ◌∙◌}
use mathlib.Core.Bool.{false}
use native.Mathlib.Omega.{arith}
use Rattle.record.specs.Tree.{listed, tops}
use Rattle.record.proofs.Read.{unique}
use Rattle.join_trees.specs.Join.{fold}
use Rattle.fold_levels.proofs.Folded.{stores_holds}
use Rattle.join_size.proofs.Sizes.{measured_profiled}
use Rattle.fold_check.proofs.Windowless.{fold_plain_sizes}
use Rattle.record.proofs.Counts.{tops_few}
use Rattle.fold_check.proofs.fold_size.Goals as goal

pub overflow_mul-count : goal.overflow_mul-count
overflow_mul-count c = let a = c.requires in omega (arith, tops_few a.f, a.counts, a.stores.well.fits.few_nodes)

pub returns-then-nodes-count : goal.returns-then-nodes-count
returns-then-nodes-count c = λ g f s. let a = c.requires in fold_plain_sizes g _ s (a.counts ∙ ap tops (unique _ _ a.f f a.stores s)) c.if-nodes-count.true

pub folded_profile-requires : goal.folded_profile-requires
folded_profile-requires c = let a = c.requires in record { f = a.f; holds = stores_holds a.stores }

pub size_of-requires : goal.size_of-requires
size_of-requires c = let a = c.requires in measured_profiled _ _ (c.folded_profile.ensures false a.f (stores_holds a.stores))

pub returns : goal.returns
returns c = λ g f s. c.size_of.ensures (fold g (listed f)) (c.folded_profile.ensures g f (stores_holds s))
