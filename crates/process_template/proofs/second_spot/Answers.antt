-- `second_spot`: where the first encoding ends. Assumes nothing.
use mathlib.Core.List.{[], ◌∷◌}
use native.Mathlib.Omega.{arith}
use Rattle.record.specs.Tree.{forest}
use Rattle.record_extent.proofs.Pair.{first_here, few_held}
use Rattle.record_extent.proofs.Stands.{here_stands}
use Rattle.process_template.proofs.Inputs.{inputs_of}
use Rattle.process_template.proofs.second_spot.Goals as goal

pub measure-first-requires : goal.measure-first-requires
measure-first-requires c = let a = c.requires in (forest (a.E ∷ []), here_stands (first_here a.second a.stores))

pub overflow_mul-result : goal.overflow_mul-result
overflow_mul-result c = let a = c.requires in let h = first_here a.second a.stores in omega (arith, (few_held h (c.measure-first.ensures _ (here_stands h))).0)

pub overflow_mul-result-2 : goal.overflow_mul-result-2
overflow_mul-result-2 c = let a = c.requires in let h = first_here a.second a.stores in omega (arith, (few_held h (c.measure-first.ensures _ (here_stands h))).1)

pub returns : goal.returns
returns c = λ E second h. inputs_of second h (c.measure-first.ensures _ (here_stands (first_here second h)))
