-- `step_on` meets its contract. The loop's invariant, `Seeking`: what is looked for from here on is what was looked for.
-- Assumes nothing.
use Rattle.chars_back.proofs.Seeking.{Seeking}
use Rattle.chars_back.proofs.step_on.Given as goal

abbrev pub invariant-loop-at : goal.invariant-loop-at
invariant-loop-at l = Seeking l.text l.from l.count l.at l.left
