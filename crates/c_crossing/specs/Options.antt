-- The options of a cut, as they cross the C interface: padding has the first of them too.
-- Assumes nothing: these are definitions.
use Rattle.std.specs.Prelude.{Bool, true, false, cond, ℕ, eqb}
use Rattle.cut_plan.specs.declared.Direction as direction
use Rattle.cut_lengths.specs.declared.Strategy as strategy

-- the left end of the rows, or the right
abbrev pub direction_of : Bool → direction.Direction
direction_of true = direction.TheVariants.Left
direction_of false = direction.TheVariants.Right

-- which of a pair is cut
abbrev pub strategy_of : ℕ → strategy.Strategy
strategy_of n = cond (eqb n 0) strategy.TheVariants.LongestFirst (cond (eqb n 1) strategy.TheVariants.OnlyFirst strategy.TheVariants.OnlySecond)
