-- What the functions ask and give that size a join.
-- Assumes nothing: these are definitions.
use Rattle.join_levels.specs.Levels.{ProfileOf, Measured, Measures}
use Rattle.std.specs.Prelude.{Bool}
use Rattle.record.specs.Tree.{Encoding}
use Rattle.join_trees.specs.Join.{join}
use Rattle.join_levels.specs.declared.Profile.{Profile}

-- The join of any two encodings that have these profiles, growing or not.
abbrev pub SizesJoin : Profile → Profile → Measured → Type 0
SizesJoin s p r = (growing : Bool) (S P : Encoding) → ProfileOf S s → ProfileOf P p → Measures (join growing S P) r
