-- What an encoding has at each level, its profile, and whether it is within the limits.
-- Assumes nothing: these are definitions.
use Rattle.std.specs.Prelude.{◌≡◌, List, [], ◌∷◌, map, ℕ, zero, suc, ◌+◌, length, Option, None, Some}
use Rattle.record.specs.Tree.{Row, Encoding, forest, windows}
use Rattle.record.specs.WellFormed.{Fits, levels}
use Rattle.join_levels.specs.declared.Profile.{Profile}
use Rattle.join_table.specs.Table.{at}

-- ---- The sum of a count over the encodings of one level

abbrev pub sum : List ℕ → ℕ
sum [] = 0
sum (n ∷ ns) = n + sum ns

-- c of the rows of each encoding d levels below E, added up
unfoldable pub weight_at : (List Row → ℕ) → ℕ → Encoding → ℕ
weight_at c zero E = c E.rows
weight_at c (suc d) E = sum (map (weight_at c d) (windows E))

-- an encoding counts once
abbrev pub counted_once : List Row → ℕ
counted_once r = 1

abbrev pub nodes_at : ℕ → Encoding → ℕ
nodes_at d E = weight_at counted_once d E

abbrev pub rows_at : ℕ → Encoding → ℕ
rows_at d E = weight_at length d E

-- ---- A profile

-- p is E's: the nodes and the rows at each level, and the levels below the top
pub record ProfileOf (E : Encoding) (p : Profile) : Type 0 where
  pub deep : p.levels ≡ levels E.below
  pub nodes : (d : ℕ) → at p.nodes d ≡ nodes_at d E
  pub rows : (d : ℕ) → at p.rows d ≡ rows_at d E

-- p is that of some encoding within the limits
pub record Profiled (p : Profile) : Type 0 where
  pub E : Encoding
  pub is : ProfileOf E p
  pub fits : Fits (forest (E ∷ []))

-- what is told of an encoding: its profile, or none if it is too large
abbrev pub Measured : Type 0
Measured = Option Profile

-- the answer says whether E is within the limits, and then E's profile
abbrev pub Measures : Encoding → Measured → Type 0
Measures E None = Fits (forest (E ∷ [])) → ⊥
Measures E (Some p) = ProfileOf E p × Fits (forest (E ∷ []))
