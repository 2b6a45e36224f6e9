-- The windows of a cut put together again (document 02, requests 04 and 10).
-- Assumes nothing: these are definitions.
use Rattle.std.specs.Prelude.{ℕ, drop}
use mathlib.Core.List.{List, [], ◌∷◌, ◌++◌, flat_map, reverse}
use Rattle.cut_plan.specs.declared.Direction.{Direction}
use Rattle.cut_plan.specs.declared.Direction.TheVariants.{Left, Right}

-- "in text order": a right cut has its windows so, a left cut the other way round
abbrev pub text_order : {A : Type 0} → Direction → List A → List A
text_order Right ws = ws
text_order Left ws = reverse ws

-- "joining the windows in text order, with the first stride rows of all but the first left off"
abbrev pub rejoined : {A : Type 0} → ℕ → List (List A) → List A
rejoined stride [] = []
rejoined stride (w ∷ ws) = w ++ flat_map (drop stride) ws
