-- The ranges of a padded node (document 01, "Pad").
-- Assumes nothing: these are definitions.
use Rattle.std.specs.Prelude.{cond, ℕ, List, map, eqb}
use Rattle.record.specs.Tree.{Range, shifted}
use Rattle.cut_plan.specs.declared.Direction.{Direction}
use Rattle.cut_plan.specs.declared.Direction.TheVariants.{Left, Right}

-- a range n rows further on; an absent one stays absent
abbrev pub shifted_present : ℕ → Range → Range
shifted_present n p = cond (eqb p.present 0) p (shifted n p)

-- "Left padding shifts ranges, right does not."
abbrev pub padded_ranges : Direction → ℕ → List Range → List Range
padded_ranges Left n q = map (shifted_present n) q
padded_ranges Right n q = q
