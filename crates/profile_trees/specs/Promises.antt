-- The first break as the functions hold it, and of two breaks the one that goes first.
-- Assumes nothing: these are definitions.
use Rattle.std.specs.Prelude.{ℕ, ◌≤◌, cond, List, [], ◌∷◌, ltb}
use Rattle.std.proofs.Math.Option.{Option, none as nothing, some}
use Rattle.profile_trees.specs.Rules.{Rule, NumberedRule, rule, of_row, other_mask, unattended, start_passes, in_two}
use Rattle.profile_trees.specs.declared.Break.{Break}

-- one above the last rule
abbrev pub no_rule : ℕ
no_rule = 7

abbrev pub held : Option Break → Break
held nothing = record { rule = no_rule; node = 0; row = 0 }
held (some b) = b

-- the second only if its rule goes before that of the first
unfoldable pub better : Option Break → Option Break → Option Break
better nothing b = b
better (some a) nothing = some a
better (some a) (some b) = cond (ltb b.rule a.rule) (some b) (some a)

-- the rule that is looked for by the ranges of a node alone
abbrev pub shared_rules : List NumberedRule
shared_rules = rule 5 in_two ∷ []

-- the rules that are looked for row by row, with a test for the sixth
abbrev pub row_rules : Rule → List NumberedRule
row_rules falls = rule 2 (of_row other_mask) ∷ rule 3 (of_row unattended) ∷ rule 4 (of_row start_passes) ∷ rule 6 falls ∷ []

-- a lower rule than the sixth is broken
abbrev pub LowerBroken : Option Break → Type 0
LowerBroken nothing = ⊥
LowerBroken (some b) = b.rule ≤ 5
