-- What the functions on one row give.
-- Assumes nothing: these are definitions.
use Rattle.std.specs.Prelude.{Bool, ◌&&◌, cond, ℕ, eqb, ltb}
use Rattle.record.specs.Tree.{Row}
use Rattle.profile_trees.specs.Rules.{other_mask, unattended, start_passes}
use Rattle.profile_trees.specs.Promises.{no_rule}

-- the lowest rule on rows that a row breaks; nothing is below a last word of 0, which stands for none
abbrev pub lowest_rule : Bool → ℕ → Row → ℕ
lowest_rule words last r =
    cond (other_mask r) 2
    (cond (unattended r) 3
    (cond (start_passes r) 4
    (cond (words && (eqb r.word_mark 1 && ltb r.word last)) 6 no_rule)))

-- the last word after a row with this mark and word
abbrev pub word_after : ℕ → ℕ → ℕ → ℕ
word_after mark word last = cond (eqb mark 1) word last
