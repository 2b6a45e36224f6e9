-- What the quick test of a row goes by.
-- Assumes nothing: these are definitions.
use Rattle.std.specs.Prelude.{Bool, ◌&&◌, ◌||◌, ℕ, eqb, ltb}
use Rattle.record.specs.Tree.{Row}

-- one of the rules on masks is broken: one is above 1, or both are 0
abbrev pub mask_rule : ℕ → ℕ → Bool
mask_rule special attention = ltb 1 special || (ltb 1 attention || (eqb attention 0 && eqb special 0))

-- one of the rules on rows is broken: on masks, on offsets, or on words, where these are looked at
abbrev pub quick_rule : Bool → ℕ → Row → Bool
quick_rule words last r = (mask_rule r.special r.attention || ltb r.offset_end r.offset_start) || (words && (eqb r.word_mark 1 && ltb r.word last))
