-- What a report counts of a batch, each count by a definition of its own (document 02, request 03).
-- Assumes nothing: these are definitions.
use Rattle.std.specs.Prelude.{ℕ, ◌+◌, Bool, ◌&&◌, not, cond, List, [], ◌∷◌, eqb}
use Rattle.record.specs.Tree.{Row, Forest, none, node}
use Rattle.record.specs.WellFormed.{nodes_in}
use Rattle.record.specs.Walk.{all_rows}

-- "windows at every level": of each encoding at the top all that stand below it
abbrev pub windows_in : Forest → ℕ
windows_in none = 0
windows_in (node r q w x) = nodes_in w + windows_in x

-- 1 for yes
unfoldable pub one : Bool → ℕ
one b = cond b 1 0

-- how many of the rows are such
unfoldable pub how_many : (Row → Bool) → List Row → ℕ
how_many such [] = 0
how_many such (r ∷ rs) = one (such r) + how_many such rs

-- "those with attention 0"
abbrev pub is_padding : Row → Bool
is_padding r = eqb r.attention 0

-- "those with attention not 0 and special mask not 0"
abbrev pub is_special : Row → Bool
is_special r = not (eqb r.attention 0) && not (eqb r.special 0)

-- "and the rest": attention is not 0 and the special mask is
abbrev pub is_rest : Row → Bool
is_rest r = not (eqb r.attention 0) && eqb r.special 0

-- "rows of both together, and of the rows those ..": at every level
abbrev pub padding_in : Forest → ℕ
padding_in f = how_many is_padding (all_rows f)

abbrev pub special_in : Forest → ℕ
special_in f = how_many is_special (all_rows f)

abbrev pub rest_in : Forest → ℕ
rest_in f = how_many is_rest (all_rows f)
