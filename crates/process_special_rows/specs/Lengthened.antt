-- Rows of members of the special table, after the rows of every node.
-- Assumes nothing: these are definitions.
use Rattle.std.specs.Prelude.{List, ◌++◌, map, ℕ}
use Rattle.record.specs.Tree.{Row, Forest, none, node}
use Rattle.template_entries.specs.Rows.{special_row, members_from}

-- the rows of `count` members of the table, from the first on
abbrev pub special_rows : List ℕ → ℕ → ℕ → ℕ → List Row
special_rows members first count t = map (special_row t) (members_from members first count)

-- Every encoding, windows at every level included, with these rows after its own: what a join becomes that does not grow,
-- if the second operand has these rows, no ranges and no windows (`join_lengthens`).
abbrev pub lengthened : List Row → Forest → Forest
lengthened new none = none
lengthened new (node r q w x) = node (r ++ new) q (lengthened new w) (lengthened new x)
