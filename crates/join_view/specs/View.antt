-- How the second operand of a join is seen: as it stands, or with what a template's piece sets on it (document 01, module 9).
-- Assumes nothing: these are definitions.
use Rattle.std.specs.Prelude.{List, map, ℕ, ◌<◌, length, set}
use Rattle.record.specs.Tree.{Row, Range, Forest, none, node, Encoding, sequences}
use Rattle.record_write.specs.Writing.{present_range}
use Rattle.join_view.specs.declared.View.{View}
use Rattle.join_view.specs.declared.View.TheVariants.{Plain, Window, Piece}

-- a sequence that is set has a place
abbrev pub ViewFine : View → Type 0
ViewFine Plain = Unit {0}
ViewFine (Window k) = k < sequences
ViewFine (Piece k t) = k < sequences

-- The view of an encoding's windows: "Encoding i gets sequence id i, and so do its first-level windows".
abbrev pub below : View → View
below Plain = Plain
below (Window k) = Plain
below (Piece k t) = Window k

-- "each piece sets type and sequence on the top encoding only"
abbrev pub typed_row : ℕ → Row → Row
typed_row t r = record { id = r.id; type_id = t; pool = r.pool; text_start = r.text_start; text_length = r.text_length; word_mark = r.word_mark; word = r.word; offset_start = r.offset_start; offset_end = r.offset_end; special = r.special; attention = r.attention }

abbrev pub rows_seen : View → List Row → List Row
rows_seen Plain rs = rs
rows_seen (Window k) rs = rs
rows_seen (Piece k t) rs = map (typed_row t) rs

-- The ranges of a node of n rows: a sequence that is set has all of them.
abbrev pub ranges_seen : View → ℕ → List Range → List Range
ranges_seen Plain n q = q
ranges_seen (Window k) n q = set q k (present_range 0 n)
ranges_seen (Piece k t) n q = set q k (present_range 0 n)

-- Encodings side by side are seen alike, their windows one level down.
abbrev pub all_seen : View → Forest → Forest
all_seen v none = none
all_seen v (node r q w x) = node (rows_seen v r) (ranges_seen v (length r) q) (all_seen (below v) w) (all_seen v x)

abbrev pub seen : View → Encoding → Encoding
seen v E = record { rows = rows_seen v E.rows; ranges = ranges_seen v (length E.rows) E.ranges; below = all_seen (below v) E.below }
