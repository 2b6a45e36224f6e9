-- The record as a tree: rows, ranges, and encodings with their windows (document 01, "The record as it is lent").
-- Assumes nothing: these are definitions.
use Rattle.std.specs.Prelude.{ℕ, ◌+◌, List, [], ◌∷◌, length, replicate}

-- "A row is 11 numbers: id, type id, pool (0 token texts, 1 added texts), text start, text length, word mark (0 none,
-- 1 present), word (0 if none), offset start, offset end, special mask, attention mask."
pub record Row : Type 0 where
  pub id : ℕ
  pub type_id : ℕ
  pub pool : ℕ
  pub text_start : ℕ
  pub text_length : ℕ
  pub word_mark : ℕ
  pub word : ℕ
  pub offset_start : ℕ
  pub offset_end : ℕ
  pub special : ℕ
  pub attention : ℕ

-- "for each sequence id 0 to 7 a present mark, start and end of its range (zeros if absent)"
pub record Range : Type 0 where
  pub present : ℕ
  pub start : ℕ
  pub end : ℕ

-- "sequence id 0 to 7": the one line of the definitions that a change of the number of sequences changes.
abbrev pub sequences : ℕ
sequences = 8

abbrev pub absent : Range
absent = record { present = 0; start = 0; end = 0 }

-- "A batch is any number of encodings one after another": none, or an encoding (its rows, its ranges, its windows) and
-- then the encodings after it. One type for both lists of windows and batches, so that every induction is a plain one.
pub data Forest : Type 0 where
  none : Forest
  node : List Row → List Range → Forest → Forest → Forest

-- An encoding: its own rows, its range places, its direct windows in order.
pub record Encoding : Type 0 where
  pub rows : List Row
  pub ranges : List Range
  pub below : Forest

-- The encodings of a forest as a list, and back.
abbrev pub listed : Forest → List Encoding
listed none = []
listed (node r q w x) = record { rows = r; ranges = q; below = w } ∷ listed x

abbrev pub forest : List Encoding → Forest
forest [] = none
forest (E ∷ Es) = node E.rows E.ranges E.below (forest Es)

abbrev pub windows : Encoding → List Encoding
windows E = listed E.below

abbrev pub encoding : List Row → List Range → List Encoding → Encoding
encoding r q ws = record { rows = r; ranges = q; below = forest ws }

-- A range n rows further on.
abbrev pub shifted : ℕ → Range → Range
shifted n p = record { present = p.present; start = p.start + n; end = p.end + n }

-- The number of encodings at the top.
abbrev pub tops : Forest → ℕ
tops f = length (listed f)

-- The empty encoding: no rows, no ranges, no windows.
abbrev pub empty : Encoding
empty = encoding [] (replicate sequences absent) []
