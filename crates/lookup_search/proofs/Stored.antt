-- The numbers of the rows that a list of numbers begins with, by row and column.
-- Assumes nothing.
use mathlib.Core.Path.{◌≡◌, sym, ap, ◌∙◌}
use Prim.Native.Nat.{ℕ, ◌+◌, ◌*◌, ◌<◌}
use mathlib.Core.List.{List, [], ◌++◌}
use lib.Dec.{lit<}
use lib.ListN.{get_or, length}
use Rattle.record.specs.Tree.{Row, Encoding}
use Rattle.record.specs.Flat.{row_width, row_numbers, row_at, flat_rows}
use Rattle.record.specs.Standing.{One, RowsAt}
use Rattle.record.proofs.Flat.{several_at, row_stored}
use Rattle.lookup_search.specs.Promises.{at_word_mark, at_word, at_offset_start, at_offset_end}

-- A row for a place where there is none.
abbrev pub no_row : Row
no_row = row_at []

-- The rows of one encoding's batch begin with those of its top node.
pub one_begins : {nodes rows : List ℕ} {E : Encoding} → One nodes rows E → RowsAt rows 0 E.rows
unfolding flat_rows
one_begins {nodes} {rows} {E} h = record { rest = flat_rows E.below ++ []; is = sym h.stores.rows_are }

module _ {rows : List ℕ} {l : List Row} (h : RowsAt rows 0 l) (i : ℕ) (there : i < length l) where
  column : (j : ℕ) → j < row_width → get_or rows (i * row_width + j) 0 ≡ get_or (row_numbers (get_or l i no_row)) j 0
  column j k = ap (λ (xs : List ℕ). get_or xs (i * row_width + j) 0) h.is ∙ several_at row_stored l h.rest i j no_row there k

  pub stored_word_mark : get_or rows (i * row_width + at_word_mark) 0 ≡ (get_or l i no_row).word_mark
  unfolding row_numbers
  stored_word_mark = column at_word_mark (lit< tt)

  pub stored_word : get_or rows (i * row_width + at_word) 0 ≡ (get_or l i no_row).word
  unfolding row_numbers
  stored_word = column at_word (lit< tt)

  pub stored_offset_start : get_or rows (i * row_width + at_offset_start) 0 ≡ (get_or l i no_row).offset_start
  unfolding row_numbers
  stored_offset_start = column at_offset_start (lit< tt)

  pub stored_offset_end : get_or rows (i * row_width + at_offset_end) 0 ≡ (get_or l i no_row).offset_end
  unfolding row_numbers
  stored_offset_end = column at_offset_end (lit< tt)
