-- Small batches that pass, and that break each rule, as one list with one claim, by computing: which rule is told, of which node and
-- which row.
-- Assumes nothing.
use mathlib.Core.Path.{◌≡◌, refl}
use mathlib.Core.Option.{Option, none as nothing, some}
use Prim.Native.Nat.{ℕ, ◌-◌}
use mathlib.Core.List.{List, [], ◌∷◌}
use lib.ListN.{replicate}
use Rattle.lists.specs.Lists.{All}
use Rattle.record.specs.Tree.{Row, Range, Forest, none, node, sequences, absent}
use Rattle.lookup_ranges.specs.Ranges.{present}
use Rattle.profile_trees.specs.Rules.{has_windows, holders, in_two, last_word, falls_from, word_falls}
use Rattle.profile_trees.specs.Profile.{batch_nodes, rows_from, node_rows, first_row, first_break, first_broken}
use Rattle.profile_trees.specs.declared.Break.{Break}

-- ---- Rows, ranges and what is told

row : ℕ → ℕ → ℕ → ℕ → ℕ → ℕ → Row
row mark word from to mask attention = record { id = 0; type_id = 0; pool = 0; text_start = 0; text_length = 0; word_mark = mark; word = word; offset_start = from; offset_end = to; special = mask; attention = attention }

-- a row with a word, one without, one of padding
worded : ℕ → Row
worded word = row 1 word 0 0 0 1

plain : Row
plain = row 0 0 0 0 0 1

padding : Row
padding = row 0 0 0 0 1 0

from_to_lem : ℕ → ℕ → Range
from_to_lem start end = record { present = 1; start = start; end = end }

without : List Range
without = replicate sequences absent

-- two ranges, under the ids 0 and 1
two : Range → Range → List Range
two p q = p ∷ q ∷ replicate (sequences - 2) absent

told : ℕ → ℕ → ℕ → Option Break
told rule n k = some (record { rule = rule; node = n; row = k })

-- ---- The samples

pub record Sample : Type 0 where
  pub batch : Forest
  pub broken : Option Break

of : Forest → Option Break → Sample
of batch broken = record { batch = batch; broken = broken }

pub samples : List Sample
samples =
    -- nothing breaks a rule in no encodings
    of none nothing
    -- an encoding at the top may have windows; a word may come again, and a row without one lies between; offsets may be equal
    ∷ of (node (worded 1 ∷ plain ∷ worded 1 ∷ worded 4 ∷ padding ∷ []) without (node [] without none (node (worded 3 ∷ []) without none none)) none) nothing
    -- ranges side by side: the words of each are compared among themselves, and those outside not at all
    ∷ of (node (worded 5 ∷ worded 6 ∷ worded 1 ∷ worded 9 ∷ worded 2 ∷ []) (two (from_to_lem 2 3) (from_to_lem 0 2)) none none) nothing
    -- an empty range inside another shares no row with it, nor parts its words
    ∷ of (node (worded 1 ∷ worded 2 ∷ []) (two (from_to_lem 0 2) (from_to_lem 1 1)) none none) nothing
    ∷ of (node (worded 2 ∷ worded 1 ∷ []) (two (from_to_lem 0 2) (from_to_lem 1 1)) none none) (told 6 0 1)
    -- one whose only range is empty has a range, so no word is looked at
    ∷ of (node (worded 2 ∷ worded 1 ∷ []) (two (from_to_lem 1 1) absent) none none) nothing
    -- the window that has windows, although it has no rows
    ∷ of (node (plain ∷ []) without (node [] without (node [] without none none) none) none) (told 1 1 0)
    -- either mask
    ∷ of (node (plain ∷ row 0 0 0 0 2 1 ∷ []) without none none) (told 2 0 1)
    ∷ of (node (plain ∷ row 0 0 0 0 0 2 ∷ []) without none none) (told 2 0 1)
    -- attention 0 where the special mask is 0, not where it is 1
    ∷ of (node (padding ∷ row 0 0 0 0 0 0 ∷ []) without none none) (told 3 0 1)
    ∷ of (node (row 0 0 4 4 0 1 ∷ row 0 0 5 4 0 1 ∷ []) without none none) (told 4 0 1)
    -- the first row in two ranges
    ∷ of (node (plain ∷ plain ∷ plain ∷ plain ∷ []) (two (from_to_lem 2 4) (from_to_lem 0 3)) none none) (told 5 0 2)
    -- the first row of the node, not of the range with the lowest id
    ∷ of (node (worded 2 ∷ worded 1 ∷ worded 2 ∷ worded 1 ∷ []) (two (from_to_lem 2 4) (from_to_lem 0 2)) none none) (told 6 0 1)
    -- "below the last one present before it there": rows without a word are passed over, and so are words before the last
    ∷ of (node (worded 5 ∷ worded 7 ∷ plain ∷ worded 6 ∷ []) without none none) (told 6 0 3)
    ∷ of (node (worded 7 ∷ worded 5 ∷ worded 6 ∷ []) without none none) (told 6 0 1)
    -- rule by rule, then depth first
    ∷ of (node (row 0 0 5 4 0 1 ∷ []) without (node (plain ∷ row 0 0 0 0 0 2 ∷ []) without none none) none) (told 2 1 1)
    -- a window goes before the next encoding at the top, and has the number after its encoding's
    ∷ of (node (plain ∷ []) without (node (row 0 0 5 4 0 1 ∷ []) without none none) (node (row 0 0 7 4 0 1 ∷ []) without none none)) (told 4 1 0)
    ∷ of (node (plain ∷ []) without (node (plain ∷ []) without none none) (node (row 0 0 7 4 0 1 ∷ []) without none none)) (told 4 2 0)
    ∷ []

pub hold : All (λ s. first_broken s.batch ≡ s.broken) samples
unfolding row worded plain padding from_to_lem without two told of samples first_broken first_break first_row node_rows rows_from batch_nodes has_windows in_two holders word_falls falls_from last_word present
hold = (refl, (refl, (refl, (refl, (refl, (refl, (refl, (refl, (refl, (refl, (refl, (refl, (refl, (refl, (refl, (refl, (refl, (refl, tt))))))))))))))))))
