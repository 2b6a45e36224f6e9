-- The definitions at the edges that document 01 names: overlapping ranges, absent ids, no rows.
-- Assumes nothing.
use mathlib.Core.Path.{◌≡◌, refl}
use Prim.Native.Nat.{ℕ, ◌-◌}
use mathlib.Core.List.{List, [], ◌∷◌}
use lib.ListN.{length, replicate}
use Rattle.record.specs.Tree.{Row, Range, Encoding, none, absent, sequences}
use Rattle.lookup_ranges.specs.Ranges.{sequence_range, present, n_sequences, sequence_at, column, get_sequence_ids}

-- rows, and the ranges of sequences 0 and 1
abbrev pub two_ranges : List Row → Range → Range → Encoding
two_ranges r p q = record { rows = r; ranges = p ∷ q ∷ replicate (sequences - 2) absent; below = none }

abbrev pub range : ℕ → ℕ → Range
range start end = record { present = 1; start = start; end = end }

module _ (r : Row) where
  -- three rows
  abbrev pub three : Range → Range → Encoding
  three p q = two_ranges (r ∷ r ∷ r ∷ []) p q

  -- later ids overwrite in the column
  overwritten : get_sequence_ids (three (range 0 2) (range 1 3)) ≡ 1 ∷ 0 ∷ 1 ∷ 1 ∷ 1 ∷ 1 ∷ []
  unfolding get_sequence_ids column sequence_at sequence_range n_sequences present
  overwritten = refl

-- an id past the last place is absent
past_the_places : (r : List Row) → sequence_range (two_ranges r (range 0 0) absent) sequences ≡ record { start = 0; end = length r }
unfolding sequence_range
past_the_places r = refl

-- no rows, no numbers
no_rows : (p q : Range) → get_sequence_ids (two_ranges [] p q) ≡ []
unfolding get_sequence_ids column
no_rows p q = refl
