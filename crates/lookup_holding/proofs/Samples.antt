-- `token_to_sequence` at the edges that the documents name: the row count itself, overlapping ranges, a range that starts
-- later than row 0.
-- Assumes nothing.
use mathlib.Core.Path.{◌≡◌, refl}
use mathlib.Core.Option.{none as nothing, some}
use Prim.Native.Nat.{ℕ}
use Rattle.record.specs.Tree.{Row, absent}
use Rattle.lookup_ranges.specs.First.{first_from}
use Rattle.lookup_ranges.specs.Ranges.{present}
use Rattle.lookup_ranges.proofs.Samples.{range, three}
use Rattle.lookup_holding.specs.Holding.{Placed, holding_sequence, place_in, token_to_sequence}

abbrev placed : ℕ → ℕ → Placed
placed sequence place = record { sequence = sequence; place = place }

module _ (r : Row) where
  -- without ranges a row number that is the row count itself is in sequence 0, with itself as its place; one above it in none
  at_the_count : token_to_sequence (three r absent absent) 3 ≡ some (placed 0 3)
  unfolding token_to_sequence holding_sequence place_in present
  at_the_count = refl

  above_the_count : token_to_sequence (three r absent absent) 4 ≡ nothing
  unfolding token_to_sequence holding_sequence present
  above_the_count = refl

  -- of two ranges that hold the row the one with the smaller id, and the place is counted from its start, not from the
  -- nearest
  overlapping : token_to_sequence (three r (range 0 2) (range 1 3)) 1 ≡ some (placed 0 1)
  unfolding token_to_sequence holding_sequence place_in present first_from
  overlapping = refl

  -- the smaller id, also where its range starts later
  overlapping_later : token_to_sequence (three r (range 1 3) (range 0 3)) 2 ≡ some (placed 0 1)
  unfolding token_to_sequence holding_sequence place_in present first_from
  overlapping_later = refl

  -- where there are ranges, a row that none of them holds is in no sequence, though it is a row
  between : token_to_sequence (three r (range 0 1) (range 2 3)) 1 ≡ nothing
  unfolding token_to_sequence holding_sequence present first_from
  between = refl
