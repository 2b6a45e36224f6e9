-- Together the encodings of the result have at most the max length of rows.
-- Assumes nothing.
use mathlib.Core.Path.{◌≡◌, refl, ap}
use mathlib.Core.Bool.{Bool, true, false, ◌||◌, cond}
use mathlib.Core.Option as maybe
use Prim.Native.Nat.{ℕ, ◌+◌, ◌≤◌}
use native.Mathlib.Omega.{arith}
use mathlib.Core.List.{List, [], ◌∷◌, map}
use lib.ListN.{length}
use Rattle.std.specs.Prelude.{Option, Some, None, Result, Ok, Err, unwrap_or}
use Rattle.record.specs.Tree.{Forest, none, node, Encoding, listed, forest}
use Rattle.lists.specs.Lists.{All}
use Rattle.record.specs.Read.{Reading, malformed, holds, one_or_two, of_one_or_two}
use Rattle.record.specs.Outcome.{Outcome, refused, done, in_room}
use Rattle.record.specs.declared.Refusal.{Refusal}
use Rattle.record.specs.declared.Refusal.TheVariants.{MalformedRecord, NoRoom, Stride}
use Rattle.cut_plan.specs.Cut.{windows_of, decision_of}
use Rattle.cut_lengths.specs.Lengths.{kept_lengths, rows_of_second}
use Rattle.record.specs.declared.Bounds.{Bounds}
use Rattle.cut_plan.specs.declared.Direction.{Direction}
use Rattle.cut_lengths.specs.declared.Strategy.{Strategy}
use Rattle.cut_plan.specs.declared.Decision.{Decision}
use Rattle.cut_plan.specs.declared.Decision.TheVariants.{Whole, Emptied, StrideRefused, Windows}
use Rattle.cut_lengths.specs.declared.Kept.{Kept}
use Rattle.cut_plan.proofs.Laws.{Sized, windows_sized}
use Rattle.cut_plan.proofs.Decides.{Says, decided}
use Rattle.cut_lengths.proofs.Sum.{KeepsOf, KeepsRows, lengths_keep}
use Rattle.record_extent.specs.Size.{size_of, roomy}
use Rattle.record_extent.proofs.Room.{room_by_size}
use Rattle.cut_windows.specs.Made.{stretch_of, gathered}
use Rattle.cut_windows.proofs.Parts.{size_part}
use Rattle.truncate.specs.Truncate.{cut_outcome}
use Rattle.truncate_size.specs.Size.{stride_refused}
use Rattle.truncate_write.specs.Truncated.{truncated}
use Rattle.truncate_write.proofs.Sizes.{truncated_whole, truncated_emptied, truncated_cut, not_refused}
use Rattle.truncate_two.specs.CutBoth.{cut_both_outcome}
use Rattle.truncate_in_turn.specs.TruncatePair.{cut_kept, unless_refused, truncate_pair_outcome}

-- ---- What a cut keeps

-- a cut to max rows that is not refused keeps no more
pub rows_kept : (max stride : ℕ) (d : Direction) (E : Encoding) → stride_refused (length E.rows) max stride ≡ false → length (truncated max stride d E).rows ≤ max
rows_kept max stride d E t = go (decision_of (length E.rows) max stride) (decided (length E.rows) max stride)
  where
    kept : {F : Encoding} → truncated max stride d E ≡ F → length F.rows ≤ max → length (truncated max stride d E).rows ≤ max
    kept e h = omega (arith, ap (λ (F : Encoding). length F.rows) e)

    first : (bs : List Bounds) → All (Sized (length E.rows) max stride) bs → length (gathered (map (stretch_of E.rows) bs)).rows ≤ max
    first [] h = omega arith
    first (b ∷ bs) (h, hs) = omega (arith, size_part E.rows b h.inside, h.within_max)

    go : (k : Decision) → Says (length E.rows) max stride k → length (truncated max stride d E).rows ≤ max
    go Whole s = kept (truncated_whole max stride d E s) s
    go Emptied (z, s) = kept (truncated_emptied max stride d E z s) (omega arith)
    go StrideRefused s = absurd (not_refused (length E.rows) max stride t s)
    go (Windows count) (u, c) = kept (truncated_cut max stride d E u) (first (windows_of (length E.rows) max stride d) (windows_sized u d))

-- ---- What is done, is done with the encodings that were to be written

-- the rows of the encodings at the top
pub top_rows : Forest → ℕ
top_rows none = 0
top_rows (node r q w x) = length r + top_rows x

-- what is done has at most this many
abbrev pub Within : ℕ → Outcome → Type 0
Within most (refused k) = Unit {0}
Within most (done f) = top_rows f ≤ most

in_room_within : (most : ℕ) (nodes rows : List ℕ) (f : Forest) → top_rows f ≤ most → Within most (in_room nodes rows f)
in_room_within most nodes rows f h = rw (room_by_size nodes rows f) (go (roomy (size_of f) (length nodes) (length rows)))
  where
    go : (b : Bool) → Within most (cond b (done f) (refused NoRoom))
    go true = h
    go false = tt

module _ (most : ℕ) (nodes rows : List ℕ) (stride : ℕ) (d : Direction) where
  one_within : (n : ℕ) (E : Encoding) → n ≤ most → Within most (cut_outcome nodes rows n stride d E)
  unfolding cut_outcome top_rows
  one_within n E h = go (stride_refused (length E.rows) n stride) refl
    where
      go : (b : Bool) → stride_refused (length E.rows) n stride ≡ b → Within most (cond b (refused Stride) (in_room nodes rows (forest (truncated n stride d E ∷ []))))
      go true e = tt
      go false e = in_room_within most nodes rows _ (omega (arith, rows_kept n stride d E e))

  both_within : (n m : ℕ) (E F : Encoding) → n + m ≤ most → Within most (cut_both_outcome nodes rows n m stride d E F)
  unfolding cut_both_outcome top_rows
  both_within n m E F h = go (stride_refused (length E.rows) n stride) refl (stride_refused (length F.rows) m stride) refl
    where
      go : (b : Bool) → stride_refused (length E.rows) n stride ≡ b → (c : Bool) → stride_refused (length F.rows) m stride ≡ c → Within most (cond (b || c) (refused Stride) (in_room nodes rows (forest (truncated n stride d E ∷ truncated m stride d F ∷ []))))
      go true e c g = tt
      go false e true g = tt
      go false e false g = in_room_within most nodes rows _ (omega (arith, rows_kept n stride d E e, rows_kept m stride d F g))

  kept_within : (E : Encoding) (second : maybe.Option Encoding) (k : Result Kept Refusal) → KeepsRows (length E.rows) (rows_of_second second) most k → Within most (unless_refused (cut_kept nodes rows stride d E second) k)
  kept_within E second (Err k) h = tt
  kept_within E second (Ok k) h = of_kept second k.second h
    where
      of_kept : (second : maybe.Option Encoding) (m : Option ℕ) → KeepsOf (length E.rows) (rows_of_second second) most k.first m → Within most (cut_kept nodes rows stride d E second k.first (unwrap_or m 0))
      of_kept maybe.none None h = one_within k.first E (omega arith)
      of_kept maybe.none (Some m) h = absurd h
      of_kept (maybe.some F) None h = absurd h
      of_kept (maybe.some F) (Some m) h = both_within k.first m E F (omega (arith, h.together))

  -- for every strategy and every batch
  pub outcome_within : (s : Strategy) (r : Reading) → Within most (truncate_pair_outcome nodes rows most stride s d r)
  unfolding truncate_pair_outcome of_one_or_two
  outcome_within s malformed = tt
  outcome_within s (holds f) = go (listed f)
    where
      of : (E : Encoding) (second : maybe.Option Encoding) → Within most (unless_refused (cut_kept nodes rows stride d E second) (kept_lengths (length E.rows) (rows_of_second second) most s))
      of E second = kept_within E second (kept_lengths (length E.rows) (rows_of_second second) most s) (lengths_keep (length E.rows) (rows_of_second second) most s)

      go : (l : List Encoding) → Within most (one_or_two (refused MalformedRecord) (λ E second. unless_refused (cut_kept nodes rows stride d E second) (kept_lengths (length E.rows) (rows_of_second second) most s)) l)
      go [] = tt
      go (E ∷ []) = of E maybe.none
      go (E ∷ F ∷ []) = of E (maybe.some F)
      go (E ∷ F ∷ G ∷ l) = tt
