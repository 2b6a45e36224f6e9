-- The lengths of a pair and the cut to them, in turn, are document 01's pair cut. Assumes nothing.
use mathlib.Core.Path.{◌≡◌, refl}
use mathlib.Core.Option as maybe
use Prim.Native.Nat.{ℕ}
use mathlib.Core.List.{List, [], ◌∷◌}
use lib.ListN.{length}
use Rattle.std.specs.Prelude.{Option, Some, None, Result, Ok, Err, option_map, unwrap_or}
use Rattle.record.specs.Tree.{Encoding, listed}
use Rattle.record.specs.Read.{Reading, malformed, holds, one_or_two, of_one_or_two}
use Rattle.record.specs.Outcome.{refused}
use Rattle.record.specs.declared.Refusal.{Refusal}
use Rattle.record.specs.declared.Refusal.TheVariants.{MalformedRecord}
use Rattle.cut_plan.specs.declared.Direction.{Direction}
use Rattle.cut_lengths.specs.Lengths.{kept_lengths, rows_of_second}
use Rattle.cut_lengths.specs.declared.Strategy.{Strategy}
use Rattle.cut_lengths.specs.declared.Kept.{Kept}
use Rattle.cut_lengths.proofs.Sum.{KeepsOf, KeepsRows, lengths_keep}
use Rattle.pair_lengths.specs.Lengths.{length_of, second_rows, lengths_of, pair_lengths}
use Rattle.truncate_pair.specs.CutPair.{cut_each, cut_pair_outcome}
use Rattle.truncate_in_turn.specs.TruncatePair.{cut_kept, unless_refused, truncate_pair_outcome}
use Rattle.truncate_in_turn.specs.InTurn.{cut_to, both_in_turn}

module _ (nodes rows : List ℕ) (most stride : ℕ) (s : Strategy) (d : Direction) where
  -- one encoding has one length, two have two, so that each is cut to what it keeps
  kept_cut : (E : Encoding) (second : maybe.Option Encoding) (k : Result Kept Refusal) → KeepsRows (length E.rows) (rows_of_second second) most k →
      cut_to (λ n m. cut_each nodes rows n m stride d E second) (lengths_of (length E.rows) (rows_of_second second) k) ≡ unless_refused (cut_kept nodes rows stride d E second) k
  kept_cut E second (Err k) h = refl
  kept_cut E second (Ok k) h = of_kept second k.second h
    where
      of_kept : (second : maybe.Option Encoding) (m : Option ℕ) → KeepsOf (length E.rows) (rows_of_second second) most k.first m →
          cut_each nodes rows k.first (option_map (λ l. l.kept) (option_map (length_of (second_rows (rows_of_second second))) m)) stride d E second ≡ cut_kept nodes rows stride d E second k.first (unwrap_or m 0)
      of_kept maybe.none None h = refl
      of_kept maybe.none (Some m) h = absurd h
      of_kept (maybe.some F) None h = absurd h
      of_kept (maybe.some F) (Some m) h = refl

  both_cut : (E : Encoding) (second : maybe.Option Encoding) →
      cut_to (λ n m. cut_each nodes rows n m stride d E second) (pair_lengths (length E.rows) (rows_of_second second) most s) ≡ unless_refused (cut_kept nodes rows stride d E second) (kept_lengths (length E.rows) (rows_of_second second) most s)
  unfolding pair_lengths
  both_cut E second = kept_cut E second (kept_lengths (length E.rows) (rows_of_second second) most s) (lengths_keep (length E.rows) (rows_of_second second) most s)

  -- of every batch
  pub in_turn : (r : Reading) → both_in_turn nodes rows most stride s d r ≡ truncate_pair_outcome nodes rows most stride s d r
  unfolding both_in_turn truncate_pair_outcome cut_pair_outcome of_one_or_two
  in_turn malformed = refl
  in_turn (holds f) = go (listed f)
    where
      go : (l : List Encoding) →
          one_or_two (refused MalformedRecord) (λ E second. cut_to (λ n m. one_or_two (refused MalformedRecord) (cut_each nodes rows n m stride d) l) (pair_lengths (length E.rows) (rows_of_second second) most s)) l
          ≡ one_or_two (refused MalformedRecord) (λ E second. unless_refused (cut_kept nodes rows stride d E second) (kept_lengths (length E.rows) (rows_of_second second) most s)) l
      go [] = refl
      go (E ∷ []) = both_cut E maybe.none
      go (E ∷ F ∷ []) = both_cut E (maybe.some F)
      go (E ∷ F ∷ G ∷ l) = refl
