-- What becomes of a batch of one or two, by whether there is a second.
-- Assumes nothing.
use mathlib.Core.Path.{◌≡◌, refl, sym, ◌∙◌}
use mathlib.Core.Bool.{false}
use mathlib.Core.Option as maybe
use Prim.Native.Nat.{ℕ}
use native.Mathlib.Omega.{arith}
use mathlib.Core.List.{List}
use lib.ListN.{length}
use Rattle.std.specs.Prelude.{Option, Some, None, unwrap_or}
use Rattle.record.specs.Tree.{Encoding}
use Rattle.record.specs.Read.{Reading, read, is_one_or_two}
use Rattle.record.specs.Standing.{One, OneOrTwo}
use Rattle.record.specs.Outcome.{refused}
use Rattle.record.specs.declared.Refusal.TheVariants.{MalformedRecord}
use Rattle.record.proofs.OneOrTwo.{one_or_two_of, not_one_or_two}
use Rattle.cut_plan.specs.declared.Direction.{Direction}
use Rattle.cut_lengths.specs.Lengths.{rows_of_second}
use Rattle.truncate.specs.Truncate.{cut_outcome}
use Rattle.truncate_two.specs.CutBoth.{cut_both_outcome}
use Rattle.truncate_pair.specs.CutPair.{cut_each, cut_pair_outcome}
use Rattle.truncate_pair.proofs.Whole.{left_whole}

module _ (out out' : List ℕ) (n : ℕ) (m : Option ℕ) (stride : ℕ) (d : Direction) where
  pub outcome_malformed : (r : Reading) → is_one_or_two r ≡ false → cut_pair_outcome out out' n m stride d r ≡ refused MalformedRecord
  unfolding cut_pair_outcome
  outcome_malformed r e = not_one_or_two (refused MalformedRecord) _ r e

  module _ {nodes rows : List ℕ} {E : Encoding} where
    -- the cut of the encodings that there are
    pub outcome_each : {second : maybe.Option Encoding} → OneOrTwo nodes rows E second → cut_pair_outcome out out' n m stride d (read nodes rows) ≡ cut_each out out' n m stride d E second
    unfolding cut_pair_outcome
    outcome_each h = one_or_two_of (refused MalformedRecord) _ h

    -- no row count of a second: there is one encoding
    pub cut_alone_lem : (second : maybe.Option Encoding) → OneOrTwo nodes rows E second → ◌≡◌ {A = Option ℕ} None (rows_of_second second) → One nodes rows E × (cut_pair_outcome out out' n m stride d (read nodes rows) ≡ cut_outcome out out' n stride d E)
    cut_alone_lem maybe.none h e = (record { stores = h.stores }, outcome_each h)
    cut_alone_lem (maybe.some F) h e = let z : ◌≡◌ {A = ℕ} 0 1 = cc in absurd (omega arith)

    -- one: there are two, and the second is cut to its length or to all its rows
    pub cut_both_lem : (second : maybe.Option Encoding) → OneOrTwo nodes rows E second → (k : ℕ) → Some k ≡ rows_of_second second → (F : Encoding) × OneOrTwo nodes rows E (maybe.some F) × (cut_pair_outcome out out' n m stride d (read nodes rows) ≡ cut_both_outcome out out' n (unwrap_or m k) stride d E F)
    cut_both_lem maybe.none h k e = let z : ◌≡◌ {A = ℕ} 0 1 = cc in absurd (omega arith)
    cut_both_lem (maybe.some F) h k e = (F, h, outcome_each h ∙ go m)
      where
        same : k ≡ length F.rows
        same = cc

        go : (m : Option ℕ) → cut_each out out' n m stride d E (maybe.some F) ≡ cut_both_outcome out out' n (unwrap_or m k) stride d E F
        go None = sym (left_whole out out' n k stride d E F (omega (arith, same)))
        go (Some m) = refl
