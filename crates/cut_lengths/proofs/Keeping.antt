-- The lengths kept, case by case. Assumes nothing.
use mathlib.Core.Path.{◌≡◌, ap}
use mathlib.Core.Bool.{Bool, true, false, cond}
use Prim.Native.Nat.{ℕ, ◌+◌, ◌-◌, ◌≤◌, ◌<◌}
use lib.Dec.{leb}
use borrow.Author.Tests.{le-leb, lt-leb, lt-ltb, le-ltb, eq-eqb, ne_eqb}
use Rattle.std.specs.Prelude.{Ok, Err}
use Rattle.record.specs.declared.Refusal.TheVariants.{TooShort}
use Rattle.cut_lengths.specs.Lengths.{alone, pair_kept, shorter_share, longer_share, shortened, cut_alone, kept_alone, cut_both, kept_both}
use Rattle.cut_lengths.specs.declared.Strategy.{Strategy}
use Rattle.cut_lengths.specs.declared.Strategy.TheVariants.{LongestFirst}
use Rattle.cut_lengths.specs.declared.Kept.{Kept}

module _ (target remove : ℕ) (keep : ℕ → Kept) where
  pub shortened_some : remove < target → shortened target remove keep ≡ Ok (keep (target - remove))
  shortened_some h = ap (λ (t : Bool). cond t (Ok (keep (target - remove))) (Err TooShort)) (lt-ltb remove target h)

  pub shortened_none : target ≤ remove → shortened target remove keep ≡ Err TooShort
  shortened_none h = ap (λ (t : Bool). cond t (Ok (keep (target - remove))) (Err TooShort)) (le-ltb remove target h)

module _ (first most : ℕ) (s : Strategy) where
  pub alone_nothing : most ≡ 0 → kept_alone first most s ≡ Ok (alone 0)
  unfolding kept_alone
  alone_nothing e = rw (eq-eqb most 0 e)

  pub alone_within : (most ≡ 0 → ⊥) → first ≤ most → kept_alone first most s ≡ Ok (alone first)
  unfolding kept_alone
  alone_within z h = rw (ne_eqb most 0 z, le-leb first most h)

  pub alone_cut : (most ≡ 0 → ⊥) → most < first → kept_alone first most s ≡ cut_alone s first (first - most)
  unfolding kept_alone
  alone_cut z h = rw (ne_eqb most 0 z, lt-leb first most h)

module _ (first second most : ℕ) (s : Strategy) where
  pub both_nothing : most ≡ 0 → kept_both first second most s ≡ Ok (pair_kept 0 0)
  unfolding kept_both
  both_nothing e = rw (eq-eqb most 0 e)

  pub both_within : (most ≡ 0 → ⊥) → leb (first + second) most ≡ true → kept_both first second most s ≡ Ok (pair_kept first second)
  unfolding kept_both
  both_within z h = rw (ne_eqb most 0 z, h)

  pub both_cut : (most ≡ 0 → ⊥) → leb (first + second) most ≡ false → kept_both first second most s ≡ cut_both s first second most (first + second - most)
  unfolding kept_both
  both_cut z h = rw (ne_eqb most 0 z, h)

-- the shorter of the two is the second, or the first
module _ (first second most remove : ℕ) where
  pub longest_second : second < first → cut_both LongestFirst first second most remove ≡ Ok (pair_kept (longer_share second most) (shorter_share second most))
  longest_second h = rw (lt-ltb second first h)

  pub longest_first : first ≤ second → cut_both LongestFirst first second most remove ≡ Ok (pair_kept (shorter_share first most) (longer_share first most))
  longest_first h = rw (le-ltb second first h)
