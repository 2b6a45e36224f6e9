-- The lengths kept beside the rows that there are: no encoding keeps more than it has, and together they keep all rows or the max
-- length, whichever is less; and 4 and 5 are given only where rows have to go and some are to stay.
-- Assumes nothing.
use mathlib.Core.Path.{◌≡◌, refl, sym, ap, subst, ◌∙◌}
use mathlib.Core.Bool.{Bool, true, false, cond}
use mathlib.Core.Logic.{◌⊎◌, inl, inr, ⊎_elim}
use Prim.Native.Nat.{ℕ, ◌+◌, ◌-◌, ◌/◌, ◌≤◌, ◌<◌, min}
use native.Mathlib.Nat.{pos_of_ne-zero}
use native.Mathlib.Omega.{arith}
use lib.Dec.{leb, eqb}
use borrow.Author.Tests.{leb-true, leb-false, eqb-true, eqb-false}
use Rattle.std.specs.Prelude.{Option, Some, None, Result, Ok, Err, unwrap_or}
use Rattle.record.specs.Refusals.{number_of}
use Rattle.record.specs.declared.Refusal.{Refusal}
use Rattle.record.specs.declared.Refusal.TheVariants.{SecondMissing, TooShort}
use Rattle.cut_lengths.specs.Lengths.{alone, pair_kept, shorter_share, longer_share, cut_alone, kept_alone, cut_both, kept_both, kept_lengths, TurnedAway}
use Rattle.cut_lengths.specs.declared.Strategy.{Strategy}
use Rattle.cut_lengths.specs.declared.Strategy.TheVariants.{LongestFirst, OnlyFirst, OnlySecond}
use Rattle.cut_lengths.specs.declared.Kept.{Kept}
use Rattle.lists.proofs.Numbers.{either}
use Rattle.cut_lengths.proofs.Keeping.{shortened_some, shortened_none, longest_first, longest_second}
use Rattle.cut_lengths.proofs.Shares.{shorter_few, longer_few, shorter_many, longer_many}

-- n of the first's rows and m of the second's
pub record KeepsBoth (first second most n m : ℕ) : Type 0 where
  pub first_no_more : n ≤ first
  pub second_no_more : m ≤ second
  pub together : n + m ≡ min (first + second) most

-- n of the only encoding's rows, or as many of both
abbrev pub KeepsOf : ℕ → Option ℕ → ℕ → ℕ → Option ℕ → Type 0
KeepsOf first None most n None = n ≡ min first most
KeepsOf first None most n (Some m) = ⊥
KeepsOf first (Some second) most n None = ⊥
KeepsOf first (Some second) most n (Some m) = KeepsBoth first second most n m

abbrev pub KeepsRows : ℕ → Option ℕ → ℕ → Result Kept Refusal → Type 0
KeepsRows first second most (Err k) = TurnedAway (first + unwrap_or second 0) most k
KeepsRows first second most (Ok k) = KeepsOf first second most k.first k.second

-- ---- The longest first

-- the shorter of two keeps no more than it has, the longer neither, and their shares make up the max length
pub record Shared (shorter longer most n m : ℕ) : Type 0 where
  pub shorter_no_more : n ≤ shorter
  pub longer_no_more : m ≤ longer
  pub make_up : n + m ≡ most

pub shares : (shorter longer most : ℕ) → shorter ≤ longer → most < shorter + longer → Shared shorter longer most (shorter_share shorter most) (longer_share shorter most)
shares n other most h o =
    ⊎_elim
    (λ (f : n ≤ most / 2). rw (shorter_few n most f, longer_few n most f) (record { shorter_no_more = omega arith; longer_no_more = omega arith; make_up = omega arith }))
    (λ (m : most / 2 < n). rw (shorter_many n most m, longer_many n most m) (record { shorter_no_more = omega arith; longer_no_more = omega arith; make_up = omega arith }))
    (either n (most / 2))

-- ---- One encoding, and two

module _ (first : ℕ) (second : Option ℕ) (most : ℕ) where
  keeps : {k l : Result Kept Refusal} → k ≡ l → KeepsRows first second most l → KeepsRows first second most k
  keeps e h = subst (KeepsRows first second most) (sym e) h

away : {rows most : ℕ} {why : Refusal} → (why ≡ SecondMissing) ⊎ (why ≡ TooShort) → 0 < most → most < rows → TurnedAway rows most why
away n p h = record { number = n; removed = h; not_zero = p }

pub alone_keeps : (first most : ℕ) (s : Strategy) → KeepsRows first None most (kept_alone first most s)
unfolding kept_alone
alone_keeps first most s = go (eqb most 0) refl (leb first most) refl s
  where
    cut : (s : Strategy) → 0 < most → most < first → KeepsRows first None most (cut_alone s first (first - most))
    cut LongestFirst p h = omega arith
    cut OnlyFirst p h =
        ⊎_elim
        (λ (z : first ≤ first - most). keeps first None most (shortened_none first (first - most) alone z) (away (inr refl) p (omega arith)))
        (λ (z : first - most < first). keeps first None most (shortened_some first (first - most) alone z) (omega arith))
        (either first (first - most))
    cut OnlySecond p h = away (inl refl) p (omega arith)

    go : (a : Bool) → eqb most 0 ≡ a → (b : Bool) → leb first most ≡ b → (s : Strategy) → KeepsRows first None most (cond a (Ok (alone 0)) (cond b (Ok (alone first)) (cut_alone s first (first - most))))
    go true z b e s = omega (arith, eqb-true most 0 z)
    go false z true e s = omega (arith, leb-true first most e)
    go false z false e s = cut s (pos_of_ne-zero (eqb-false most 0 z)) (leb-false first most e)

pub both_keep : (first second most : ℕ) (s : Strategy) → KeepsRows first (Some second) most (kept_both first second most s)
unfolding kept_both
both_keep first second most s = go (eqb most 0) refl (leb (first + second) most) refl s
  where
    cut : (s : Strategy) → 0 < most → most < first + second → KeepsRows first (Some second) most (cut_both s first second most (first + second - most))
    cut LongestFirst p h =
        ⊎_elim
        (λ (z : first ≤ second).
        let t = shares first second most z h in
        keeps first (Some second) most (longest_first first second most (first + second - most) z) (record { first_no_more = t.shorter_no_more; second_no_more = t.longer_no_more; together = omega (arith, t.make_up) }))
        (λ (z : second < first).
        let t = shares second first most (omega arith) (omega arith) in
        keeps first (Some second) most (longest_second first second most (first + second - most) z) (record { first_no_more = t.longer_no_more; second_no_more = t.shorter_no_more; together = omega (arith, t.make_up) }))
        (either first second)
    cut OnlyFirst p h =
        ⊎_elim
        (λ (z : first ≤ first + second - most). keeps first (Some second) most (shortened_none first (first + second - most) (λ n. pair_kept n second) z) (away (inr refl) p h))
        (λ (z : first + second - most < first). keeps first (Some second) most (shortened_some first (first + second - most) (λ n. pair_kept n second) z) (record { first_no_more = omega arith; second_no_more = omega arith; together = omega arith }))
        (either first (first + second - most))
    cut OnlySecond p h =
        ⊎_elim
        (λ (z : second ≤ first + second - most). keeps first (Some second) most (shortened_none second (first + second - most) (pair_kept first) z) (away (inr refl) p h))
        (λ (z : first + second - most < second). keeps first (Some second) most (shortened_some second (first + second - most) (pair_kept first) z) (record { first_no_more = omega arith; second_no_more = omega arith; together = omega arith }))
        (either second (first + second - most))

    go : (a : Bool) → eqb most 0 ≡ a → (b : Bool) → leb (first + second) most ≡ b → (s : Strategy) → KeepsRows first (Some second) most (cond a (Ok (pair_kept 0 0)) (cond b (Ok (pair_kept first second)) (cut_both s first second most (first + second - most))))
    go true z b e s = record { first_no_more = omega arith; second_no_more = omega arith; together = omega (arith, eqb-true most 0 z) }
    go false z true e s = record { first_no_more = omega arith; second_no_more = omega arith; together = omega (arith, leb-true (first + second) most e) }
    go false z false e s = cut s (pos_of_ne-zero (eqb-false most 0 z)) (leb-false (first + second) most e)

pub lengths_keep : (first : ℕ) (second : Option ℕ) (most : ℕ) (s : Strategy) → KeepsRows first second most (kept_lengths first second most s)
lengths_keep first None most s = alone_keeps first most s
lengths_keep first (Some second) most s = both_keep first second most s

-- ---- The numbers of a refusal

-- 4 and 5 are neither 0, which is none, nor 6, which leaves zeros
module _ {rows most : ℕ} {k : Refusal} (h : TurnedAway rows most k) where
  pub not_zero : number_of k ≡ 0 → ⊥
  not_zero z =
      ⊎_elim
      (λ (e : k ≡ SecondMissing). omega (arith, sym (ap number_of e) ∙ z))
      (λ (e : k ≡ TooShort). omega (arith, sym (ap number_of e) ∙ z))
      h.number

  pub not_six : eqb (number_of k) 6 ≡ false
  not_six =
      ⊎_elim
      (λ (e : k ≡ SecondMissing). rw e)
      (λ (e : k ≡ TooShort). rw e)
      h.number
