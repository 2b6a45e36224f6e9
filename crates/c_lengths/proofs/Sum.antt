-- The numbers that cross keep within the max length too. Assumes nothing.
use mathlib.Core.Path.{◌≡◌, sym, ◌∙◌}
use Prim.Native.Nat.{ℕ, ◌+◌, ◌≤◌}
use native.Mathlib.Omega.{arith}
use mathlib.Core.List.{List, ◌∷◌}
use Rattle.std.specs.Prelude.{Option, Some, None, Result, Ok, Err}
use Rattle.record.specs.declared.Refusal.{Refusal}
use Rattle.cut_lengths.specs.declared.Strategy.{Strategy}
use Rattle.cut_lengths.proofs.Sum.{not_zero}
use Rattle.pair_lengths.specs.Lengths.{pair_lengths, mark_of, length_numbers}
use Rattle.pair_lengths.specs.Keeps.{KeepsLengths, kept_of}
use Rattle.pair_lengths.specs.declared.Length.{Length}
use Rattle.pair_lengths.specs.declared.PairLengths.{PairLengths}
use Rattle.pair_lengths.proofs.Keeps.{pair_lengths_keep}
use Rattle.c_crossing.specs.Crossing.{Crosses}
use Rattle.c_lengths.specs.Pair.{lengths_crossed, kept_sum, CrossesWithin}

sum_within : (was : List ℕ) (first : ℕ) (second : Option ℕ) (most : ℕ) {numbers : List ℕ} {r : ℕ} (l : Result PairLengths Refusal) → KeepsLengths first second most l → Crosses (lengths_crossed was l) r numbers → r ≡ 0 → kept_sum numbers ≤ most
sum_within was first second most (Err k) h x z = absurd (not_zero h.each (sym x.refusal_is ∙ z))
sum_within was first second most (Ok l) h x z = rw x.numbers_are (go l.second h.at_most)
  where
    go : (other : Option Length) → l.first.kept + kept_of other ≤ most → kept_sum (mark_of l.first.cut ∷ l.first.kept ∷ length_numbers other) ≤ most
    go None k = omega arith
    go (Some m) k = k

pub crosses_within : (was : List ℕ) (first : ℕ) (second : Option ℕ) (most : ℕ) (s : Strategy) {numbers : List ℕ} {r : ℕ} → Crosses (lengths_crossed was (pair_lengths first second most s)) r numbers → CrossesWithin was first second most s r numbers
crosses_within was first second most s x =
    record { crosses = x; within = sum_within was first second most (pair_lengths first second most s) (pair_lengths_keep first second most s) x }
