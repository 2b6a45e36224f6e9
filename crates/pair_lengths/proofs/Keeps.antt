-- The lengths of a pair keep what is said of them. Assumes nothing.
use mathlib.Core.Path.{◌≡◌, sym, ap, subst, ◌∙◌}
use Prim.Native.Nat.{ℕ, ◌+◌, ◌≤◌}
use native.Mathlib.Omega.{arith}
use borrow.Author.Tests.{ltb-true, ltb-false}
use Rattle.std.specs.Prelude.{Option, Some, None, Result, Ok, Err, option_map}
use Rattle.record.specs.declared.Refusal.{Refusal}
use Rattle.cut_lengths.specs.Lengths.{kept_lengths, TurnedAway}
use Rattle.cut_lengths.specs.declared.Strategy.{Strategy}
use Rattle.cut_lengths.specs.declared.Kept.{Kept}
use Rattle.cut_lengths.proofs.Sum as sum
use Rattle.pair_lengths.specs.declared.PairLengths.{PairLengths}
use Rattle.pair_lengths.specs.Lengths.{length_of, second_rows, lengths_of, pair_lengths}
use Rattle.pair_lengths.specs.Keeps.{Keeps, KeepsLengths}

-- an encoding that keeps no more than it has
pub keeps : (rows n : ℕ) → n ≤ rows → Keeps rows (length_of rows n)
keeps rows n h = record { fewer = λ e. ltb-true n rows e; all = λ e. omega (arith, ltb-false n rows e) }

-- where rows have to go and none are kept, nothing is said of the sum
turned_away : {first : ℕ} {second : Option ℕ} {most : ℕ} {why : Refusal} → TurnedAway (first + second_rows second) most why → KeepsLengths first second most (Err why)
turned_away h = record { each = h; at_most = omega arith; exact = λ t o. absurd t; whole = λ w. absurd (omega arith) }

of_kept : (first : ℕ) (second : Option ℕ) (most n : ℕ) (m : Option ℕ) → sum.KeepsOf first second most n m → KeepsLengths first second most (Ok (record { first = length_of first n; second = option_map (length_of (second_rows second)) m }))
of_kept first None most n None h =
    record { each = (keeps first n (omega arith), tt); at_most = omega arith; exact = λ t o. omega arith; whole = λ w. (tt, omega arith) }
of_kept first None most n (Some m) h = absurd h
of_kept first (Some second) most n None h = absurd h
of_kept first (Some second) most n (Some m) h =
    record { each = (keeps first n h.first_no_more, keeps second m h.second_no_more); at_most = omega (arith, h.together); exact = λ t o. omega (arith, h.together); whole = λ w. (tt, omega (arith, h.together)) }

lengths_of_lem : (first : ℕ) (second : Option ℕ) (most : ℕ) (k : Result Kept Refusal) → sum.KeepsRows first second most k → KeepsLengths first second most (lengths_of first second k)
lengths_of_lem first second most (Err k) h = turned_away h
lengths_of_lem first second most (Ok k) h = of_kept first second most k.first k.second h

pub pair_lengths_keep : (first : ℕ) (second : Option ℕ) (most : ℕ) (s : Strategy) → KeepsLengths first second most (pair_lengths first second most s)
unfolding pair_lengths
pair_lengths_keep first second most s = lengths_of_lem first second most (kept_lengths first second most s) (sum.lengths_keep first second most s)

-- so what is told of a pair keeps it
pub lengths_keep : (first : ℕ) (second : Option ℕ) (most : ℕ) (s : Strategy) {answer : Result PairLengths Refusal} → answer ≡ pair_lengths first second most s → KeepsLengths first second most answer
lengths_keep first second most s e = subst (KeepsLengths first second most) (sym e) (pair_lengths_keep first second most s)

-- so an answer made of the lengths kept has both
pub answers : (first : ℕ) (second : Option ℕ) (most : ℕ) (s : Strategy) {k : Result Kept Refusal} {answer : Result PairLengths Refusal} → k ≡ kept_lengths first second most s → answer ≡ lengths_of first second k → (answer ≡ pair_lengths first second most s) × KeepsLengths first second most answer
unfolding pair_lengths
answers first second most s e a = let t = a ∙ ap (lengths_of first second) e in (t, lengths_keep first second most s t)
