-- Whether one encoding is stored, or one or two, by what `check_batch` tells.
-- Assumes nothing.
use lib.ListN.{length}
use mathlib.Core.Path.{◌≡◌, sym, ◌∙◌}
use mathlib.Core.Bool.{Bool, false}
use Prim.Native.Nat.{ℕ}
use lib.Dec.{eqb}
use Rattle.std.specs.Prelude.{Result, ◌||◌, MatchResult}
use Rattle.record.specs.Tree.{listed}
use Rattle.record.specs.Read.{Reading, malformed, holds, is_one, of_one, is_one_or_two, of_one_or_two}
use Rattle.record.specs.declared.Refusal.{Refusal}
use Rattle.record.proofs.One.{one_counted}
use Rattle.record.proofs.OneOrTwo.{one_or_two_counted}
use Rattle.record_check.specs.Answers.{shape_of}

pub one_told : (r : Reading) (s : Result ℕ Refusal) (b : Bool) → s ≡ shape_of r → MatchResult s (λ n. b ≡ eqb n 1) (λ _. b ≡ false) → b ≡ is_one r
unfolding is_one of_one
one_told malformed s b e m = rw e at m
one_told (holds f) s b e m = let told : b ≡ eqb _ 1 = rw e at m in told ∙ sym (one_counted (listed f))

pub one_or_two_told : (r : Reading) (s : Result ℕ Refusal) (b : Bool) → s ≡ shape_of r → MatchResult s (λ n. b ≡ (eqb n 1 || eqb n 2)) (λ _. b ≡ false) → b ≡ is_one_or_two r
unfolding is_one_or_two of_one_or_two
one_or_two_told malformed s b e m = rw e at m
one_or_two_told (holds f) s b e m = let told : b ≡ (eqb (length (listed f)) 1 || eqb (length (listed f)) 2) = rw e at m in told ∙ sym (one_or_two_counted (listed f))
