-- A test of every element of a list, one element after another: what holds on the way, and the answer at each way out.
-- Assumes nothing.
use mathlib.Core.Path.{◌≡◌, refl, sym, ◌∙◌}
use mathlib.Core.Bool.{Bool, true, false}
use Prim.Native.Nat.{ℕ, ◌+◌, ◌≤◌, ◌<◌}
use native.Mathlib.Numerals.{add-one}
use native.Mathlib.Omega.{arith}
use mathlib.Core.List.{List}
use lib.ListN.{length, get_or, drop, drop_of_length-le}
use lib.Seq.{drop-cons}
use Rattle.record.specs.Read.{all_ok}

-- The elements before place i have passed.
pub record Checking {A : Type 0} (t : A → Bool) (xs : List A) (i : ℕ) : Type 0 where
  pub inside : i ≤ length xs
  pub same : all_ok t xs ≡ all_ok t (drop i xs)

module _ {A : Type 0} (t : A → Bool) (xs : List A) where
  pub check_start : Checking t xs 0
  check_start = record { inside = omega arith; same = refl }

  module _ {i : ℕ} (c : Checking t xs i) where
    pub check_end : length xs ≤ i → true ≡ all_ok t xs
    check_end h = sym (c.same ∙ rw (drop_of_length-le xs h))

    module _ (d : A) (h : i < length xs) where
      pub check_on : t (get_or xs i d) ≡ true → Checking t xs (i + 1)
      check_on e = record { inside = omega arith; same = c.same ∙ rw (add-one, drop-cons xs i d h, e) }

      pub check_fails : t (get_or xs i d) ≡ false → false ≡ all_ok t xs
      check_fails e = sym (c.same ∙ rw (drop-cons xs i d h, e))
