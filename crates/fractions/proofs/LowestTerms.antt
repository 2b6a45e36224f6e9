-- That `lowest_of` is in lowest terms: the same part of the whole, and nothing but 1 divides both of its numbers. Without a whole it is 0 of 0.
-- Assumes nothing.
use mathlib.Core.Path.{◌≡◌, refl, sym, ap, ◌∙◌}
use Prim.Native.Nat.{ℕ, ◌*◌, ◌/◌, ◌<◌, ◌∣◌}
use native.Mathlib.Nat.{mul_comm, mul_assoc, one-mul, div-mul_cancel, mul-div_assoc, le-div_iff_mul-le, le_of_dvd, dvd_of_mul-dvd-mul_right, eq-one_of_dvd-one}
use native.Mathlib.Omega.{arith}
use borrow.Author.Tests.{ne_eqb}
use Rattle.fractions.specs.Fractions.{gcd_of, fraction, lowest_of, Divides, LowestTerms}
use Rattle.fractions.proofs.Divisors.{divides_as_library, gcd_divides_first, gcd_divides_second, gcd_greatest, gcd_some}

pub lowest_none : (part : ℕ) → lowest_of part 0 ≡ fraction 0 0
unfolding lowest_of
lowest_none part = refl

pub lowest_some : (part whole : ℕ) → 0 < whole → lowest_of part whole ≡ fraction (part / gcd_of part whole) (whole / gcd_of part whole)
unfolding lowest_of
lowest_some part whole some = rw (ne_eqb whole 0 (omega arith))

-- what divides the quotient, times the divisor, divides the number
divides_times : (d g n : ℕ) → g ∣ n → Divides d (n / g) → Divides (d * g) n
divides_times d g n h (k, e) = (k, sym (div-mul_cancel g h) ∙ ap (◌* g) e ∙ mul_assoc k d g)

pub lowest_terms : (part whole : ℕ) → 0 < whole → LowestTerms part whole (lowest_of part whole)
lowest_terms part whole some =
    let g = gcd_of part whole in
    let positive : 0 < g = gcd_some part whole some in
    let of_part : g ∣ part = divides_as_library g part (gcd_divides_first part whole) in
    let of_whole : g ∣ whole = divides_as_library g whole (gcd_divides_second part whole) in
    rw (lowest_some part whole some) (record {
      same = sym (mul-div_assoc g part of_whole) ∙ ap (◌/ g) (mul_comm part whole) ∙ mul-div_assoc g whole of_part ∙ mul_comm whole (part / g);
      some = (le-div_iff_mul-le positive).1 (rw (one-mul g) (le_of_dvd some of_whole));
      -- what divides both, times the greatest divisor of the two, divides that divisor
      lowest = λ d first second.
          let both = gcd_greatest part whole (d * g) (divides_times d g part of_part first) (divides_times d g whole of_whole second) in
          eq-one_of_dvd-one (dvd_of_mul-dvd-mul_right d positive (rw (one-mul g) (divides_as_library (d * g) g both)));
    })
