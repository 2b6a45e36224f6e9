-- The rounded length is the least multiple not below the length, the Rust's way of rounding gives the same, and so does the code as
-- far as 64 bits go.
-- Assumes nothing.
use mathlib.Core.Path.{◌≡◌, refl, ap, subst}
use mathlib.Core.Bool.{Bool, cond}
use mathlib.Core.Logic.{⊎_elim}
use Prim.Native.Nat.{ℕ, suc, ◌+◌, ◌-◌, ◌*◌, ◌/◌, ◌%◌, ◌^◌, ◌≤◌, ◌<◌, min}
use native.Mathlib.Nat.{div-add-mod', eq-zero-or-pos, mod-lt, mul-le-mul_right, pos_of_ne-zero, suc-mul}
use native.Mathlib.Omega.{arith}
use borrow.Author.Tests.{ne_eqb}
use Rattle.cut_plan.specs.Cut.{ceiling}
use Rattle.cut_plan.proofs.Ceiling.{ceiling_reaches, ceiling_least}
use Rattle.lists.proofs.Numbers.{either}
use Rattle.fractions.specs.Fractions.{Divides}
use Rattle.pad_length.specs.Rounding.{rounded_up, LeastMultiple, largest_u64, RoundedLength}

-- "multiple 0 means none"
pub rounded_none : (length : ℕ) → rounded_up length 0 ≡ length
unfolding rounded_up
rounded_none length = refl

module _ (length multiple : ℕ) (some : 0 < multiple) where
  rounded_some : rounded_up length multiple ≡ ceiling length multiple * multiple
  unfolding rounded_up
  rounded_some = ap (λ (b : Bool). cond b length (ceiling length multiple * multiple)) (ne_eqb multiple 0 (λ e. omega arith))

  -- "the least one not below the length that the multiple divides"
  pub rounded_least : LeastMultiple length multiple (rounded_up length multiple)
  rounded_least =
      record {
        not_below = omega (arith, rounded_some, ceiling_reaches length multiple some);
        divides = (ceiling length multiple, rounded_some);
        least = λ m h d. omega (arith, rounded_some, d.1, mul-le-mul_right multiple (enough m h d));
      }
    where
      enough : (m : ℕ) → length ≤ m → (d : Divides multiple m) → ceiling length multiple ≤ d.0
      enough m h d = ⊎_elim (λ k. k) (λ k. absurd (omega (arith, ceiling_least length multiple d.0 some k, d.1))) (either (ceiling length multiple) d.0)

pub rounded_not_below : (length multiple : ℕ) → length ≤ rounded_up length multiple
rounded_not_below length multiple = ⊎_elim (λ z. omega (arith, ap (rounded_up length) z, rounded_none length)) (λ s. (rounded_least length multiple s).not_below) (eq-zero-or-pos multiple)

-- there is only one
pub least_only : {length multiple m n : ℕ} → LeastMultiple length multiple m → LeastMultiple length multiple n → m ≡ n
least_only {length} {multiple} {m} {n} h k = omega (arith, h.least n k.not_below k.divides, k.least m h.not_below h.divides)

-- ---- By the remainder, as the Rust rounds

module _ (length multiple : ℕ) (some : 0 < multiple) where
  -- no remainder: the length is a multiple
  pub rounded_whole : length % multiple ≡ 0 → rounded_up length multiple ≡ length
  rounded_whole e =
      least_only (rounded_least length multiple some)
      (record { not_below = omega arith; divides = (length / multiple, omega (arith, div-add-mod' length multiple)); least = λ m h d. h })

  -- a remainder: the multiple after it
  pub rounded_over : (length % multiple ≡ 0 → ⊥) → rounded_up length multiple ≡ length + (multiple - length % multiple)
  rounded_over e =
      least_only (rounded_least length multiple some)
      (record {
        not_below = omega arith;
        divides = (suc (length / multiple), omega (arith, next));
        least = λ m h d. omega (arith, next, d.1, mul-le-mul_right multiple (above m h d));
      })
    where
      next : length + (multiple - length % multiple) ≡ suc (length / multiple) * multiple
      next = omega (arith, suc-mul (length / multiple) multiple, div-add-mod' length multiple, mod-lt length some)

      above : (m : ℕ) → length ≤ m → (d : Divides multiple m) → suc (length / multiple) ≤ d.0
      above m h d = ⊎_elim (λ k. absurd (omega (arith, mul-le-mul_right multiple k, d.1, div-add-mod' length multiple, pos_of_ne-zero e))) (λ k. k) (either d.0 (length / multiple))

  -- in both cases by less than the multiple
  pub rounded_below : rounded_up length multiple < length + multiple
  rounded_below = ⊎_elim (λ e. omega (arith, rounded_whole e)) (λ l. omega (arith, rounded_over (λ e. omega arith), mod-lt length some)) (eq-zero-or-pos (length % multiple))

-- ---- As far as 64 bits go

-- the definition, held to 64 bits, is what the request says of the rounded length
pub rounded_length : {length multiple n : ℕ} → length ≤ largest_u64 → n ≡ min (rounded_up length multiple) largest_u64 → RoundedLength length multiple n
rounded_length {length} {multiple} {n} l e =
    record {
      least = λ some m h d k. let r = rounded_least length multiple some in let same : rounded_up length multiple ≡ n = omega (arith, e, r.least m h d) in subst (LeastMultiple length multiple) same r;
      unrounded = λ z. omega (arith, e, ap (rounded_up length) z, rounded_none length);
    }

-- of 32 bits there always is such a number
pub narrow_least : {length multiple n : ℕ} → RoundedLength length multiple n → length < 2 ^ 32 → 0 < multiple → multiple < 2 ^ 32 → LeastMultiple length multiple n
narrow_least {length} {multiple} h l some k =
    let r = rounded_least length multiple some in
    let bits : 2 ^ 32 ≡ 4294967296 = refl in
    h.least some (rounded_up length multiple) r.not_below r.divides (omega (arith, bits, rounded_below length multiple some))

-- of 64 bits there need not be one
pub corner : (n : ℕ) → n ≤ largest_u64 → LeastMultiple largest_u64 2 n → ⊥
corner n l h = omega (arith, h.not_below, h.divides.1)
