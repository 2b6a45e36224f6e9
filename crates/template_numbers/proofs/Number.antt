-- What reading a u32 is: it succeeds on exactly the texts of an optional + and one or more digits whose decimal value a u32
-- holds, and gives that value; so on none with a byte above the digits. Assumes nothing.
use mathlib.Core.Path.{◌≡◌, refl, ap, sym, ◌∙◌, subst}
use mathlib.Core.Logic.{◌⊎◌, inl, inr, ⊎_elim}
use mathlib.Core.Bool.{Bool, true, false, ◌&&◌, cond}
use mathlib.Core.Option.{Option, none as nothing, some}
use Prim.Native.Nat.{ℕ, zero, suc, ◌≤◌, ◌<◌}
use native.Mathlib.Omega.{arith}
use mathlib.Core.List.{List, [], ◌∷◌}
use lib.Dec.{leb, eqb}
use lib.ListN.{length, get_or}
use borrow.Author.Tests.{ne_eqb, eqb-true}
use Rattle.lists.specs.Lists.{All}
use Rattle.lists.proofs.All.{all_at}
use Rattle.record.proofs.WellFormed.{Tells, tells_le, tells_and, tells_and₃, tells_all}
use Rattle.lines.specs.Decimal.{zero_byte, nine_byte, both, is_digit, decimal, largest_u32}
use Rattle.template_numbers.specs.Number.{plus, after_sign, is_number, u32_of, read_number}

-- a byte that is a digit
abbrev pub IsDigit : ℕ → Type 0
IsDigit byte = (zero_byte ≤ byte) × (byte ≤ nine_byte)

-- A text is an optional + and one or more digits of this value, which a u32 holds.
pub record Writes (text : List ℕ) (n : ℕ) : Type 0 where
  pub digits : List ℕ
  pub signed : (text ≡ digits) ⊎ (text ≡ plus ∷ digits)
  pub some_digit : 1 ≤ length digits
  pub only : All IsDigit digits
  pub value : decimal digits ≡ n
  pub fits : n ≤ largest_u32

both_and : (a b : Bool) → (a && b) ≡ both a b
both_and true b = refl
both_and false b = refl

tells_digit : (byte : ℕ) → Tells (is_digit byte) (IsDigit byte)
tells_digit byte = subst (λ (b : Bool). Tells b (IsDigit byte)) (both_and (leb zero_byte byte) (leb byte nine_byte)) (tells_and (tells_le zero_byte byte) (tells_le byte nine_byte))

tells_number : (digits : List ℕ) → Tells (is_number digits) ((1 ≤ length digits) × All IsDigit digits × (decimal digits ≤ largest_u32))
tells_number digits = tells_and₃ (tells_le 1 (length digits)) (tells_all is_digit IsDigit tells_digit digits) (tells_le (decimal digits) largest_u32)

-- ---- What is read is written so

after_signed : (text : List ℕ) → (text ≡ after_sign text) ⊎ (text ≡ plus ∷ after_sign text)
unfolding after_sign
after_signed [] = inl refl
after_signed (byte ∷ text) = go (eqb byte plus) refl
  where
    go : (here : Bool) → eqb byte plus ≡ here → (byte ∷ text ≡ cond here text (byte ∷ text)) ⊎ (byte ∷ text ≡ plus ∷ cond here text (byte ∷ text))
    go true e = inr (ap (λ (b : ℕ). b ∷ text) (eqb-true byte plus e))
    go false e = inl refl

pub read_writes : (text : List ℕ) (n : ℕ) → read_number text ≡ some n → Writes text n
unfolding read_number
read_writes text n e = go (is_number (after_sign text)) (tells_number (after_sign text)).so e
  where
    go : (good : Bool) → (good ≡ true → (1 ≤ length (after_sign text)) × All IsDigit (after_sign text) × (decimal (after_sign text) ≤ largest_u32))
        → cond good (some (decimal (after_sign text))) nothing ≡ some n → Writes text n
    go true told e =
        let value : decimal (after_sign text) ≡ n = cc in
        record { digits = after_sign text; signed = after_signed text; some_digit = (told refl).0; only = (told refl).1; value = value; fits = subst (λ (k : ℕ). k ≤ largest_u32) value (told refl).2 }
    go false told e = let z : ◌≡◌ {A = ℕ} 0 1 = cc in absurd (omega arith)

-- ---- And what is written so is read

-- digits begin with no sign
after_digits : (digits : List ℕ) → All IsDigit digits → after_sign digits ≡ digits
unfolding after_sign
after_digits [] all = refl
after_digits (byte ∷ digits) all = rw (ne_eqb byte plus (λ e. omega (arith, all.0.0)))

after_plus : (digits : List ℕ) → after_sign (plus ∷ digits) ≡ digits
unfolding after_sign
after_plus digits = refl

pub writes_read : (text : List ℕ) (n : ℕ) → Writes text n → read_number text ≡ some n
unfolding read_number
writes_read text n w =
    let rest : after_sign text ≡ w.digits = ⊎_elim (λ e. ap after_sign e ∙ after_digits w.digits w.only) (λ e. ap after_sign e ∙ after_plus w.digits) w.signed in
    ap u32_of rest
    ∙ rw ((tells_number w.digits).back (w.some_digit, w.only, subst (λ (k : ℕ). k ≤ largest_u32) (sym w.value) w.fits)) (ap some w.value)

-- ---- What is no number

only_digits : (digits : List ℕ) (k : ℕ) → All IsDigit digits → k < length digits → nine_byte < get_or digits k 0 → ⊥
only_digits digits k all h above = omega (arith, (all_at IsDigit digits k 0 h all).1)

only_signed : (digits : List ℕ) (k : ℕ) → All IsDigit digits → k < length (plus ∷ digits) → nine_byte < get_or (plus ∷ digits) k 0 → ⊥
only_signed digits zero all h above = omega arith
only_signed digits (suc k) all h above = only_digits digits k all (omega arith) above

-- a text with a byte above the digits at some place
pub above_none : (text : List ℕ) (k : ℕ) → k < length text → nine_byte < get_or text k 0 → read_number text ≡ nothing
above_none text k h above = go (read_number text) refl
  where
    go : (o : Option ℕ) → read_number text ≡ o → o ≡ nothing
    go nothing e = refl
    go (some n) e =
        let w = read_writes text n e in
        absurd
        (⊎_elim (λ t. only_digits w.digits k w.only (rw t at h) (rw t at above)) (λ t. only_signed w.digits k w.only (rw t at h) (rw t at above)) w.signed)
