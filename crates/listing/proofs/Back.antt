-- A number that was written is read back, and so is what a line asks.
-- Assumes nothing.
use mathlib.Core.Path.{◌≡◌, refl, sym, ap, ◌∙◌}
use mathlib.Core.Bool.{Bool, true, false, cond}
use Prim.Native.Nat.{ℕ, zero, suc, ◌+◌, ◌-◌, ◌*◌, ◌/◌, ◌%◌, ◌^◌, ◌≤◌, ◌<◌}
use native.Mathlib.Nat.{div-lt_iff_lt-mul, pow-suc, add-zero}
use native.Mathlib.Omega.{arith}
use mathlib.Core.List.{List, [], ◌∷◌, ◌++◌, append_assoc}
use lib.Dec.{ltb}
use lib.ListN.{length, get_or, drop, length-append}
use lib.Seq.{drop_at, get_or-append-add}
use borrow.Author.Tests.{ltb-true, ltb-false, le-leb}
use Rattle.lists.specs.Lists.{All}
use Rattle.record.specs.WellFormed.{most_rows}
use Rattle.cut_plan.specs.declared.Direction.{Direction}
use Rattle.cut_plan.specs.declared.Direction.TheVariants.{Left, Right}
use Rattle.lines.specs.Decimal.{zero_byte, nine_byte, most_digits, largest_u32, is_digit, digits_of, decimal, decimal_after, number_at}
use Rattle.std.specs.Prelude.{Option, Some}
use Rattle.lines.specs.declared.Number.{Number}
use Rattle.listing_text.specs.Text.{digits_up_to, number_text}
use Rattle.listing_request.specs.Asked.{space_byte, letter_l, letter_r, spaced, field_at, with_letter, request, cut_within, asked_of}
use Rattle.listing_text.proofs.Text.{last_of, digits_one, digits_more, number_few}
use Rattle.listing.proofs.Lines.{field, length_field}
use Rattle.listing_request.proofs.Fields.{spaced_space, asked_third}

-- ---- The digits of a number

-- each is a digit
abbrev Digit : ℕ → Type 0
Digit b = is_digit b ≡ true

digit_is : (d : ℕ) → d < 10 → Digit (zero_byte + d)
digit_is d h = rw (le-leb zero_byte (zero_byte + d) (omega arith), le-leb (zero_byte + d) nine_byte (omega arith))

all_append : (xs ys : List ℕ) → All Digit xs → All Digit ys → All Digit (xs ++ ys)
all_append [] ys h k = k
all_append (x ∷ xs) ys (h, hs) k = (h, all_append xs ys hs k)

all_digits : (most n : ℕ) → All Digit (digits_up_to most n)
unfolding digits_up_to
all_digits zero n = tt
all_digits (suc most) n = go (ltb n 10) (all_digits most (n / 10))
  where
    last : All Digit (last_of n)
    last = (digit_is (n % 10) (omega arith), tt)

    go : (b : Bool) → All Digit (digits_up_to most (n / 10)) → All Digit (cond b [] (digits_up_to most (n / 10)) ++ last_of n)
    go true h = last
    go false h = all_append (digits_up_to most (n / 10)) (last_of n) h last

-- they are all that a text begins with
digits_of_lem : (xs rest : List ℕ) → All Digit xs → digits_of rest ≡ [] → digits_of (xs ++ rest) ≡ xs
unfolding digits_of
digits_of_lem [] rest h e = e
digits_of_lem (x ∷ xs) rest (h, hs) e = rw (h, digits_of_lem xs rest hs e)

-- their value is the number
value_last : (a : ℕ) (xs : List ℕ) (d : ℕ) → decimal_after a (xs ++ (d ∷ [])) ≡ decimal_after a xs * 10 + (d - zero_byte)
unfolding decimal_after
value_last a [] d = refl
value_last a (x ∷ xs) d = value_last (a * 10 + (x - zero_byte)) xs d

value_one : (most n : ℕ) → n < 10 → decimal (digits_up_to (suc most) n) ≡ n
unfolding decimal_after
value_one most n h = ap decimal (digits_one most n h) ∙ omega arith

value_is : (most n : ℕ) → n < 10 ^ suc most → decimal (digits_up_to (suc most) n) ≡ n
value_is zero n h = value_one 0 n h
value_is (suc most) n h = go (ltb n 10) refl (value_is most (n / 10) ((div-lt_iff_lt-mul (omega arith)).1 (rw (pow-suc 10 (suc most)) at h)))
  where
    go : (b : Bool) → ltb n 10 ≡ b → decimal (digits_up_to (suc most) (n / 10)) ≡ n / 10 → decimal (digits_up_to (suc (suc most)) n) ≡ n
    go true e v = value_one (suc most) n (ltb-true n 10 e)
    go false e v = ap decimal (digits_more (suc most) n (omega (arith, ltb-false n 10 e))) ∙ value_last 0 (digits_up_to (suc most) (n / 10)) (zero_byte + n % 10) ∙ omega (arith, v)

number_some : (n : ℕ) → 1 ≤ length (number_text n)
unfolding digits_up_to
number_some n = omega (arith, length-append (cond (ltb n 10) [] (digits_up_to 9 (n / 10))) (last_of n))

-- ---- Reading back

-- a number that was read, and the place after it
abbrev pub read : ℕ → ℕ → Option Number
read value next = Some (record { value = value; next = next })

-- a number that stands in a text before no digit
pub number_back : (before rest : List ℕ) (n : ℕ) → n ≤ largest_u32 → digits_of rest ≡ [] → number_at (before ++ (number_text n ++ rest)) (length before) ≡ read n (length before + length (number_text n))
number_back before rest n h e =
    rw (drop_at before (number_text n ++ rest) (length before) refl, digits_of_lem (number_text n) rest (all_digits most_digits n) e, value_is 9 n (omega arith), le-leb 1 (length (number_text n)) (number_some n), le-leb (length (number_text n)) most_digits (number_few n), le-leb n largest_u32 h)

-- a field
pub field_back : (before rest : List ℕ) (n : ℕ) → n ≤ largest_u32 → field_at (before ++ (field n space_byte ++ rest)) (length before) ≡ read n (length (before ++ field n space_byte))
unfolding digits_of
field_back before rest n h =
    let line = before ++ (number_text n ++ (space_byte ∷ rest)) in
    let next = length before + length (number_text n) in
    let inside : next < length line = omega (arith, length-append before (number_text n ++ (space_byte ∷ rest)), length-append (number_text n) (space_byte ∷ rest)) in
    let space : get_or line next 0 ≡ space_byte = get_or-append-add before (number_text n ++ (space_byte ∷ rest)) (length (number_text n)) 0 ∙ ap (λ (k : ℕ). get_or (number_text n ++ (space_byte ∷ rest)) k 0) (sym (add-zero (length (number_text n)))) ∙ get_or-append-add (number_text n) (space_byte ∷ rest) 0 0 in
    let ends : next + 1 ≡ length (before ++ field n space_byte) = omega (arith, length-append before (field n space_byte), length_field n space_byte) in
    ap (λ (l : List ℕ). field_at (before ++ l) (length before)) (append_assoc (number_text n) (space_byte ∷ []) rest) ∙ ap (spaced line) (number_back before (space_byte ∷ rest) n h refl)
    ∙ sym (spaced_space line (record { value = n; next = next }) inside space) ∙ ap (read n) ends

-- a line that asks for a cut
abbrev pub letter_of : Direction → ℕ
letter_of Left = letter_l
letter_of Right = letter_r

abbrev pub asking : ℕ → ℕ → ℕ → Direction → List ℕ
asking rows max stride d = field rows space_byte ++ (field max space_byte ++ (field stride space_byte ++ (letter_of d ∷ [])))

pub asked_back : (rows max stride : ℕ) (d : Direction) → rows ≤ most_rows → max ≤ largest_u32 → stride ≤ largest_u32 → asked_of (asking rows max stride d) ≡ Some (request rows max stride d)
asked_back rows max stride d a b c =
    let f₁ = field rows space_byte in
    let f₂ = field max space_byte in
    let f₃ = field stride space_byte in
    let tail = letter_of d ∷ [] in
    let line = asking rows max stride d in
    let e₁ : read rows (length f₁) ≡ field_at line 0 = sym (field_back [] (f₂ ++ (f₃ ++ tail)) rows (omega arith)) in
    let e₂ : read max (length (f₁ ++ f₂)) ≡ field_at line (length f₁) = sym (field_back f₁ (f₃ ++ tail) max b) in
    let e₃ : read stride (length ((f₁ ++ f₂) ++ f₃)) ≡ field_at line (length (f₁ ++ f₂)) = sym (ap (λ (l : List ℕ). field_at l (length (f₁ ++ f₂))) (sym (append_assoc f₁ f₂ (f₃ ++ tail))) ∙ field_back (f₁ ++ f₂) tail stride c) in
    let whole : line ≡ ((f₁ ++ f₂) ++ f₃) ++ tail = simp append_assoc in
    let left : drop (length ((f₁ ++ f₂) ++ f₃)) line ≡ tail = ap (drop (length ((f₁ ++ f₂) ++ f₃))) whole ∙ drop_at ((f₁ ++ f₂) ++ f₃) tail (length ((f₁ ++ f₂) ++ f₃)) refl in
    asked_third line e₁ e₂ e₃ ∙ ap (λ (l : List ℕ). with_letter l (cut_within rows max stride)) left ∙ letter d ∙ rw (le-leb rows most_rows a)
  where
    letter : (d : Direction) → with_letter (letter_of d ∷ []) (cut_within rows max stride) ≡ cut_within rows max stride d
    letter Left = refl
    letter Right = refl
