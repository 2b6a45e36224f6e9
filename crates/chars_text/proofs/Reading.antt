-- Reading a text character by character: what comes first and what is left, that a bound above the text's length changes
-- nothing, and that a text is well-formed just if what is left after its first character is. Assumes nothing.
use mathlib.Core.Path.{◌≡◌, refl, ap, sym, ◌∙◌}
use mathlib.Core.Bool.{Bool, true, false}
use Prim.Native.Nat.{ℕ, zero, suc, ◌+◌, ◌≤◌, ◌<◌}
use native.Mathlib.Omega.{arith}
use mathlib.Core.List.{List, [], ◌∷◌, flatten}
use lib.Dec.{eqb}
use lib.ListN.{length, take, drop, length-append, length-drop}
use lib.Seq.{length-take-le}
use borrow.Author.Tests.{eqb-true, eqb-false, eq-eqb, ne_eqb}
use Rattle.chars_text.specs.Utf8.{character}
use Rattle.chars_text.specs.Characters.{characters_in, characters, well_formed}
use Rattle.chars_text.proofs.Led.{character_inside}

pub character_nothing : character [] ≡ 0
unfolding character
character_nothing = refl

-- ---- One step

pub in_none : (most : ℕ) (text : List ℕ) → character text ≡ 0 → characters_in most text ≡ []
unfolding characters_in
in_none zero text e = refl
in_none (suc most) text e = simp (eq-eqb (character text) 0 e)

pub in_step : (most : ℕ) (text : List ℕ) (n : ℕ) → character text ≡ suc n → characters_in (suc most) text ≡ take (suc n) text ∷ characters_in most (drop (suc n) text)
unfolding characters_in
in_step most text n e = simp (e, ne_eqb (suc n) 0 (λ z. omega arith))

-- ---- How many there may be at most

pub enough : (m n : ℕ) (text : List ℕ) → length text ≤ m → length text ≤ n → characters_in m text ≡ characters_in n text
enough zero n [] hm hn = in_none zero [] character_nothing ∙ sym (in_none n [] character_nothing)
enough zero n (b ∷ text) hm hn = absurd (omega arith)
enough (suc m) zero [] hm hn = in_none (suc m) [] character_nothing ∙ sym (in_none zero [] character_nothing)
enough (suc m) zero (b ∷ text) hm hn = absurd (omega arith)
enough (suc m) (suc n) text hm hn = go (enough m n) (character text) refl
  where
    go : ((left : List ℕ) → length left ≤ m → length left ≤ n → characters_in m left ≡ characters_in n left) → (size : ℕ) → character text ≡ size
        → characters_in (suc m) text ≡ characters_in (suc n) text
    go after zero e = in_none (suc m) text e ∙ sym (in_none (suc n) text e)
    go after (suc size) e =
        in_step m text size e
        ∙ ap (◌∷◌ (take (suc size) text)) (after (drop (suc size) text) (omega (arith, length-drop (suc size) text)) (omega (arith, length-drop (suc size) text)))
        ∙ sym (in_step n text size e)

-- the first character, and those of what is left
pub characters_step : (text : List ℕ) (n : ℕ) → character text ≡ suc n → characters text ≡ take (suc n) text ∷ characters (drop (suc n) text)
characters_step [] n e = absurd (omega (arith, character_nothing, e))
characters_step (b ∷ text) n e =
    in_step (length text) (b ∷ text) n e
    ∙ ap (◌∷◌ (take (suc n) (b ∷ text)))
    (enough (length text) (length (drop n text)) (drop n text) (omega (arith, length-drop n text)) (omega arith))

-- ---- Well-formed texts

eqb_moved : (n a b : ℕ) → eqb (n + a) (n + b) ≡ eqb a b
eqb_moved n a b = go (eqb a b) refl
  where
    go : (t : Bool) → eqb a b ≡ t → eqb (n + a) (n + b) ≡ t
    go true e = eq-eqb (n + a) (n + b) (ap (◌+◌ n) (eqb-true a b e))
    go false e = ne_eqb (n + a) (n + b) (λ same. eqb-false a b e (omega (arith, same)))

pub well_formed_step : (text : List ℕ) (n : ℕ) → character text ≡ suc n → well_formed text ≡ well_formed (drop (suc n) text)
unfolding flatten
well_formed_step text n e =
    let inside : suc n ≤ length text = omega (arith, e, character_inside text) in
    let left : length text ≡ suc n + length (drop (suc n) text) = omega (arith, length-drop (suc n) text) in
    let read : length (flatten (characters text)) ≡ suc n + length (flatten (characters (drop (suc n) text)))
    = ap (λ (cs : List (List ℕ)). length (flatten cs)) (characters_step text n e)
    ∙ length-append (take (suc n) text) (flatten (characters (drop (suc n) text)))
    ∙ ap (λ (k : ℕ). k + length (flatten (characters (drop (suc n) text)))) (length-take-le (suc n) text inside) in
    ap (λ (k : ℕ). eqb k (length text)) read
    ∙ ap (eqb (suc n + length (flatten (characters (drop (suc n) text))))) left
    ∙ eqb_moved (suc n) (length (flatten (characters (drop (suc n) text)))) (length (drop (suc n) text))

pub well_formed_none : (text : List ℕ) → character text ≡ 0 → 0 < length text → well_formed text ≡ false
unfolding flatten
well_formed_none text e h = simp (in_none (length text) text e) (ne_eqb 0 (length text) (λ z. omega arith))
