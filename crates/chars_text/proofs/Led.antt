-- What every character is: a byte that is no tail, and then tails; and the text that it stands in has them all.
-- Assumes nothing.
use mathlib.Core.Path.{◌≡◌, refl, sym, ◌∙◌}
use mathlib.Core.Logic.{⊎_elim}
use mathlib.Core.Bool.{Bool, true, false, cond, ◌&&◌, false≢true}
use Prim.Native.Nat.{ℕ, zero, suc, ◌≤◌}
use native.Mathlib.Omega.{arith}
use mathlib.Core.List.{List, [], ◌∷◌}
use lib.Dec.{eqb, leb}
use lib.ListN.{length, take, replicate}
use borrow.Author.Tests.{leb-true}
use Rattle.lists.specs.Lists.{All}
use Rattle.lists.proofs.Numbers.{either}
use Rattle.chars_text.specs.Utf8.{octets, tail, begins, character}
use Rattle.chars_text.specs.Promises.{width_by, low_by, high_by, sized}
use Rattle.chars_text.proofs.Rows.{bytes_in, bytes_under, bytes_over, none_low}
use Rattle.chars_text.proofs.Grammar.{by_first}

abbrev pub Tails : List ℕ → Type 0
Tails text = All (λ (byte : ℕ). tail byte ≡ true) text

-- a byte that is no tail, and then tails
abbrev pub Led : List ℕ → Type 0
Led [] = ⊥
Led (first ∷ rest) = (tail first ≡ false) × Tails rest

both : (a b : Bool) → a && b ≡ true → (a ≡ true) × (b ≡ true)
both true b e = (refl, e)
both false b e = absurd (false≢true e)

-- ---- Ranges of second bytes are tails

low_tail : (first : ℕ) → 0x80 ≤ low_by first
low_tail first = go (eqb first 0xE0) (eqb first 0xF0)
  where
    go : (a b : Bool) → 0x80 ≤ cond a 0xA0 (cond b 0x90 0x80)
    go true b = omega arith
    go false true = omega arith
    go false false = omega arith

high_tail : (first : ℕ) → high_by first ≤ 0xBF
high_tail first = go (eqb first 0xED) (eqb first 0xF4)
  where
    go : (a b : Bool) → cond a 0x9F (cond b 0x8F 0xBF) ≤ 0xBF
    go true b = omega arith
    go false true = omega arith
    go false false = omega arith

range_tail : (low high byte : ℕ) → 0x80 ≤ low → high ≤ 0xBF → octets low high byte ≡ true → tail byte ≡ true
unfolding octets
range_tail low high byte hl hh e =
    let b = both (leb low byte) (leb byte high) e in
    bytes_in 0x80 0xBF byte (omega (arith, leb-true low byte b.0)) (omega (arith, leb-true byte high b.1))

-- ---- A row that a text begins with

pub begins_tails : (more : ℕ) (text : List ℕ) → begins (replicate more tail) text ≡ true → (more ≤ length text) × Tails (take more text)
begins_tails zero text e = (omega arith, tt)
begins_tails (suc more) [] e = absurd (false≢true e)
begins_tails (suc more) (byte ∷ text) e =
    let b = both (tail byte) (begins (replicate more tail) text) e in
    let rest = begins_tails more text b.1 in
    (omega (arith, rest.0), (b.0, rest.1))

pub sized_tails : (width low high : ℕ) (text : List ℕ) (n : ℕ) → 0x80 ≤ low → high ≤ 0xBF → sized width low high text ≡ suc n → (n ≤ length text) × Tails (take n text)
sized_tails zero low high text n hl hh e = absurd (omega arith)
sized_tails (suc zero) low high text zero hl hh e = (omega arith, tt)
sized_tails (suc zero) low high text (suc n) hl hh e = absurd (omega arith)
sized_tails (suc (suc more)) low high [] n hl hh e = absurd (omega arith)
sized_tails (suc (suc more)) low high (byte ∷ text) n hl hh e = go (octets low high byte && begins (replicate more tail) text) refl e
  where
    go : (here : Bool) → octets low high byte && begins (replicate more tail) text ≡ here → cond here (suc (suc more)) 0 ≡ suc n → (n ≤ suc (length text)) × Tails (take n (byte ∷ text))
    go true h e =
        let b = both (octets low high byte) (begins (replicate more tail) text) h in
        let rest = begins_tails more text b.1 in
        let width : n ≡ suc more = omega (arith, e) in
        rw width (omega (arith, rest.0), (range_tail low high byte hl hh b.0, rest.1))
    go false h e = absurd (omega arith)

-- ---- A character

pub first_no_tail : (first : ℕ) (text : List ℕ) (n : ℕ) → character (first ∷ text) ≡ suc n → tail first ≡ false
first_no_tail first text n e =
    ⊎_elim
    (λ h80. ⊎_elim (λ hC2. bytes_over 0x80 0xBF first (omega arith)) (λ l. absurd (omega (arith, none_low first text h80 l, e))) (either 0xC2 first))
    (λ l. bytes_under 0x80 0xBF first l)
    (either 0x80 first)

pub character_inside : (text : List ℕ) → character text ≤ length text
unfolding character
character_inside [] = omega arith
character_inside (first ∷ text) = go (character (first ∷ text)) refl
  where
    go : (n : ℕ) → character (first ∷ text) ≡ n → character (first ∷ text) ≤ suc (length text)
    go zero e = omega arith
    go (suc n) e = omega (arith, (sized_tails (width_by first) (low_by first) (high_by first) text n (low_tail first) (high_tail first) (sym (by_first first text) ∙ e)).0)

pub character_led : (text : List ℕ) (n : ℕ) → character text ≡ suc n → Led (take (suc n) text)
unfolding character
character_led [] n e = absurd (omega (arith, e))
character_led (first ∷ text) n e =
    (first_no_tail first text n e, (sized_tails (width_by first) (low_by first) (high_by first) text n (low_tail first) (high_tail first) (sym (by_first first text) ∙ e)).1)
