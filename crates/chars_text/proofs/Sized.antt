-- A character of a given width and second range, at the beginning of a text and at a place of one: each test that a walk
-- over its bytes makes, and what it says. Assumes nothing.
use mathlib.Core.Path.{◌≡◌, refl, ap, sym, ◌∙◌}
use mathlib.Core.Bool.{Bool, true, false, cond, ◌&&◌}
use Prim.Native.Nat.{ℕ, zero, suc, ◌+◌, ◌-◌, ◌≤◌, ◌<◌}
use native.Mathlib.Numerals.{add-one}
use native.Mathlib.Omega.{arith}
use mathlib.Core.List.{List, [], ◌∷◌}
use lib.Dec.{ltb}
use lib.ListN.{length, get_or, drop, replicate, length-replicate, length-drop}
use lib.Seq.{drop-cons}
use borrow.Author.Tests.{le-ltb}
use Rattle.chars_text.specs.Utf8.{Ranges, octets, tail, begins, character}
use Rattle.chars_text.specs.Promises.{width_by, low_by, high_by, sized}
use Rattle.chars_text.proofs.Rows.{bytes_in, bytes_under, bytes_over, one}
use Rattle.chars_text.proofs.Grammar.{by_first}

-- ---- At the beginning

begins_short : (row : Ranges) (text : List ℕ) → length text < length row → begins row text ≡ false
begins_short [] text h = absurd (omega arith)
begins_short (range ∷ row) [] h = refl
begins_short (range ∷ row) (b ∷ text) h = go (range b) (begins_short row text (omega arith))
  where
    go : (t : Bool) → begins row text ≡ false → t && begins row text ≡ false
    go true e = e
    go false e = refl

module _ (width low high : ℕ) (text : List ℕ) (two : 2 ≤ width) where
  sized_cut : suc (length text) < width → sized width low high text ≡ 0
  sized_cut = go width two
    where
      go : (width : ℕ) → 2 ≤ width → suc (length text) < width → sized width low high text ≡ 0
      go zero two h = absurd (omega arith)
      go (suc zero) two h = absurd (omega arith)
      go (suc (suc more)) two h = rw (begins_short (octets low high ∷ replicate more tail) text (omega (arith, length-replicate more tail)))

  sized_second : (byte : ℕ) (t : Bool) → octets low high byte ≡ t → sized width low high (byte ∷ text) ≡ cond (t && begins (replicate (width - 2) tail) text) width 0
  sized_second byte t e = go width two
    where
      go : (width : ℕ) → 2 ≤ width → sized width low high (byte ∷ text) ≡ cond (t && begins (replicate (width - 2) tail) text) width 0
      go zero two = absurd (omega arith)
      go (suc zero) two = absurd (omega arith)
      go (suc (suc more)) two = let width : suc (suc more) - 2 ≡ more = omega arith in rw (e, width)

-- ---- How wide

-- of how many bytes, by whether the first is below C2, E0, F0, F5
abbrev wide : Bool → Bool → Bool → Bool → ℕ
wide a b c d = cond a 0 (cond b 2 (cond c 3 (cond d 4 0)))

-- a first byte that is no character by itself begins one of 2 to 4 bytes, or none
pub width_more : (first : ℕ) → 0x80 ≤ first → (width_by first ≡ 0 → ⊥) → (2 ≤ width_by first) × (width_by first ≤ 4)
width_more first long some = rw (le-ltb first 0x80 long) (go (ltb first 0xC2) (ltb first 0xE0) (ltb first 0xF0) (ltb first 0xF5) (rw (le-ltb first 0x80 long) at some))
  where
    go : (a b c d : Bool) → (wide a b c d ≡ 0 → ⊥) → (2 ≤ wide a b c d) × (wide a b c d ≤ 4)
    go true b c d some = absurd (some refl)
    go false true c d some = (omega arith, omega arith)
    go false false true d some = (omega arith, omega arith)
    go false false false true some = (omega arith, omega arith)
    go false false false false some = absurd (some refl)

-- ---- At a place

module _ (text : List ℕ) (at : ℕ) (inside : at < length text) where
  pub ends_one : get_or text at 0 < 0x80 → 1 ≡ character (drop at text)
  ends_one h = rw (drop-cons text at 0 inside) (sym (one (get_or text at 0) (drop (suc at) text) h))

  at_place : character (drop at text) ≡ sized (width_by (get_or text at 0)) (low_by (get_or text at 0)) (high_by (get_or text at 0)) (drop (at + 1) text)
  at_place = rw (add-one, drop-cons text at 0 inside) (by_first (get_or text at 0) (drop (suc at) text))

  pub ends_none : (size : ℕ) → size ≡ width_by (get_or text at 0) → size ≡ 0 → 0 ≡ character (drop at text)
  ends_none size is e = sym (at_place ∙ ap (λ (w : ℕ). sized w (low_by (get_or text at 0)) (high_by (get_or text at 0)) (drop (at + 1) text)) (sym is ∙ e))

-- The first byte is that of a longer character, by its width.
pub record Longer (text : List ℕ) (at size : ℕ) : Type 0 where
  pub inside : at < length text
  pub is : size ≡ width_by (get_or text at 0)
  pub above : 0x80 ≤ get_or text at 0
  pub some : size ≡ 0 → ⊥

module _ {text : List ℕ} {at size : ℕ} (l : Longer text at size) where
  pub longer : (2 ≤ size) × (size ≤ 4)
  longer = rw l.is (width_more (get_or text at 0) l.above (rw l.is at l.some))

  pub ends_cut : length text - at < size → 0 ≡ character (drop at text)
  ends_cut h =
      sym
      (at_place text at l.inside
      ∙ rw (← l.is)
      (sized_cut size (low_by (get_or text at 0)) (high_by (get_or text at 0)) (drop (at + 1) text) longer.0 (omega (arith, length-drop (at + 1) text, l.inside))))

  module _ (fits : size ≤ length text - at) {low high : ℕ} (is_low : low ≡ low_by (get_or text at 0)) (is_high : high ≡ high_by (get_or text at 0)) where
    -- the range of the second byte, and the tails after it
    from_second_lem : (t : Bool) → octets low high (get_or text (at + 1) 0) ≡ t → character (drop at text) ≡ cond (t && begins (replicate (size - 2) tail) (drop (at + 2) text)) size 0
    from_second_lem t e =
        let third : suc (at + 1) ≡ at + 2 = omega arith in
        let second : drop (at + 1) text ≡ get_or text (at + 1) 0 ∷ drop (at + 2) text
        = drop-cons text (at + 1) 0 (omega (arith, longer.0)) ∙ ap (λ (n : ℕ). get_or text (at + 1) 0 ∷ drop n text) third in
        at_place text at l.inside ∙ rw (← l.is, ← is_low, ← is_high, second) (sized_second size low high (drop (at + 2) text) longer.0 (get_or text (at + 1) 0) t e)

    pub ends_over : high < get_or text (at + 1) 0 → 0 ≡ character (drop at text)
    ends_over h = sym (from_second_lem false (bytes_over low high (get_or text (at + 1) 0) h))

    module _ (above : low ≤ get_or text (at + 1) 0) (below : get_or text (at + 1) 0 ≤ high) {all : Bool} (is_all : all ≡ begins (replicate (size - 2) tail) (drop (at + 2) text)) where
      pub ends_whole : all ≡ true → size ≡ character (drop at text)
      ends_whole e = sym (from_second_lem true (bytes_in low high (get_or text (at + 1) 0) above below) ∙ rw (← is_all, e))

      pub ends_broken : all ≡ false → 0 ≡ character (drop at text)
      ends_broken e = sym (from_second_lem true (bytes_in low high (get_or text (at + 1) 0) above below) ∙ rw (← is_all, e))

  -- whatever the greatest second byte is
  pub ends_under : size ≤ length text - at → {low : ℕ} → low ≡ low_by (get_or text at 0) → get_or text (at + 1) 0 < low → 0 ≡ character (drop at text)
  ends_under fits {low} is_low h = sym (from_second_lem fits is_low refl false (bytes_under low (high_by (get_or text at 0)) (get_or text (at + 1) 0) h))
