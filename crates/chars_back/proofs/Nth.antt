-- The place of the n-th byte that is no tail: on from any place, and in a well-formed text that of a character.
-- Assumes nothing.
use mathlib.Core.Path.{◌≡◌, refl, ap, sym, ◌∙◌}
use mathlib.Core.Bool.{Bool, true, false, cond}
use Prim.Native.Nat.{ℕ, zero, suc, ◌+◌, ◌-◌, ◌≤◌, ◌<◌}
use native.Mathlib.Nat.{zero-add, suc-add}
use native.Mathlib.Omega.{arith}
use mathlib.Core.List.{List, [], ◌∷◌, ◌++◌, flatten}
use lib.ListN.{length, take, drop, length-append}
use lib.Seq.{take-append_seam, drop-append_seam, take-length}
use Rattle.lists.specs.Lists.{All}
use Rattle.chars_text.specs.Utf8.{tail}
use Rattle.chars_text.specs.Characters.{starts, characters, well_formed, place_of}
use Rattle.chars_text.proofs.Led.{Led}
use Rattle.chars_text.proofs.Starts.{starts_here, starts_next, starts_led}
use Rattle.chars_text.proofs.Texts.{characters_led, characters_whole}
use Rattle.chars_count.specs.Promises.{start_of}
use Rattle.chars_back.specs.Promises.{nth_start}

nth_tail : (n byte : ℕ) (text : List ℕ) → tail byte ≡ true → nth_start n (byte ∷ text) ≡ suc (nth_start n text)
unfolding nth_start
nth_tail zero byte text e = rw e
nth_tail (suc n) byte text e = rw e

nth_here : (byte : ℕ) (text : List ℕ) → tail byte ≡ false → nth_start 0 (byte ∷ text) ≡ 0
unfolding nth_start
nth_here byte text e = rw e

nth_next : (n byte : ℕ) (text : List ℕ) → tail byte ≡ false → nth_start (suc n) (byte ∷ text) ≡ suc (nth_start n text)
unfolding nth_start
nth_next n byte text e = rw e

-- past a byte, and the character that begins there if one does
pub nth_byte : (n byte : ℕ) (text : List ℕ) → start_of byte ≤ n → nth_start n (byte ∷ text) ≡ suc (nth_start (n - start_of byte) text)
nth_byte n byte text h = go (tail byte) refl
  where
    go : (t : Bool) → tail byte ≡ t → nth_start n (byte ∷ text) ≡ suc (nth_start (n - start_of byte) text)
    go true e =
        let none : start_of byte ≡ 0 = rw e in
        nth_tail n byte text e ∙ ap (λ (m : ℕ). suc (nth_start m text)) (omega (arith, none))
    go false e =
        let one : start_of byte ≡ 1 = rw e in
        ap (λ (m : ℕ). nth_start m (byte ∷ text)) (omega (arith, h, one)) ∙ nth_next (n - start_of byte) byte text e

-- the byte is the one that is looked for
pub nth_stop : (n byte : ℕ) (text : List ℕ) → n < start_of byte → nth_start n (byte ∷ text) ≡ 0
nth_stop n byte text h = go (tail byte) refl
  where
    go : (t : Bool) → tail byte ≡ t → nth_start n (byte ∷ text) ≡ 0
    go true e =
        let none : start_of byte ≡ 0 = rw e in
        absurd (omega (arith, h, none))
    go false e =
        let one : start_of byte ≡ 1 = rw e in
        ap (λ (m : ℕ). nth_start m (byte ∷ text)) (omega (arith, h, one)) ∙ nth_here byte text e

-- a text of no more bytes has no such character
pub nth_past : (n : ℕ) (text : List ℕ) → length text ≤ n → nth_start n text ≡ length text
unfolding nth_start
nth_past zero [] h = refl
nth_past (suc n) [] h = refl
nth_past zero (byte ∷ text) h = absurd (omega arith)
nth_past (suc n) (byte ∷ text) h = go (tail byte) (nth_past (suc n) text (omega arith)) (nth_past n text (omega arith))
  where
    go : (t : Bool) → nth_start (suc n) text ≡ length text → nth_start n text ≡ length text → suc (nth_start (cond t (suc n) n) text) ≡ suc (length text)
    go true here next = ap suc here
    go false here next = ap suc next

-- past some bytes, and the starts among them
pub nth_on : (at n : ℕ) (text : List ℕ) → at ≤ length text → nth_start (starts (take at text) + n) text ≡ at + nth_start n (drop at text)
unfolding starts
nth_on zero n text h = rw (zero-add n) (omega arith)
nth_on (suc at) n [] h = absurd (omega arith)
nth_on (suc at) n (byte ∷ text) h = go (tail byte) refl (nth_on at n text (omega arith))
  where
    go : (t : Bool) → tail byte ≡ t → nth_start (starts (take at text) + n) text ≡ at + nth_start n (drop at text)
        → nth_start (starts (take (suc at) (byte ∷ text)) + n) (byte ∷ text) ≡ suc at + nth_start n (drop at text)
    go true e after =
        ap (λ (m : ℕ). nth_start (m + n) (byte ∷ text)) (starts_here byte (take at text) e)
        ∙ nth_tail (starts (take at text) + n) byte text e
        ∙ ap suc after ∙ omega arith
    go false e after =
        ap (λ (m : ℕ). nth_start (m + n) (byte ∷ text)) (starts_next byte (take at text) e)
        ∙ ap (λ (m : ℕ). nth_start m (byte ∷ text)) (suc-add (starts (take at text)) n)
        ∙ nth_next (starts (take at text) + n) byte text e
        ∙ ap suc after ∙ omega arith

-- it lies in the text
pub nth_inside : (n : ℕ) (text : List ℕ) → nth_start n text ≤ length text
unfolding nth_start
nth_inside n [] = omega arith
nth_inside zero (byte ∷ text) = go (tail byte) (nth_inside zero text)
  where
    go : (t : Bool) → nth_start zero text ≤ length text → cond t (suc (nth_start zero text)) 0 ≤ suc (length text)
    go true h = omega arith
    go false h = omega arith
nth_inside (suc n) (byte ∷ text) = go (tail byte) (nth_inside (suc n) text) (nth_inside n text)
  where
    go : (t : Bool) → nth_start (suc n) text ≤ length text → nth_start n text ≤ length text → suc (nth_start (cond t (suc n) n) text) ≤ suc (length text)
    go true h h' = omega arith
    go false h h' = omega arith

-- as many begin before it as were asked for, if there are as many
pub nth_counted : (n : ℕ) (text : List ℕ) → n ≤ starts text → starts (take (nth_start n text) text) ≡ n
unfolding starts nth_start
nth_counted zero [] h = refl
nth_counted (suc n) [] h = absurd (omega arith)
nth_counted zero (byte ∷ text) h = go (tail byte) refl (nth_counted zero text (omega arith))
  where
    go : (t : Bool) → tail byte ≡ t → starts (take (nth_start zero text) text) ≡ zero → starts (take (cond t (suc (nth_start zero text)) 0) (byte ∷ text)) ≡ zero
    go true e after = starts_here byte (take (nth_start zero text) text) e ∙ after
    go false e after = refl
nth_counted (suc n) (byte ∷ text) h = go (tail byte) refl (λ few. nth_counted (suc n) text few) (λ few. nth_counted n text few)
  where
    go : (t : Bool) → tail byte ≡ t
        → (suc n ≤ starts text → starts (take (nth_start (suc n) text) text) ≡ suc n)
        → (n ≤ starts text → starts (take (nth_start n text) text) ≡ n)
        → starts (take (suc (nth_start (cond t (suc n) n) text)) (byte ∷ text)) ≡ suc n
    go true e here next = starts_here byte (take (nth_start (suc n) text) text) e ∙ here (omega (arith, h, starts_here byte text e))
    go false e here next = starts_next byte (take (nth_start n text) text) e ∙ ap suc (next (omega (arith, h, starts_next byte text e)))

-- ---- Of characters

nth_first : (c : List ℕ) (text : List ℕ) → Led c → nth_start 0 (c ++ text) ≡ 0
nth_first [] text led = absurd led
nth_first (first ∷ rest) text led = nth_here first (rest ++ text) led.0

starts_whole : (c : List ℕ) → Led c → starts c ≡ 1
starts_whole [] led = absurd led
starts_whole (first ∷ rest) led = ap starts (sym (take-length (first ∷ rest))) ∙ starts_led (first ∷ rest) (length rest) led

nth_flatten : (cs : List (List ℕ)) (count : ℕ) → All Led cs → length (flatten (take count cs)) ≡ nth_start count (flatten cs)
unfolding flatten nth_start
nth_flatten [] zero led = refl
nth_flatten [] (suc count) led = refl
nth_flatten (c ∷ cs) zero led = sym (nth_first c (flatten cs) led.0)
nth_flatten (c ∷ cs) (suc count) led =
    length-append c (flatten (take count cs))
    ∙ ap (◌+◌ (length c)) (nth_flatten cs count led.1)
    ∙ sym
    (ap (λ (n : ℕ). nth_start n (c ++ flatten cs)) (one_more (starts (take (length c) (c ++ flatten cs))) (ap starts (take-append_seam c (flatten cs)) ∙ starts_whole c led.0))
    ∙ nth_on (length c) count (c ++ flatten cs) (omega (arith, length-append c (flatten cs)))
    ∙ ap (λ (text : List ℕ). length c + nth_start count text) (drop-append_seam c (flatten cs)))
  where
    one_more : (n : ℕ) → n ≡ 1 → suc count ≡ n + count
    one_more n e = omega arith

-- in a well-formed text it is the place of a character
pub place_nth : (text : List ℕ) → well_formed text ≡ true → (count : ℕ) → place_of text count ≡ nth_start count text
place_nth text well count = nth_flatten (characters text) count (characters_led text) ∙ ap (nth_start count) (characters_whole text well)
