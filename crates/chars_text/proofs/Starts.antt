-- Bytes that are no tails, counted: over texts one after another, over tails, and over the beginning of a character.
-- Assumes nothing.
use mathlib.Core.Path.{◌≡◌, refl, ap, sym, ◌∙◌}
use mathlib.Core.Bool.{Bool, true, false, cond}
use Prim.Native.Nat.{ℕ, zero, suc, ◌+◌, ◌-◌, ◌≤◌}
use native.Mathlib.Omega.{arith}
use mathlib.Core.List.{List, [], ◌∷◌, ◌++◌}
use lib.ListN.{length, take, drop, take-append-drop}
use lib.Seq.{drop-drop, take-add}
use Rattle.chars_text.specs.Utf8.{tail}
use Rattle.chars_text.specs.Characters.{starts}
use Rattle.chars_text.proofs.Led.{Tails, Led}

pub starts_append : (s t : List ℕ) → starts (s ++ t) ≡ starts s + starts t
unfolding starts
starts_append [] t = omega arith
starts_append (b ∷ s) t = go (tail b) (starts_append s t)
  where
    go : (here : Bool) → starts (s ++ t) ≡ starts s + starts t → cond here (starts (s ++ t)) (suc (starts (s ++ t))) ≡ cond here (starts s) (suc (starts s)) + starts t
    go true e = e
    go false e = omega (arith, e)

pub starts_few : (text : List ℕ) → starts text ≤ length text
unfolding starts
starts_few [] = omega arith
starts_few (b ∷ text) = go (tail b) (starts_few text)
  where
    go : (here : Bool) → starts text ≤ length text → cond here (starts text) (suc (starts text)) ≤ suc (length text)
    go true h = omega arith
    go false h = omega arith

-- ---- Blocks of a text

-- what is counted up to a place, and on from there
pub starts_on : (text : List ℕ) (at n : ℕ) → starts (take (at + n) text) ≡ starts (take at text) + starts (take n (drop at text))
starts_on text at n = rw (take-add at n text) (starts_append (take at text) (take n (drop at text)))

-- the same between two places, by way of a third
pub starts_between : (text : List ℕ) (from mid end : ℕ) → from ≤ mid → mid ≤ end
    → starts (take (end - from) (drop from text)) ≡ starts (take (mid - from) (drop from text)) + starts (take (end - mid) (drop mid text))
starts_between text from mid end onward farther =
    let split : end - from ≡ (mid - from) + (end - mid) = omega arith in
    let there : from + (mid - from) ≡ mid = omega arith in
    ap (λ (n : ℕ). starts (take n (drop from text))) split
    ∙ starts_on (drop from text) (mid - from) (end - mid)
    ∙ ap (λ (l : List ℕ). starts (take (mid - from) (drop from text)) + starts (take (end - mid) l)) (drop-drop (mid - from) from text ∙ ap (λ (n : ℕ). drop n text) there)

-- what is counted before a place, and after it
pub starts_rest : (text : List ℕ) (at : ℕ) → starts text ≡ starts (take at text) + starts (drop at text)
starts_rest text at = ap starts (sym (take-append-drop at text)) ∙ starts_append (take at text) (drop at text)

pub starts_here : (byte : ℕ) (text : List ℕ) → tail byte ≡ true → starts (byte ∷ text) ≡ starts text
unfolding starts
starts_here byte text e = rw e

pub starts_next : (byte : ℕ) (text : List ℕ) → tail byte ≡ false → starts (byte ∷ text) ≡ suc (starts text)
unfolding starts
starts_next byte text e = rw e

-- ---- Characters

pub starts_tails : (text : List ℕ) → Tails text → starts text ≡ 0
unfolding starts
starts_tails [] all = refl
starts_tails (b ∷ text) all = starts_here b text all.0 ∙ starts_tails text all.1

tails_take : (n : ℕ) (text : List ℕ) → Tails text → Tails (take n text)
tails_take zero text all = tt
tails_take (suc n) [] all = tt
tails_take (suc n) (b ∷ text) all = (all.0, tails_take n text all.1)

-- the beginning of a character has one start
pub starts_led : (c : List ℕ) (n : ℕ) → Led c → starts (take (suc n) c) ≡ 1
starts_led [] n led = absurd led
starts_led (first ∷ rest) n led = starts_next first (take n rest) led.0 ∙ ap suc (starts_tails (take n rest) (tails_take n rest led.1))
