-- The way to a character, from any place on: over as many bytes as characters are left, then byte by byte. Assumes nothing.
use mathlib.Core.Path.{◌≡◌, refl, ap, sym, ◌∙◌}
use Prim.Native.Nat.{ℕ, suc, ◌+◌, ◌-◌, ◌≤◌, ◌<◌}
use native.Mathlib.Numerals.{add-one}
use native.Mathlib.Omega.{arith}
use mathlib.Core.List.{List}
use lib.ListN.{length, get_or, take, drop, length-take, length-drop}
use lib.Seq.{drop-cons, drop-drop}
use Rattle.chars_text.specs.Characters.{starts}
use Rattle.chars_text.proofs.Starts.{starts_few}
use Rattle.chars_count.specs.Promises.{start_of}
use Rattle.chars_back.specs.Promises.{nth_start}
use Rattle.chars_back.proofs.Nth.{nth_byte, nth_stop, nth_past, nth_on}

-- What is looked for from here on is what was looked for.
pub record Seeking (text : List ℕ) (from count at left : ℕ) : Type 0 where
  pub inside : at ≤ length text
  pub same : from + nth_start count (drop from text) ≡ at + nth_start left (drop at text)

pub seeking_start : (text : List ℕ) (from count : ℕ) → from ≤ length text → Seeking text from count from count
seeking_start text from count h = record { inside = h; same = refl }

module _ {text : List ℕ} {from count at left : ℕ} (s : Seeking text from count at left) where
  -- past some bytes, and the characters that begin there
  pub seeking_on : (end here : ℕ) → at ≤ end → end ≤ length text → here ≡ starts (take (end - at) (drop at text)) → here ≤ left → Seeking text from count end (left - here)
  seeking_on end here some inside e le =
      let all : starts (take (end - at) (drop at text)) + (left - here) ≡ left = omega (arith, e, le) in
      let there : at + (end - at) ≡ end = omega arith in
      let on : nth_start left (drop at text) ≡ (end - at) + nth_start (left - here) (drop end text)
      = ap (λ (n : ℕ). nth_start n (drop at text)) (sym all)
      ∙ nth_on (end - at) (left - here) (drop at text) (omega (arith, length-drop at text))
      ∙ ap (λ (l : List ℕ). (end - at) + nth_start (left - here) l) (drop-drop (end - at) at text ∙ ap (λ (n : ℕ). drop n text) there) in
      record { inside = inside; same = omega (arith, s.same, on, there) }

  -- no more begin than there are bytes
  pub seeking_few : (here : ℕ) → here ≡ starts (take (at + left - at) (drop at text)) → here ≤ left
  seeking_few here e = omega (arith, e, starts_few (take (at + left - at) (drop at text)), length-take (at + left - at) (drop at text))

  pub seeking_past : length text - at < left → length text ≡ from + nth_start count (drop from text)
  seeking_past h = omega (arith, s.same, s.inside, nth_past left (drop at text) (omega (arith, length-drop at text)), length-drop at text)

  -- no character is left to pass together with others
  pub seeking_rest : (place : ℕ) → place ≡ at + nth_start left (drop at text) → place ≡ from + nth_start count (drop from text)
  seeking_rest place e = e ∙ sym s.same

  -- past a byte, and the character that begins there if one does
  pub seeking_byte : (here : ℕ) → here ≡ start_of (get_or text at 0) → at < length text → here ≤ left → Seeking text from count (at + 1) (left - here)
  seeking_byte here e h le =
      let on : nth_start left (drop at text) ≡ suc (nth_start (left - here) (drop (at + 1) text))
      = rw (add-one, e, drop-cons text at 0 h) (nth_byte left (get_or text at 0) (drop (suc at) text) (omega (arith, e, le))) in
      record { inside = omega arith; same = omega (arith, s.same, on) }

  pub seeking_here : (here : ℕ) → here ≡ start_of (get_or text at 0) → at < length text → left < here → at ≡ from + nth_start count (drop from text)
  seeking_here here e h lt =
      let stop : nth_start left (drop at text) ≡ 0 = rw (drop-cons text at 0 h) (nth_stop left (get_or text at 0) (drop (suc at) text) (omega (arith, e, lt))) in
      omega (arith, s.same, stop)

  pub seeking_end : length text ≤ at → length text ≡ from + nth_start count (drop from text)
  seeking_end h = omega (arith, s.same, s.inside, nth_past left (drop at text) (omega (arith, length-drop at text)), length-drop at text)
