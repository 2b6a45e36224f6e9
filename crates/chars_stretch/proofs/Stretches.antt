-- Where every byte is a character's first, places and characters go on together. Assumes nothing.
use mathlib.Core.Path.{◌≡◌, refl, ap, sym, ◌∙◌}
use mathlib.Core.Bool.{Bool, true, false}
use Prim.Native.Nat.{ℕ, ◌+◌, ◌-◌, ◌≤◌, ◌<◌}
use native.Mathlib.Omega.{arith}
use mathlib.Core.List.{List, [], ◌∷◌}
use lib.ListN.{length, take, drop, length-take}
use Rattle.chars_text.specs.Utf8.{tail}
use Rattle.chars_text.specs.Characters.{starts}
use Rattle.chars_text.proofs.Starts.{starts_on, starts_between, starts_few, starts_rest, starts_here}
use Rattle.chars_places.specs.declared.Mark.{Mark}
use Rattle.chars_places.specs.Promises.{Marked}
use Rattle.chars_back.specs.Promises.{nth_start}
use Rattle.chars_back.proofs.Nth.{nth_on, nth_inside, nth_counted}
use Rattle.chars_stretch.specs.declared.Stretch.{Stretch}
use Rattle.chars_stretch.specs.Promises.{StartsUpTo, Stretched, CharsStretched, PlacesStretched}

-- ---- Part by part

pub none_yet : (text : List ℕ) (from : ℕ) → from ≤ length text → StartsUpTo text from from
unfolding starts
none_yet text from h =
    let none : from - from ≡ 0 = omega arith in
    record { onward = omega arith; inside = h; all = rw none }

pub one_part_more : {text : List ℕ} {from to : ℕ} → StartsUpTo text from to → (end count : ℕ) → to ≤ end → end ≤ length text
    → count ≡ starts (take (end - to) (drop to text))
    → end - to ≤ count
    → StartsUpTo text from end
one_part_more {text} {from} {to} u end count onward inside counted many =
    let part = take (end - to) (drop to text) in
    record {
      onward = omega (arith, u.onward);
      inside = inside;
      all = omega (arith, u.onward, u.all, counted, many, starts_few part, length-take (end - to) (drop to text), starts_between text from to end u.onward onward);
    }

-- ---- Places and characters together

module _ {text : List ℕ} {mark : Mark} (m : Marked text mark) {end : ℕ} (u : StartsUpTo text mark.place end) where
  -- as many characters as bytes behind the mark
  pub together : (k : ℕ) → mark.place + k ≤ end → starts (take (mark.place + k) text) ≡ mark.count + k
  together k h =
      let behind = drop mark.place text in
      let split : k + (end - mark.place - k) ≡ end - mark.place = omega arith in
      let all : starts (take (k + (end - mark.place - k)) behind) ≡ end - mark.place = ap (λ (n : ℕ). starts (take n behind)) split ∙ u.all in
      let rest = take (end - mark.place - k) (drop k behind) in
      omega (arith, starts_on text mark.place k, m.counted, all, starts_on behind k (end - mark.place - k), starts_few (take k behind), length-take k behind, starts_few rest, length-take (end - mark.place - k) (drop k behind))

-- the first byte is the character that is looked for
first_start : (text : List ℕ) → starts (take 1 text) ≡ 1 → nth_start 0 text ≡ 0
unfolding starts nth_start
first_start [] e = refl
first_start (byte ∷ text) e = go (tail byte) refl
  where
    go : (t : Bool) → tail byte ≡ t → nth_start 0 (byte ∷ text) ≡ 0
    go true t = absurd (omega (arith, e, starts_here byte [] t))
    go false t = rw t

-- a place that so many characters begin before, and one at it, is the place of that character
pub nth_there : (text : List ℕ) (place count : ℕ) → place ≤ length text → starts (take place text) ≡ count → starts (take (place + 1) text) ≡ count + 1 → nth_start count text ≡ place
nth_there text place count inside before one =
    let first : starts (take 1 (drop place text)) ≡ 1 = omega (arith, starts_on text place 1, before, one) in
    let none : starts (take place text) + 0 ≡ count = omega (arith, before) in
    ap (λ (n : ℕ). nth_start n text) (sym none) ∙ nth_on place 0 text inside ∙ omega (arith, first_start (drop place text) first)

-- ---- Stretches

-- a stretch of one offset
pub point : (becomes : ℕ → ℕ) (most offset base : ℕ) → offset ≤ most → becomes offset ≡ base → Stretched becomes most (record { from = offset; to = offset; base = base })
point becomes most offset base inside e =
    record {
      onward = omega arith;
      inside = inside;
      along = λ other h.
          let same : other ≡ offset = omega (arith, h.not_before, h.not_behind) in
          rw same (e ∙ omega arith);
    }

module _ (text : List ℕ) {s : Stretch} where
  pub chars_mark : CharsStretched text s → Marked text (record { place = s.to; count = s.base + (s.to - s.from) })
  chars_mark c = record { inside = c.inside; counted = sym (c.along s.to (record { not_before = c.onward; not_behind = omega arith })) }

  -- no more than there are bytes
  pub chars_mark_few : CharsStretched text s → s.base + (s.to - s.from) ≤ length text
  chars_mark_few c = omega (arith, (chars_mark c).counted, starts_rest text s.to, starts_few text)

  pub places_mark : PlacesStretched text s → Marked text (record { place = s.base + (s.to - s.from); count = s.to })
  places_mark c =
      let there : nth_start s.to text ≡ s.base + (s.to - s.from) = c.along s.to (record { not_before = c.onward; not_behind = omega arith }) in
      rw (← there) (record { inside = nth_inside s.to text; counted = sym (nth_counted s.to text c.inside) })

module _ {text : List ℕ} (place count : ℕ) {end : ℕ} (u : StartsUpTo text place end) where
  pub chars_stretch : count ≡ starts (take place text) → CharsStretched text (record { from = place; to = end; base = count })
  chars_stretch e =
      let m : Marked text (record { place = place; count = count }) = record { inside = omega (arith, u.onward, u.inside); counted = e } in
      record {
        onward = u.onward;
        inside = u.inside;
        along = λ offset h.
            let there : place + (offset - place) ≡ offset = omega (arith, h.not_before) in
            ap (λ (n : ℕ). starts (take n text)) (sym there) ∙ together m u (offset - place) (omega (arith, there, h.not_behind));
      }

  module _ (few : count ≤ starts text) (e : place ≡ nth_start count text) where
    pub places_stretch : place < end → PlacesStretched text (record { from = count; to = count + (end - place - 1); base = place })
    places_stretch some =
        let m : Marked text (record { place = place; count = count })
        = rw e (record { inside = nth_inside count text; counted = sym (nth_counted count text few) }) in
        let all : place + (end - place) ≡ end = omega arith in
        record {
          onward = omega arith;
          inside = omega (arith, together m u (end - place) (omega arith), starts_rest text (place + (end - place)));
          along = λ offset h.
              let k = offset - count in
              let there : count + k ≡ offset = omega (arith, h.not_before) in
              let under : place + k < end = omega (arith, h.not_behind, there) in
              let onto : place + (k + 1) ≡ place + k + 1 = omega arith in
              nth_there text (place + k) offset (omega (arith, u.inside))
              (together m u k (omega arith) ∙ there)
              (ap (λ (n : ℕ). starts (take n text)) (sym onto) ∙ together m u (k + 1) (omega arith) ∙ omega (arith, there));
        }
