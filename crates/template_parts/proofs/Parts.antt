-- The parts that are left from a place on: none past the end; else the part there and those from the next place on.
-- And their number, one step at a place.
-- Assumes nothing.
use mathlib.Core.Path.{◌≡◌, refl, ap, sym, ◌∙◌}
use mathlib.Core.Bool.{Bool, true, false, cond}
use Prim.Native.Nat.{ℕ, suc, ◌+◌, ◌-◌, ◌≤◌, ◌<◌}
use native.Mathlib.Numerals.{add-one}
use native.Mathlib.Omega.{arith}
use mathlib.Core.List.{List, [], ◌∷◌}
use lib.Dec.{leb}
use lib.ListN.{length, get_or, take, drop, length-drop, drop_of_length-le}
use lib.Seq.{drop-cons, drop-drop, length-take-le}
use borrow.Author.Tests.{leb-true, leb-false, le-leb, lt-leb, eq-eqb, ne_eqb}
use Rattle.template_parts.specs.Split.{split}
use Rattle.template_parts.specs.Parts.{space, parts, parts_from, first_of, part_step_at, length_to}
use Rattle.template_parts.specs.Promises.{FoundFrom}
use Rattle.std.specs.Prelude.{Some, None}
use Rattle.template_parts.specs.declared.Part.{Part}
use Rattle.template_parts.specs.declared.PartStep.{PartStep}
use Rattle.template_parts.proofs.Finding.{length_to_most}
use Rattle.template_parts.proofs.Split.{after, split_first}

-- ---- The part at a place

-- what follows the end of a part are the parts from the next place on
rest : (text : List ℕ) (j : ℕ) → after space (drop j text) ≡ parts_from text (j + 1)
unfolding parts_from
rest text j = go (leb (j + 1) (length text)) refl
  where
    go : (more : Bool) → leb (j + 1) (length text) ≡ more → after space (drop j text) ≡ cond more (parts (drop (j + 1) text)) []
    go true e =
        let inside : j < length text = omega (arith, leb-true (j + 1) (length text) e) in
        rw (add-one, drop-cons text j 0 inside)
    go false e =
        let past : length text ≤ j = omega (arith, leb-false (j + 1) (length text) e) in
        rw (drop_of_length-le text past)

module _ (text : List ℕ) (at : ℕ) where
  pub none_left : length text < at → parts_from text at ≡ []
  unfolding parts_from
  none_left h = rw (lt-leb at (length text) h)

  module _ (h : at ≤ length text) where
    -- the bytes of the part at a place
    abbrev pub size : ℕ
    size = length_to space (drop at text)

    pub size_fits : at + size ≤ length text
    size_fits = omega (arith, length_to_most space (drop at text), length-drop at text)

    pub parts_first : parts_from text at ≡ take size (drop at text) ∷ parts_from text (at + size + 1)
    unfolding parts_from
    parts_first = rw (le-leb at (length text) h, split_first space (drop at text), drop-drop) (ap (◌∷◌ (take size (drop at text))) (rest text (at + size)))

    -- the part that ends at the first space from a place on, and the place after it
    pub step_is : {end : ℕ} → FoundFrom text at space end → ◌≡◌ {A = PartStep} (record { answer = Some (record { start = at; length = end - at }); next = end + 1 }) (part_step_at text at)
    step_is {end} found =
        let whole : length (take size (drop at text)) ≡ size = length-take-le size (drop at text) (length_to_most space (drop at text)) in
        let long : end - at ≡ size = omega (arith, found.place) in
        rw (parts_first, whole, long, found.place)

-- ---- What an answer says

-- A part was found at a place: where it lies, the place after it, and what is left from there on.
pub record Here (text : List ℕ) (at start size : ℕ) : Type 0 where
  pub place : start ≡ at
  pub inside : start + size ≤ length text
  pub next : (part_step_at text at).next ≡ start + size + 1
  pub left : parts_from text at ≡ take size (drop start text) ∷ parts_from text (start + size + 1)

pub part_found : (text : List ℕ) (at : ℕ) {part : Part} → (part_step_at text at).answer ≡ Some part → Here text at part.start part.length
part_found text at {part} e = go (leb at (length text)) refl
  where
    go : (more : Bool) → leb at (length text) ≡ more → Here text at part.start part.length
    go true t =
        let h : at ≤ length text = leb-true at (length text) t in
        let n : ℕ = length_to space (drop at text) in
        let whole : length (take n (drop at text)) ≡ n = length-take-le n (drop at text) (length_to_most space (drop at text)) in
        let first : parts_from text at ≡ take n (drop at text) ∷ parts_from text (at + n + 1) = parts_first text at h in
        let found : Some (record { start = at; length = length (take n (drop at text)) }) ≡ Some part = rw first at e in
        let place : part.start ≡ at = cc in
        let long : part.length ≡ n = cc in
        record { place = place; inside = rw (place, long) (size_fits text at h); next = rw (first, whole, place, long); left = rw (place, long) first }
    go false t =
        let none : parts_from text at ≡ [] = none_left text at (leb-false at (length text) t) in
        let end : None ≡ Some part = rw none at e in
        let z : ◌≡◌ {A = ℕ} 0 1 = cc in
        absurd (omega arith)

-- A part that is left at a place stands there, and the others are left from the next place on.
pub record Leads (text : List ℕ) (at : ℕ) (part : List ℕ) (rest : List (List ℕ)) : Type 0 where
  pub inside : at + length part ≤ length text
  pub stands : take (length part) (drop at text) ≡ part
  pub next : parts_from text (at + length part + 1) ≡ rest

pub part_leads : (text : List ℕ) (at : ℕ) {part : List ℕ} {rest : List (List ℕ)} → parts_from text at ≡ part ∷ rest → Leads text at part rest
part_leads text at {part} {rest} e =
    let here : Here text at at (length part) = part_found text at (rw e) in
    let same : take (length part) (drop at text) ∷ parts_from text (at + length part + 1) ≡ part ∷ rest = sym here.left ∙ e in
    record { inside = here.inside; stands = cc; next = cc }

pub part_none : (text : List ℕ) (at : ℕ) → (part_step_at text at).answer ≡ None → parts_from text at ≡ []
part_none text at e = go (parts_from text at) e
  where
    go : (left : List (List ℕ)) → first_of at left ≡ None → left ≡ []
    go [] e = refl
    go (part ∷ rest) e = cc

-- ---- How many there are

-- The parts that end before place i are one fewer than the count, and the others are those of the text from i on.
pub record Counting (text : List ℕ) (count i : ℕ) : Type 0 where
  pub inside : i ≤ length text
  pub few : count ≤ i + 1
  pub same : length (parts text) + 1 ≡ count + length (parts (drop i text))

pub start : (text : List ℕ) → Counting text 1 0
start text = record { inside = omega arith; few = omega arith; same = omega arith }

module _ {text : List ℕ} {count i : ℕ} (c : Counting text count i) where
  pub at_space : i < length text → get_or text i 0 ≡ space → Counting text (count + 1) (i + 1)
  unfolding split
  at_space h e =
      let step : length (parts (drop i text)) ≡ suc (length (parts (drop (i + 1) text))) = rw (add-one, drop-cons text i 0 h, split, eq-eqb (get_or text i 0) space e) in
      record { inside = omega arith; few = omega (arith, c.few); same = omega (arith, c.same) }

  pub at_other : i < length text → (get_or text i 0 ≡ space → ⊥) → Counting text count (i + 1)
  unfolding split
  at_other h e =
      let step : length (parts (drop i text)) ≡ length (parts (drop (i + 1) text)) = rw (add-one, drop-cons text i 0 h, split, ne_eqb (get_or text i 0) space e, split_first space (drop (suc i) text)) in
      record { inside = omega arith; few = omega (arith, c.few); same = omega (arith, c.same) }

  pub at_end : length text ≤ i → count ≡ length (parts text)
  unfolding split
  at_end h =
      let one : length (parts (drop i text)) ≡ 1 = rw (drop_of_length-le text h) in
      omega (arith, c.same)
