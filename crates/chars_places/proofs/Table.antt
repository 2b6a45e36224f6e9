-- Filling the table of places block by block, and what it says of any place. Assumes nothing.
use mathlib.Core.Path.{◌≡◌, refl, ap, sym, ◌∙◌}
use mathlib.Core.Logic.{⊎_elim}
use Prim.Native.Nat.{ℕ, ◌+◌, ◌-◌, ◌*◌, ◌/◌, ◌^◌, ◌≤◌, ◌<◌}
use native.Mathlib.Nat.{zero-mul, suc-mul, le-div_iff_mul-le}
use native.Mathlib.Numerals.{add-one}
use native.Mathlib.Omega.{arith}
use mathlib.Core.List.{List}
use lib.ListN.{length, get_or, take, drop, set, length-set, length-take}
use lib.Seq.{get_or-set_same, get_or-set_other}
use Rattle.lists.proofs.Numbers.{either}
use Rattle.chars_text.specs.Characters.{starts}
use Rattle.chars_text.proofs.Starts.{starts_on, starts_few}
use Rattle.chars_places.specs.declared.Grain.{Grain}
use Rattle.chars_places.specs.Promises.{places_most, Grained, Marked, Tabled}
use Rattle.chars_places.proofs.Grains.{block_some, block_few, block_before}

-- ---- Filled

-- The entries up to k are right, and the count is that of the last.
pub record Filling (text table : List ℕ) (block k count : ℕ) : Type 0 where
  pub room : length table ≡ places_most
  pub counted : count ≡ starts (take (k * block) text)
  pub entries : (j : ℕ) → j ≤ k → get_or table j 0 ≡ starts (take (j * block) text)

pub filling_start : (text table : List ℕ) (block : ℕ) → length table ≡ places_most → Filling text (set table 0 0) block 0 0
unfolding starts
filling_start text table block room =
    record {
      room = length-set table 0 0 ∙ room;
      counted = rw zero-mul refl;
      entries = λ j h.
          let none : j ≡ 0 = omega arith in
          rw (none, zero-mul block) (get_or-set_same table 0 0 0 (omega arith));
    }

-- a block after k others is one of the text, if so many fit in it
pub block_inside : (text : List ℕ) {block k : ℕ} → 0 < block → k < length text / block → k * block + block ≤ length text
block_inside text {block} {k} some h =
    omega (arith, (le-div_iff_mul-le {k = block} {x = k + 1} {y = length text} some).0 (omega arith), ap (λ (n : ℕ). n * block) (add-one k), suc-mul k block)

module _ {text table : List ℕ} {block k count : ℕ} (f : Filling text table block k count) where
  next_place : k * block + block ≡ (k + 1) * block
  next_place = rw (add-one, suc-mul k block)

  pub filling_few : {grain : Grain} → Grained (length text) grain → grain.block ≡ block → k * block + block ≤ length text → k + 1 < places_most
  filling_few g e h = block_few g (k + 1) (rw (e, ← next_place) h)

  module _ (more : ℕ) (is : more ≡ starts (take (k * block + block - k * block) (drop (k * block) text))) (fits : k * block + block ≤ length text) where
    filling_count : count + more ≡ starts (take (k * block + block) text)
    filling_count =
        let size : k * block + block - k * block ≡ block = omega arith in
        ap (λ (n : ℕ). n + more) f.counted
        ∙ ap (◌+◌ (starts (take (k * block) text))) (is ∙ ap (λ (n : ℕ). starts (take n (drop (k * block) text))) size)
        ∙ sym (starts_on text (k * block) block)

    -- the count is no more than the bytes
    pub filling_fits : count + more ≤ length text
    filling_fits = omega (arith, filling_count, starts_few (take (k * block + block) text), length-take (k * block + block) text)

    pub filling_next : k + 1 < places_most → Filling text (set table (k + 1) (count + more)) block (k + 1) (count + more)
    filling_next few =
        record {
          room = length-set table (k + 1) (count + more) ∙ f.room;
          counted = filling_count ∙ ap (λ (n : ℕ). starts (take n text)) next_place;
          entries = λ j h.
              ⊎_elim
              (λ (last : k + 1 ≤ j).
              let same : j ≡ k + 1 = omega arith in
              rw (same, ← next_place) (get_or-set_same table (k + 1) (count + more) 0 (omega (arith, f.room)) ∙ filling_count))
              (λ (earlier : j < k + 1). get_or-set_other table (k + 1) j (count + more) 0 (λ e. omega arith) ∙ f.entries j (omega arith))
              (either (k + 1) j);
        }

  pub filling_end : {grain : Grain} → Grained (length text) grain → grain.block ≡ block → length text / block ≤ k → Tabled text table grain
  filling_end {grain} g e h =
      record {
        room = f.room;
        grained = g;
        entries = λ j inside.
            let some : 0 < block = rw (← e) (block_some g) in
            let last : j ≤ length text / block = (le-div_iff_mul-le {k = block} {x = j} {y = length text} some).1 (rw (← e) inside) in
            rw e (f.entries j (omega arith));
      }

-- ---- Used

module _ {text table : List ℕ} {grain : Grain} (t : Tabled text table grain) (place : ℕ) (inside : place ≤ length text) where
  -- the mark at the beginning of the place's block
  pub table_mark : (entry : ℕ) → entry ≡ get_or table (place / 2 ^ grain.shift) 0 → Marked text (record { place = place / 2 ^ grain.shift * grain.block; count = entry })
  table_mark entry e =
      let before : place / 2 ^ grain.shift * grain.block ≤ length text = omega (arith, block_before t.grained place) in
      record { inside = before; counted = e ∙ t.entries (place / 2 ^ grain.shift) before }
