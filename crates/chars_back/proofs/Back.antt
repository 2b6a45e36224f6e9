-- Filling the table for the way back, and what it says of any character. Assumes nothing.
use mathlib.Core.Path.{◌≡◌, ap, sym, ◌∙◌}
use mathlib.Core.Logic.{⊎_elim}
use Prim.Native.Nat.{ℕ, ◌+◌, ◌*◌, ◌/◌, ◌≤◌, ◌<◌}
use native.Mathlib.Nat.{zero-mul, suc-mul, le-div_iff_mul-le}
use native.Mathlib.Numerals.{add-one}
use native.Mathlib.Omega.{arith}
use mathlib.Core.List.{List}
use lib.ListN.{length, get_or, take, drop, set, length-set, length-drop}
use lib.Seq.{get_or-set_same, get_or-set_other}
use Rattle.lists.proofs.Numbers.{either}
use Rattle.chars_text.specs.Characters.{starts}
use Rattle.chars_text.proofs.Starts.{starts_on, starts_few, starts_rest}
use Rattle.chars_places.specs.declared.Grain.{Grain}
use Rattle.chars_places.specs.Promises.{places_most, Grained, Marked}
use Rattle.chars_places.proofs.Grains.{block_few}
use Rattle.chars_places.proofs.Marks.{marked_start}
use Rattle.chars_back.specs.Promises.{nth_start, BackTabled}
use Rattle.chars_back.proofs.Nth.{nth_inside, nth_counted}

-- the next mark, so many characters on
pub mark_next : {text : List ℕ} {place count : ℕ} → Marked text (record { place = place; count = count }) → (more next : ℕ) → count + more ≤ starts text → next ≡ place + nth_start more (drop place text)
    → Marked text (record { place = next; count = count + more })
mark_next {text} {place} {count} m more next h e =
    let on = nth_start more (drop place text) in
    let rest : count + starts (drop place text) ≡ starts text = ap (λ (n : ℕ). n + starts (drop place text)) m.counted ∙ sym (starts_rest text place) in
    record {
      inside = omega (arith, e, nth_inside more (drop place text), length-drop place text, m.inside);
      counted =
          ap (◌+◌ count) (sym (nth_counted more (drop place text) (omega (arith, rest, h))))
          ∙ ap (λ (n : ℕ). n + starts (take on (drop place text))) m.counted
          ∙ sym (starts_on text place on)
          ∙ ap (λ (n : ℕ). starts (take n text)) (sym e);
    }

-- The entries up to k are marks, and the last is at this place.
pub record BackFilling (text table : List ℕ) (block k at : ℕ) : Type 0 where
  pub room : length table ≡ places_most
  pub last : Marked text (record { place = at; count = k * block })
  pub entries : (j : ℕ) → j ≤ k → Marked text (record { place = get_or table j 0; count = j * block })

pub back_start : (text table : List ℕ) (block : ℕ) → length table ≡ places_most → BackFilling text (set table 0 0) block 0 0
back_start text table block room =
    let first : Marked text (record { place = 0; count = 0 * block }) = rw (zero-mul block) (marked_start text) in
    record {
      room = length-set table 0 0 ∙ room;
      last = first;
      entries = λ j h.
          let none : j ≡ 0 = omega arith in
          rw (none, get_or-set_same table 0 0 0 (omega (arith, room))) first;
    }

module _ {text table : List ℕ} {block total k at : ℕ} (f : BackFilling text table block k at) (all : total ≡ starts text) (some : 0 < block) where
  sum : k * block + block ≡ (k + 1) * block
  sum = rw (add-one, suc-mul k block)

  more_few : k < total / block → k * block + block ≤ starts text
  more_few h = omega (arith, all, sum, (le-div_iff_mul-le {k = block} {x = k + 1} {y = total} some).0 (omega arith))

  pub back_few : {grain : Grain} → Grained (length text) grain → grain.block ≡ block → k < total / block → k + 1 < places_most
  back_few g e h = block_few g (k + 1) (rw e (omega (arith, sum, more_few h, starts_few text)))

  -- the place that is found
  pub back_mark : (next : ℕ) → k < total / block → next ≡ at + nth_start block (drop at text) → Marked text (record { place = next; count = (k + 1) * block })
  back_mark next h e = rw (← sum) (mark_next f.last block next (more_few h) e)

  pub back_next : (next : ℕ) → k < total / block → next ≡ at + nth_start block (drop at text) → k + 1 < places_most
      → BackFilling text (set table (k + 1) next) block (k + 1) next
  back_next next h e few =
      record {
        room = length-set table (k + 1) next ∙ f.room;
        last = back_mark next h e;
        entries = λ j le.
            ⊎_elim
            (λ (here : k + 1 ≤ j).
            let same : j ≡ k + 1 = omega arith in
            rw (same, get_or-set_same table (k + 1) next 0 (omega (arith, f.room))) (back_mark next h e))
            (λ (earlier : j < k + 1). rw (get_or-set_other table (k + 1) j next 0 (λ e. omega arith)) (f.entries j (omega arith)))
            (either (k + 1) j);
      }

  pub back_end : {grain : Grain} → Grained (length text) grain → grain.block ≡ block → total / block ≤ k → BackTabled text table grain
  back_end {grain} g e h =
      record {
        room = f.room;
        grained = g;
        entries = λ j few.
            let last : j ≤ total / block = (le-div_iff_mul-le {k = block} {x = j} {y = total} some).1 (rw (← e, all) few) in
            rw e (f.entries j (omega arith));
      }
