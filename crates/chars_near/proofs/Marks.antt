-- Where the next one is looked for from: near the last one, or at the table's mark. Assumes nothing.
use mathlib.Core.Path.{◌≡◌, ap, sym, ◌∙◌}
use Prim.Native.Nat.{ℕ, ◌+◌, ◌-◌, ◌*◌, ◌/◌, ◌^◌, ◌≤◌, ◌<◌}
use native.Mathlib.Omega.{arith}
use mathlib.Core.List.{List}
use lib.ListN.{get_or, take, drop}
use Rattle.chars_text.specs.Characters.{starts}
use Rattle.chars_text.proofs.Starts.{starts_few}
use Rattle.chars_places.specs.declared.Grain.{Grain}
use Rattle.chars_places.specs.declared.Mark.{Mark}
use Rattle.chars_places.specs.Promises.{places_most, Marked}
use Rattle.chars_places.proofs.Grains.{block_before, block_few}
use Rattle.chars_back.specs.Promises.{nth_start, BackTabled}
use Rattle.chars_back.proofs.Nth.{nth_on}

-- what is looked for from a mark on
pub found_on : {text : List ℕ} {mark : Mark} → Marked text mark → (count place : ℕ) → mark.count ≤ count
    → place ≡ mark.place + nth_start (count - mark.count) (drop mark.place text)
    → place ≡ nth_start count text
found_on {text} {mark} m count place h e =
    let before : starts (take mark.place text) + (count - mark.count) ≡ count = omega (arith, m.counted) in
    e
    ∙ sym (nth_on mark.place (count - mark.count) text m.inside)
    ∙ ap (λ (n : ℕ). nth_start n text) before

module _ {text table : List ℕ} {grain : Grain} (t : BackTabled text table grain) (count : ℕ) (few : count ≤ starts text) where
  -- the block of characters begins at the character or before it
  pub back_before : count / 2 ^ grain.shift * grain.block ≤ count
  back_before = block_before t.grained count

  pub back_inside : count / 2 ^ grain.shift < places_most
  back_inside = block_few t.grained (count / 2 ^ grain.shift) (omega (arith, back_before, starts_few text))

  -- the mark of the character's block
  pub back_mark : (entry : ℕ) → entry ≡ get_or table (count / 2 ^ grain.shift) 0 → Marked text (record { place = entry; count = count / 2 ^ grain.shift * grain.block })
  back_mark entry e = rw e (t.entries (count / 2 ^ grain.shift) (omega (arith, back_before)))
