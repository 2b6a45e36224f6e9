-- "Converting there and back gives the batch we began with, and so does back and there, wherever the first step is accepted": what
-- the first step leaves is accepted by the second, which leaves the batch. Assumes nothing.
use Rattle.std.specs.Prelude.{Option, None, Some}
use mathlib.Core.Path.{◌≡◌, refl, ap, ap₂, sym, ◌∙◌}
use mathlib.Core.Bool.{Bool, true, false, cond}
use Prim.Native.Nat.{ℕ, ◌≤◌}
use native.Mathlib.Omega.{arith}
use mathlib.Core.List.{List, [], ◌∷◌, ◌++◌, map}
use lib.Dec.{leb}
use lib.ListN.{length}
use borrow.Author.Tests.{le-leb, leb-true}
use Rattle.record.specs.Tree.{Row, Forest, none, node}
use Rattle.record.specs.Walk.{all_rows}
use Rattle.chars_text.specs.Characters.{characters, well_formed, chars_before, place_of, is_start}
use Rattle.chars_text.proofs.Texts.{before_place, place_before, before_few, place_start, place_inside}
use Rattle.offsets_trees.specs.declared.Way.{Way}
use Rattle.offsets_trees.specs.declared.Way.TheVariants.{ToCharacters, ToBytes}
use Rattle.offsets_trees.specs.declared.Fault.{Fault}
use Rattle.offsets_trees.specs.declared.Fault.TheVariants.{PastEnd, InsideCharacter}
use Rattle.offsets_trees.specs.Offsets.{placed, with_offsets, converted, byte_fault, char_fault, earlier, row_fault, rows_fault, batch_fault, other_way, convert_by, fault_by}
use Rattle.offsets_trees.proofs.Converted.{converted_rows}

-- ---- The first fault

pub earlier_both : (a b : Option Fault) → earlier a b ≡ None → (a ≡ None) × (b ≡ None)
earlier_both None b e = (refl, e)
earlier_both (Some fault) b e = let never : ◌≡◌ {A = ℕ} 0 1 = cc in absurd (omega arith)

earlier_assoc : (a b c : Option Fault) → earlier (earlier a b) c ≡ earlier a (earlier b c)
earlier_assoc None b c = refl
earlier_assoc (Some fault) b c = refl

pub rows_fault_append : (fault : ℕ → Option Fault) (xs ys : List Row) → rows_fault fault (xs ++ ys) ≡ earlier (rows_fault fault xs) (rows_fault fault ys)
unfolding rows_fault
rows_fault_append fault [] ys = refl
rows_fault_append fault (r ∷ xs) ys =
    ap (earlier (row_fault fault r)) (rows_fault_append fault xs ys)
    ∙ sym (earlier_assoc (row_fault fault r) (rows_fault fault xs) (rows_fault fault ys))

-- ---- Two conversions that undo each other where the first has no fault

-- What is accepted on the way there is led back, and accepted on the way back.
pub record Undoes (fault fault' : ℕ → Option Fault) (there back : ℕ → ℕ) : Type 0 where
  pub again : (offset : ℕ) → fault offset ≡ None → back (there offset) ≡ offset
  pub accepted : (offset : ℕ) → fault offset ≡ None → fault' (there offset) ≡ None

module _ {fault fault' : ℕ → Option Fault} {there back : ℕ → ℕ} (u : Undoes fault fault' there back) where
  rows_again : (rows : List Row) → rows_fault fault rows ≡ None → map (with_offsets back) (map (with_offsets there) rows) ≡ rows
  unfolding rows_fault
  rows_again [] e = refl
  rows_again (r ∷ rows) e =
      let here = earlier_both (row_fault fault r) (rows_fault fault rows) e in
      let both = earlier_both (fault r.offset_start) (fault r.offset_end) here.0 in
      ap₂ (λ (row : Row) (left : List Row). row ∷ left)
      (ap₂ (placed r) (u.again r.offset_start both.0) (u.again r.offset_end both.1))
      (rows_again rows here.1)

  rows_accepted : (rows : List Row) → rows_fault fault rows ≡ None → rows_fault fault' (map (with_offsets there) rows) ≡ None
  unfolding rows_fault
  rows_accepted [] e = refl
  rows_accepted (r ∷ rows) e =
      let here = earlier_both (row_fault fault r) (rows_fault fault rows) e in
      let both = earlier_both (fault r.offset_start) (fault r.offset_end) here.0 in
      ap₂ earlier
      (ap₂ earlier (u.accepted r.offset_start both.0) (u.accepted r.offset_end both.1))
      (rows_accepted rows here.1)

  -- the second step gives the batch that the first began with
  pub batch_again : (f : Forest) → batch_fault fault f ≡ None → converted back (converted there f) ≡ f
  unfolding converted all_rows
  batch_again none e = refl
  batch_again (node r q w x) e =
      let own = earlier_both (rows_fault fault r) (rows_fault fault (all_rows w ++ all_rows x)) (sym (rows_fault_append fault r (all_rows w ++ all_rows x)) ∙ e) in
      let others = earlier_both (rows_fault fault (all_rows w)) (rows_fault fault (all_rows x)) (sym (rows_fault_append fault (all_rows w) (all_rows x)) ∙ own.1) in
      ap (λ (rows : List Row). node rows q (converted back (converted there w)) (converted back (converted there x))) (rows_again r own.0)
      ∙ ap₂ (node r q) (batch_again w others.0) (batch_again x others.1)

  -- and accepts what the first left
  pub batch_accepted : (f : Forest) → batch_fault fault f ≡ None → batch_fault fault' (converted there f) ≡ None
  batch_accepted f e = ap (rows_fault fault') (converted_rows there f) ∙ rows_accepted (all_rows f) e

-- ---- Bytes and characters

module _ (text : List ℕ) where
  pub byte_fine : (offset : ℕ) → byte_fault text offset ≡ None → (offset ≤ length text) × (is_start text offset ≡ true)
  byte_fine offset e = go (leb offset (length text)) (is_start text offset) refl refl e
    where
      go : (inside start : Bool) → leb offset (length text) ≡ inside → is_start text offset ≡ start → cond inside (cond start None (Some InsideCharacter)) (Some PastEnd) ≡ None
          → (offset ≤ length text) × (is_start text offset ≡ true)
      go true true i s e = (leb-true offset (length text) i, s)
      go true false i s e = let never : ◌≡◌ {A = ℕ} 0 1 = cc in absurd (omega arith)
      go false start i s e = let never : ◌≡◌ {A = ℕ} 0 1 = cc in absurd (omega arith)

  fine_byte : (offset : ℕ) → offset ≤ length text → is_start text offset ≡ true → byte_fault text offset ≡ None
  fine_byte offset inside start = simp (le-leb offset (length text) inside, start)

  pub char_fine : (offset : ℕ) → char_fault text offset ≡ None → offset ≤ length (characters text)
  char_fine offset e = go (leb offset (length (characters text))) refl e
    where
      go : (inside : Bool) → leb offset (length (characters text)) ≡ inside → cond inside None (Some PastEnd) ≡ None → offset ≤ length (characters text)
      go true i e = leb-true offset (length (characters text)) i
      go false i e = let never : ◌≡◌ {A = ℕ} 0 1 = cc in absurd (omega arith)

  fine_char : (offset : ℕ) → offset ≤ length (characters text) → char_fault text offset ≡ None
  fine_char offset inside = simp (le-leb offset (length (characters text)) inside)

  -- from bytes to characters and back
  there_and_back : Undoes (byte_fault text) (char_fault text) (chars_before text) (place_of text)
  there_and_back =
      record {
        again = λ offset e. place_before text offset (byte_fine offset e).1;
        accepted = λ offset e. fine_char (chars_before text offset) (before_few text offset);
      }

  -- from characters to bytes and back
  back_and_there : well_formed text ≡ true → Undoes (char_fault text) (byte_fault text) (place_of text) (chars_before text)
  back_and_there well =
      record {
        again = λ offset e. before_place text offset (char_fine offset e);
        accepted = λ offset e. fine_byte (place_of text offset) (place_inside text well offset (char_fine offset e)) (place_start text offset (char_fine offset e));
      }

  -- either way, and then the other
  pub undoes : well_formed text ≡ true → (way : Way) → Undoes (fault_by way text) (fault_by (other_way way) text) (convert_by way text) (convert_by (other_way way) text)
  undoes well ToCharacters = there_and_back
  undoes well ToBytes = back_and_there well

-- "Converting there and back gives the batch we began with, and so does back and there, wherever the first step is accepted"
pub round_trip : (text : List ℕ) → well_formed text ≡ true → (way : Way) (f : Forest) → batch_fault (fault_by way text) f ≡ None
    → (batch_fault (fault_by (other_way way) text) (converted (convert_by way text) f) ≡ None)
    × (converted (convert_by (other_way way) text) (converted (convert_by way text) f) ≡ f)
round_trip text well way f e = (batch_accepted (undoes text well way) f e, batch_again (undoes text well way) f e)
