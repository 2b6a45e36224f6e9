-- Bytes that are characters by themselves: the others counted within a block, and passed over where there are none.
-- Assumes nothing.
use mathlib.Core.Path.{◌≡◌, refl, ◌∙◌}
use mathlib.Core.Bool.{Bool, true, false, cond}
use Prim.Native.Nat.{ℕ, zero, suc, ◌+◌, ◌≤◌, ◌<◌}
use native.Mathlib.Numerals.{add-one}
use native.Mathlib.Omega.{arith}
use mathlib.Core.List.{List, [], ◌∷◌}
use lib.Dec.{leb}
use lib.ListN.{length, get_or, take, drop, drop_of_length-le}
use lib.Seq.{drop-cons}
use borrow.Author.Tests.{leb-false, le-leb, lt-leb}
use Rattle.chars_text.specs.Characters.{well_formed}
use Rattle.chars_text.proofs.Rows.{one}
use Rattle.chars_text.proofs.Reading.{well_formed_step}
use Rattle.chars_check.specs.Promises.{longs}

-- The count of the bytes passed and of the rest is that of all.
pub record Counting (block : List ℕ) (i count : ℕ) : Type 0 where
  pub inside : i ≤ length block
  pub few : count ≤ i
  pub all : count + longs (drop i block) ≡ longs block

pub counting_start : (block : List ℕ) → Counting block 0 0
counting_start block = record { inside = omega arith; few = omega arith; all = omega arith }

module _ {block : List ℕ} {i count : ℕ} (k : Counting block i count) where
  pub counting_more : i < length block → 0x80 ≤ get_or block i 0 → Counting block (i + 1) (count + 1)
  unfolding longs
  counting_more h e =
      let step : longs (drop i block) ≡ suc (longs (drop (i + 1) block)) = rw (add-one, drop-cons block i 0 h, longs, le-leb 0x80 (get_or block i 0) e) in
      record { inside = omega arith; few = omega (arith, k.few); all = omega (arith, k.all, step) }

  pub counting_next : i < length block → get_or block i 0 < 0x80 → Counting block (i + 1) count
  unfolding longs
  counting_next h e =
      let step : longs (drop i block) ≡ longs (drop (i + 1) block) = rw (add-one, drop-cons block i 0 h, longs, lt-leb 0x80 (get_or block i 0) e) in
      record { inside = omega arith; few = omega (arith, k.few); all = omega (arith, k.all, step) }

  pub counting_end : length block ≤ i → count ≡ longs block
  unfolding longs
  counting_end h =
      let rest : longs (drop i block) ≡ 0 = rw (drop_of_length-le block h) in
      omega (arith, k.all, rest)

-- none of them is part of a longer character
pub longs_none : (n : ℕ) (text : List ℕ) → n ≤ length text → longs (take n text) ≡ 0 → well_formed text ≡ well_formed (drop n text)
unfolding longs
longs_none zero text h e = refl
longs_none (suc n) [] h e = absurd (omega arith)
longs_none (suc n) (b ∷ text) h e = go (leb 0x80 b) refl e (longs_none n text (omega arith))
  where
    go : (t : Bool) → leb 0x80 b ≡ t → cond t (suc (longs (take n text))) (longs (take n text)) ≡ 0 → (longs (take n text) ≡ 0 → well_formed text ≡ well_formed (drop n text))
        → well_formed (b ∷ text) ≡ well_formed (drop n text)
    go true t e after = absurd (omega (arith, e))
    go false t e after = well_formed_step (b ∷ text) 0 (one b text (leb-false 0x80 b t)) ∙ after e
