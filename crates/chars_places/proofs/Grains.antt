-- The size of blocks, doubled until few enough cover a text; and the block that a place is in. Assumes nothing.
use mathlib.Core.Logic.{⊎_elim}
use Prim.Native.Nat.{ℕ, ◌+◌, ◌*◌, ◌/◌, ◌^◌, ◌≤◌, ◌<◌}
use native.Mathlib.Nat.{pow-suc, div-mul-le_self, le_of_mul-le-mul_right}
use native.Mathlib.Numerals.{add-one}
use native.Mathlib.Omega.{arith}
use lib.Pow.{pow_mono, pow_pos}
use Rattle.lists.proofs.Numbers.{either}
use Rattle.chars_places.specs.declared.Grain.{Grain}
use Rattle.chars_places.specs.Promises.{blocks_most, places_most, Doubling, Grained}
use Rattle.chars_places.specs.Lengths.{text_largest}

-- ---- Doubled

module _ {shift block : ℕ} (d : Doubling shift block) where
  pub doubling_few : shift < 32
  doubling_few = ⊎_elim (λ many. absurd (omega (arith, pow_mono many, d.power, d.small))) (λ few. few) (either 32 shift)

  pub doubling_some : 0 < block
  doubling_some = rw d.power (pow_pos shift)

  pub doubling_more : block * 2 ≤ text_largest → Doubling (shift + 1) (block * 2)
  doubling_more h = record { power = rw (add-one, pow-suc, d.power); small = h }

  pub doubling_end : (size : ℕ) → size ≤ block * blocks_most → Grained size (record { shift = shift; block = block })
  doubling_end size h = record { power = d.power; small = omega (arith, doubling_few); covers = omega (arith, h) }

-- ---- The block of a place

module _ {size : ℕ} {grain : Grain} (g : Grained size grain) where
  pub block_some : 0 < grain.block
  block_some = rw g.power (pow_pos grain.shift)

  -- the number of a block is below the number of places
  pub block_few : (k : ℕ) → k * grain.block ≤ size → k < places_most
  block_few k h = let few : k ≤ blocks_most = le_of_mul-le-mul_right (omega (arith, h, g.covers)) block_some in omega arith

  module _ (place : ℕ) where
    -- the block begins at the place or before it
    pub block_before : place / 2 ^ grain.shift * grain.block ≤ place
    block_before = rw g.power (div-mul-le_self place (2 ^ grain.shift))

    pub block_inside : place ≤ size → place / 2 ^ grain.shift < places_most
    block_inside h = block_few (place / 2 ^ grain.shift) (omega (arith, block_before))
