-- What the walk over the blocks and characters of a text gives.
-- Assumes nothing: these are definitions.
use Rattle.std.specs.Prelude.{◌≡◌, false, cond, ℕ, suc, ◌≤◌, ◌<◌, List, [], ◌∷◌, leb, length, drop}
use Rattle.chars_text.specs.Utf8.{character}
use Rattle.chars_text.specs.Characters.{well_formed}

-- how many bytes are no characters by themselves
unfoldable pub longs : List ℕ → ℕ
longs [] = 0
longs (byte ∷ text) = cond (leb 0x80 byte) (suc (longs text)) (longs text)

-- The text was walked over from one place to another, as far as asked or up to where there is no character.
pub record Walked (text : List ℕ) (from to at : ℕ) : Type 0 where
  pub onward : from ≤ at
  pub inside : at ≤ length text
  pub same : well_formed (drop from text) ≡ well_formed (drop at text)
  pub stopped : at < to → character (drop at text) ≡ 0

-- Bytes that are characters by themselves were passed, as far as asked at most.
pub record PlainSkipped (text : List ℕ) (from to at : ℕ) : Type 0 where
  pub onward : from ≤ at
  pub few : at ≤ to
  pub same : well_formed (drop from text) ≡ well_formed (drop at text)

-- What is left decides, or the text from here on is not well-formed.
pub record Passed (text : List ℕ) (at next : ℕ) : Type 0 where
  pub onward : at ≤ next
  pub inside : next ≤ length text
  pub same : well_formed (drop at text) ≡ well_formed (drop next text)
  pub stopped : next ≡ at → well_formed (drop at text) ≡ false
