-- What the table of places holds.
-- Assumes nothing: these are definitions.
use Rattle.std.specs.Prelude.{◌≡◌, ℕ, ◌*◌, ◌^◌, ◌≤◌, ◌<◌, List, length, get_or, take}
use Rattle.chars_text.specs.Characters.{starts}
use Rattle.chars_places.specs.Lengths.{text_largest}
use Rattle.chars_places.specs.declared.Grain.{Grain}
use Rattle.chars_places.specs.declared.Mark.{Mark}

-- how many blocks a text is cut into at most, and how many places there are before, between and after them
abbrev pub blocks_most : ℕ
blocks_most = 16384

abbrev pub places_most : ℕ
places_most = 16385

-- The size of a block is a power of two, and not too large.
pub record Doubling (shift block : ℕ) : Type 0 where
  pub power : block ≡ 2 ^ shift
  pub small : block ≤ text_largest

-- The size of the blocks of a text of this length: a power of two, of which few enough cover it.
pub record Grained (size : ℕ) (grain : Grain) : Type 0 where
  pub power : grain.block ≡ 2 ^ grain.shift
  pub small : grain.shift < 64
  pub covers : size ≤ blocks_most * grain.block

-- There is room for a table of a text with such blocks.
pub record Fillable (text table : List ℕ) (grain : Grain) : Type 0 where
  pub room : length table ≡ places_most
  pub short : length text ≤ text_largest
  pub grained : Grained (length text) grain

-- The place is one of the text, and so many characters begin before it.
pub record Marked (text : List ℕ) (mark : Mark) : Type 0 where
  pub inside : mark.place ≤ length text
  pub counted : mark.count ≡ starts (take mark.place text)

-- The table has at every beginning of a block the number of characters before it.
pub record Tabled (text table : List ℕ) (grain : Grain) : Type 0 where
  pub room : length table ≡ places_most
  pub grained : Grained (length text) grain
  pub entries : (k : ℕ) → k * grain.block ≤ length text → get_or table k 0 ≡ starts (take (k * grain.block) text)
