-- What a stretch of offsets is, for each way.
-- Assumes nothing: these are definitions.
use Rattle.std.specs.Prelude.{◌≡◌, ℕ, ◌+◌, ◌-◌, ◌≤◌, List, length, take, drop}
use Rattle.chars_text.specs.Characters.{starts}
use Rattle.chars_back.specs.Promises.{nth_start}
use Rattle.chars_stretch.specs.declared.Stretch.{Stretch}

-- Every byte from one place of a text up to another is no tail.
pub record StartsUpTo (text : List ℕ) (from to : ℕ) : Type 0 where
  pub onward : from ≤ to
  pub inside : to ≤ length text
  pub all : starts (take (to - from) (drop from text)) ≡ to - from

-- The offset is one of the stretch.
pub record Holds (s : Stretch) (offset : ℕ) : Type 0 where
  pub not_before : s.from ≤ offset
  pub not_behind : offset ≤ s.to

-- Each offset of the stretch becomes as much more as it lies behind the first. The last one is not past the end.
pub record Stretched (becomes : ℕ → ℕ) (most : ℕ) (s : Stretch) : Type 0 where
  pub onward : s.from ≤ s.to
  pub inside : s.to ≤ most
  pub along : (offset : ℕ) → Holds s offset → becomes offset ≡ s.base + (offset - s.from)

-- a stretch of places, each of which becomes the number of characters before it
abbrev pub CharsStretched : List ℕ → Stretch → Type 0
CharsStretched text = Stretched (λ (place : ℕ). starts (take place text)) (length text)

-- a stretch of characters, each of which becomes its place
abbrev pub PlacesStretched : List ℕ → Stretch → Type 0
PlacesStretched text = Stretched (λ (count : ℕ). nth_start count text) (starts text)
