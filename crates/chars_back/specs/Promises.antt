-- What looking for a character by its number gives, and the table for it.
-- Assumes nothing: these are definitions.
use Rattle.std.specs.Prelude.{◌≡◌, cond, ℕ, zero, suc, ◌*◌, ◌≤◌, List, [], ◌∷◌, length, get_or}
use Rattle.chars_text.specs.Utf8.{tail}
use Rattle.chars_text.specs.Characters.{starts}
use Rattle.chars_places.specs.declared.Grain.{Grain}
use Rattle.chars_places.specs.Promises.{places_most, Grained, Marked, Fillable}

-- the place of the byte that is no tail and has so many others before it; the end if there is none. In a well-formed text that is
-- the place of a character (`place_nth`).
unfoldable pub nth_start : ℕ → List ℕ → ℕ
nth_start count [] = 0
nth_start zero (byte ∷ text) = cond (tail byte) (suc (nth_start zero text)) 0
nth_start (suc before) (byte ∷ text) = suc (nth_start (cond (tail byte) (suc before) before) text)

-- There is room for a table of a text of so many characters with such blocks.
pub record BackFillable (text table : List ℕ) (grain : Grain) (total : ℕ) : Type 0 where
  pub fillable : Fillable text table grain
  pub all : total ≡ starts text

-- The table has of every block's number of characters a place with so many before it.
pub record BackTabled (text table : List ℕ) (grain : Grain) : Type 0 where
  pub room : length table ≡ places_most
  pub grained : Grained (length text) grain
  pub entries : (k : ℕ) → k * grain.block ≤ starts text → Marked text (record { place = get_or table k 0; count = k * grain.block })
