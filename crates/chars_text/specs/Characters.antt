-- A text as a row of characters, and places in it counted in bytes and in characters.
-- Assumes nothing: these are definitions.
use Rattle.std.specs.Prelude.{Bool, true, false, cond, ℕ, zero, suc, ◌-◌, eqb, leb, length, take, drop}
use mathlib.Core.List.{List, [], ◌∷◌, flatten}
use Rattle.chars_text.specs.Utf8.{character, tail}

-- the characters that a text begins with, each as its bytes, up to the first place that none begins at; at most so many
unfoldable pub characters_in : ℕ → List ℕ → List (List ℕ)
characters_in zero text = []
characters_in (suc most) text =
    cond (eqb (character text) 0) [] (take (character text) text ∷ characters_in most (drop (character text) text))

-- the characters of a text: no more than it has bytes
abbrev pub characters : List ℕ → List (List ℕ)
characters text = characters_in (length text) text

-- "UTF8-octets = *( UTF8-char )": a text is well-formed if its characters are all of it
abbrev pub well_formed : List ℕ → Bool
well_formed text = eqb (length (flatten (characters text))) (length text)

-- ---- Places in a row of characters

-- how many characters begin before a place
unfoldable pub begun : List (List ℕ) → ℕ → ℕ
begun [] place = 0
begun (c ∷ cs) zero = 0
begun (c ∷ cs) (suc before) = suc (begun cs (suc before - length c))

-- the place is that of a character, or the end
unfoldable pub at_character : List (List ℕ) → ℕ → Bool
at_character [] place = eqb place 0
at_character (c ∷ cs) zero = true
at_character (c ∷ cs) (suc before) = cond (leb (length c) (suc before)) (at_character cs (suc before - length c)) false

-- ---- Places in a text

-- the number of characters before a byte's place
abbrev pub chars_before : List ℕ → ℕ → ℕ
chars_before text place = begun (characters text) place

-- the place of a character's first byte; the end of the text for the number of its characters
abbrev pub place_of : List ℕ → ℕ → ℕ
place_of text count = length (flatten (take count (characters text)))

-- a place is that of a character's first byte, or the end of the text
abbrev pub is_start : List ℕ → ℕ → Bool
is_start text place = at_character (characters text) place

-- ---- Counting by bytes

-- how many bytes are no tail; in a well-formed text these are the first bytes of its characters (`starts-counted`)
unfoldable pub starts : List ℕ → ℕ
starts [] = 0
starts (byte ∷ text) = cond (tail byte) (starts text) (suc (starts text))
