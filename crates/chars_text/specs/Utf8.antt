-- The characters of UTF-8, by the grammar of RFC 3629, section 4 ("Syntax of UTF-8 Byte Sequences"). Each rule stands below its
-- line of the grammar.
-- Assumes nothing: these are definitions.
use Rattle.std.specs.Prelude.{Bool, true, false, cond, ◌&&◌, ℕ, List, [], ◌∷◌, ◌++◌, leb, length}

-- a range of bytes, as %x80-BF
unfoldable pub octets : ℕ → ℕ → ℕ → Bool
octets from to byte = leb from byte && leb byte to

-- a rule without a choice: one range of bytes after another
abbrev pub Ranges : Type 0
Ranges = List (ℕ → Bool)

-- "UTF8-tail = %x80-BF"
abbrev pub tail : ℕ → Bool
tail = octets 0x80 0xBF

-- "UTF8-1 = %x00-7F"
abbrev pub utf8_1 : List Ranges
utf8_1 = (octets 0x00 0x7F ∷ []) ∷ []

-- "UTF8-2 = %xC2-DF UTF8-tail"
abbrev pub utf8_2 : List Ranges
utf8_2 = (octets 0xC2 0xDF ∷ tail ∷ []) ∷ []

-- "UTF8-3 = %xE0 %xA0-BF UTF8-tail / %xE1-EC 2( UTF8-tail ) /
--           %xED %x80-9F UTF8-tail / %xEE-EF 2( UTF8-tail )"
abbrev pub utf8_3 : List Ranges
utf8_3 =
    (octets 0xE0 0xE0 ∷ octets 0xA0 0xBF ∷ tail ∷ []) ∷
    (octets 0xE1 0xEC ∷ tail ∷ tail ∷ []) ∷
    (octets 0xED 0xED ∷ octets 0x80 0x9F ∷ tail ∷ []) ∷
    (octets 0xEE 0xEF ∷ tail ∷ tail ∷ []) ∷
    []

-- "UTF8-4 = %xF0 %x90-BF 2( UTF8-tail ) / %xF1-F3 3( UTF8-tail ) /
--           %xF4 %x80-8F 2( UTF8-tail )"
abbrev pub utf8_4 : List Ranges
utf8_4 =
    (octets 0xF0 0xF0 ∷ octets 0x90 0xBF ∷ tail ∷ tail ∷ []) ∷
    (octets 0xF1 0xF3 ∷ tail ∷ tail ∷ tail ∷ []) ∷
    (octets 0xF4 0xF4 ∷ octets 0x80 0x8F ∷ tail ∷ tail ∷ []) ∷
    []

-- "UTF8-char = UTF8-1 / UTF8-2 / UTF8-3 / UTF8-4"
abbrev pub utf8_char : List Ranges
utf8_char = utf8_1 ++ (utf8_2 ++ (utf8_3 ++ utf8_4))

-- a text begins with a byte of each range, one after another
abbrev pub begins : Ranges → List ℕ → Bool
begins [] text = true
begins (range ∷ row) [] = false
begins (range ∷ row) (byte ∷ text) = range byte && begins row text

-- how many bytes the first of these rows that a text begins with has; 0 if it begins with none
abbrev pub fitting : List Ranges → List ℕ → ℕ
fitting [] text = 0
fitting (row ∷ rows) text = cond (begins row text) (length row) (fitting rows text)

-- how many bytes the character has that a text begins with; 0 if it begins with none
unfoldable pub character : List ℕ → ℕ
character text = fitting utf8_char text
