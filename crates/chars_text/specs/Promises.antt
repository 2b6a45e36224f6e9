-- What a character's first byte says of it.
-- Assumes nothing: these are definitions.
use Rattle.std.specs.Prelude.{cond, ℕ, zero, suc, List, ◌∷◌, eqb, ltb, replicate}
use Rattle.chars_text.specs.Utf8.{octets, tail, begins}

-- how many bytes a character has that begins so; 0 if none does
abbrev pub width_by : ℕ → ℕ
width_by first =
    cond (ltb first 0x80) 1 (cond (ltb first 0xC2) 0 (cond (ltb first 0xE0) 2 (cond (ltb first 0xF0) 3 (cond (ltb first 0xF5) 4 0))))

-- the least second byte
abbrev pub low_by : ℕ → ℕ
low_by first = cond (eqb first 0xE0) 0xA0 (cond (eqb first 0xF0) 0x90 0x80)

-- the greatest second byte
abbrev pub high_by : ℕ → ℕ
high_by first = cond (eqb first 0xED) 0x9F (cond (eqb first 0xF4) 0x8F 0xBF)

-- how many bytes a character of this width has, whose second byte is in this range and is followed by tails, if the text
-- after its first byte begins so
abbrev pub sized : ℕ → ℕ → ℕ → List ℕ → ℕ
sized zero low high text = 0
sized (suc zero) low high text = 1
sized (suc (suc more)) low high text = cond (begins (octets low high ∷ replicate more tail) text) (suc (suc more)) 0
