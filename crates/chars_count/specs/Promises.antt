-- What the counting of a text's characters asks and gives.
-- Assumes nothing: these are definitions.
use Rattle.std.specs.Prelude.{cond, ℕ}
use Rattle.chars_text.specs.Utf8.{tail}

-- how many bytes are taken together
abbrev pub block_bytes : ℕ
block_bytes = 64

-- the largest number that a byte holds
abbrev pub byte_largest : ℕ
byte_largest = 255

-- 1 for a byte that is no tail, 0 for a tail
abbrev pub start_of : ℕ → ℕ
start_of byte = cond (tail byte) 0 1
