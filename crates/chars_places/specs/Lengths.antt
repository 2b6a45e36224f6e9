-- How long a text may be (document 02, request 01).
-- Assumes nothing: this is a definition.
use Rattle.std.specs.Prelude.{ℕ}

-- "above 4,294,967,295 bytes (16)": an offset is a number of 32 bits
abbrev pub text_largest : ℕ
text_largest = 4294967295
