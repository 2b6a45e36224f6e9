-- Texts as their bytes, and numbers as text.
-- Assumes nothing: these are definitions.
use Rattle.std.specs.Prelude.{ℕ, zero, suc, ◌+◌, ◌/◌, ◌%◌, cond, List, [], ◌∷◌, ◌++◌, ltb}
use Prim.Native.Char.{code}
use Prim.Native.String.{String}
use Prim.Native.String.{[] as ended, ◌∷◌ as ◌then◌}
use Rattle.lines.specs.Decimal.{zero_byte, most_digits}

-- the bytes of a text, which has only characters of one byte
abbrev pub bytes : String → List ℕ
bytes ended = []
bytes (c then s) = code c ∷ bytes s

-- the digits of a number, the most significant first: those of its tenth part, if it has more than one, and the last
unfoldable pub digits_up_to : ℕ → ℕ → List ℕ
digits_up_to zero n = []
digits_up_to (suc most) n = cond (ltb n 10) [] (digits_up_to most (n / 10)) ++ ((zero_byte + n % 10) ∷ [])

-- a number of at most 10 digits as text
abbrev pub number_text : ℕ → List ℕ
number_text n = digits_up_to most_digits n

-- "18,446,744,073,709,551,615" has 20 digits
abbrev pub long_digits : ℕ
long_digits = 20

-- the largest number of 64 bits
abbrev pub largest_long : ℕ
largest_long = 18446744073709551615

-- a number of at most 20 digits as text
abbrev pub long_text : ℕ → List ℕ
long_text n = digits_up_to long_digits n
