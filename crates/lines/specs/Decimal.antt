-- What reading a decimal number means: "decimal numbers of 1 to 10 digits up to 4,294,967,295". Assumes nothing.
use Rattle.std.specs.Prelude.{ℕ, ◌+◌, ◌-◌, ◌*◌, Bool, true, false, List, [], ◌∷◌, length, drop, leb, Option, Some, None}
use Rattle.lines.specs.declared.Number.{Number}

-- the bytes of the digits 0 and 9
abbrev pub zero_byte : ℕ
zero_byte = 48

abbrev pub nine_byte : ℕ
nine_byte = 57

-- "1 to 10 digits"
abbrev pub most_digits : ℕ
most_digits = 10

-- "up to 4,294,967,295"
abbrev pub largest_u32 : ℕ
largest_u32 = 4294967295

abbrev pub both : Bool → Bool → Bool
both true b = b
both false b = false

abbrev pub is_digit : ℕ → Bool
is_digit byte = both (leb zero_byte byte) (leb byte nine_byte)

-- the number with these digits after it: each digit makes it ten times as large and adds itself
unfoldable pub decimal_after : ℕ → List ℕ → ℕ
decimal_after n [] = n
decimal_after n (digit ∷ digits) = decimal_after (n * 10 + (digit - zero_byte)) digits

-- the value of a list of digits, the most significant first
abbrev pub decimal : List ℕ → ℕ
decimal digits = decimal_after 0 digits

abbrev pub keep_digit : Bool → ℕ → List ℕ → List ℕ
keep_digit true byte digits = byte ∷ digits
keep_digit false byte digits = []

-- the digits that a text begins with, as many as there are before another byte or the end
unfoldable pub digits_of : List ℕ → List ℕ
digits_of [] = []
digits_of (byte ∷ bytes) = keep_digit (is_digit byte) byte (digits_of bytes)

abbrev pub pick_number : Bool → Option Number → Option Number → Option Number
pick_number true a b = a
pick_number false a b = b

-- whether so many digits with this value are a number
abbrev pub digits_fit : ℕ → ℕ → Bool
digits_fit count value = both (leb 1 count) (both (leb count most_digits) (leb value largest_u32))

-- the number of so many digits with this value, at a place, and the place after it
abbrev pub read_of : ℕ → ℕ → ℕ → Option Number
read_of at count value = pick_number (digits_fit count value) (Some (record { value = value; next = at + count })) None

-- the number that the digits at a place are
abbrev pub number_at : List ℕ → ℕ → Option Number
number_at bytes at = read_of at (length (digits_of (drop at bytes))) (decimal (digits_of (drop at bytes)))
