-- Reading a u32 as the standard library's page for `u32::from_str` has it: "an optional + sign followed by only digits";
-- an empty text, a sign alone and a number above the largest are errors.
-- That a reading succeeds on exactly these texts, with their decimal value, is shown in proofs/Number.
-- Assumes nothing: these are definitions.
use Rattle.std.specs.Prelude.{Bool, ◌&&◌, cond, ℕ, List, [], ◌∷◌, leb, eqb, length, Option as Answer, Some, None}
use Rattle.std.proofs.Math.Option.{Option, none as nothing, some}
use Rattle.record.specs.Read.{all_ok}
use Rattle.lines.specs.Decimal.{is_digit, decimal, largest_u32}

-- the byte of a plus sign
abbrev pub plus : ℕ
plus = 43

-- "an optional + sign": what follows it
unfoldable pub after_sign : List ℕ → List ℕ
after_sign [] = []
after_sign (byte ∷ text) = cond (eqb byte plus) text (byte ∷ text)

-- "only digits", at least one, of a number that a u32 holds
abbrev pub is_number : List ℕ → Bool
is_number digits = leb 1 (length digits) && (all_ok is_digit digits && leb (decimal digits) largest_u32)

abbrev pub u32_of : List ℕ → Option ℕ
u32_of digits = cond (is_number digits) (some (decimal digits)) nothing

-- "a u32 as Rust reads it (a leading + and zeros allowed)"
unfoldable pub read_number : List ℕ → Option ℕ
read_number text = u32_of (after_sign text)

unfoldable pub number_answer : Option ℕ → Answer ℕ
number_answer nothing = None
number_answer (some n) = Some n
