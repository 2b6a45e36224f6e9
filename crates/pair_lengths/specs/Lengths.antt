-- Which encodings of a pair are cut, and to how many rows (document 02, request 07).
-- Assumes nothing: these are definitions.
use Rattle.std.specs.Prelude.{Bool, true, false, ℕ, List, [], ◌∷◌, ltb, Option, Some, None, Result, Ok, Err, unwrap_or, option_map}
use Rattle.record.specs.declared.Refusal.{Refusal}
use Rattle.cut_lengths.specs.Lengths.{kept_lengths}
use Rattle.cut_lengths.specs.declared.Strategy.{Strategy}
use Rattle.cut_lengths.specs.declared.Kept.{Kept}
use Rattle.pair_lengths.specs.declared.Length.{Length}
use Rattle.pair_lengths.specs.declared.PairLengths.{PairLengths}

-- an encoding that keeps so many of its rows: it is cut if they are fewer than it has
abbrev pub length_of : ℕ → ℕ → Length
length_of rows kept = record { cut = ltb kept rows; kept = kept }

-- the rows of the second, none if it is missing
abbrev pub second_rows : Option ℕ → ℕ
second_rows second = unwrap_or second 0

-- "which encodings are cut and to what": of each that there is
abbrev pub lengths_of : ℕ → Option ℕ → Result Kept Refusal → Result PairLengths Refusal
lengths_of first second (Err k) = Err k
lengths_of first second (Ok k) = Ok (record { first = length_of first k.first; second = option_map (length_of (second_rows second)) k.second })

-- "one operation works out from the two row counts (the second may be missing), max length and strategy which encodings are
-- cut and to what": what document 01's pair cut keeps of them. "4 and 5 come from the first".
unfoldable pub pair_lengths : ℕ → Option ℕ → ℕ → Strategy → Result PairLengths Refusal
pair_lengths first second most strategy = lengths_of first second (kept_lengths first second most strategy)

-- ---- The answer as numbers

abbrev pub mark_of : Bool → ℕ
mark_of true = 1
mark_of false = 0

-- of an encoding whether it is cut and the rows it keeps, zeros for a missing second
abbrev pub length_numbers : Option Length → List ℕ
length_numbers None = 0 ∷ 0 ∷ []
length_numbers (Some l) = mark_of l.cut ∷ l.kept ∷ []

-- of each encoding, in the place of what lent numbers were; a refusal leaves them
abbrev pub lengths_or : List ℕ → Result PairLengths Refusal → List ℕ
lengths_or was (Err k) = was
lengths_or was (Ok l) = mark_of l.first.cut ∷ l.first.kept ∷ length_numbers l.second
