-- How a pair and its lengths cross the C interface.
-- Assumes nothing: these are definitions.
use Rattle.std.specs.Prelude.{◌≡◌, Bool, ℕ, ◌+◌, ◌≤◌, List, get_or, Option, Result}
use Rattle.std.specs.Bool.{then_some}
use Rattle.record.specs.Outcome.{refusal_of}
use Rattle.record.specs.declared.Refusal.{Refusal}
use Rattle.cut_lengths.specs.declared.Strategy.{Strategy}
use Rattle.pair_lengths.specs.Lengths.{pair_lengths, lengths_or}
use Rattle.pair_lengths.specs.declared.PairLengths.{PairLengths}
use Rattle.c_crossing.specs.Crossing.{Crossed, crossed, Crosses}

-- the row count of the second, if there is one
abbrev pub second_of : Bool → ℕ → Option ℕ
second_of has n = then_some has n

-- the lengths, with what the lent numbers were
abbrev pub lengths_crossed : List ℕ → Result PairLengths Refusal → Crossed
lengths_crossed was l = crossed (refusal_of l) (lengths_or was l)

-- the rows that the lent numbers say are kept, of both
abbrev pub kept_sum : List ℕ → ℕ
kept_sum numbers = get_or numbers 1 0 + get_or numbers 3 0

-- The promise: the lengths cross, and "the kept lengths sum to at most the max length".
pub record CrossesWithin (was : List ℕ) (first : ℕ) (second : Option ℕ) (most : ℕ) (s : Strategy) (r : ℕ) (numbers : List ℕ) : Type 0 where
  pub crosses : Crosses (lengths_crossed was (pair_lengths first second most s)) r numbers
  pub within : r ≡ 0 → kept_sum numbers ≤ most
