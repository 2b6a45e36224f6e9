-- What is said of the lengths of a pair beside what they are (document 02, request 07).
-- Assumes nothing: these are definitions.
use Rattle.std.specs.Prelude.{◌≡◌, true, false, ℕ, ◌+◌, ◌≤◌, ◌<◌, Option, Some, None, Result, Ok, Err}
use Rattle.cut_lengths.specs.Lengths.{TurnedAway}
use Rattle.record.specs.declared.Refusal.{Refusal}
use Rattle.pair_lengths.specs.declared.Length.{Length}
use Rattle.pair_lengths.specs.declared.PairLengths.{PairLengths}
use Rattle.pair_lengths.specs.Lengths.{second_rows}

-- "how many rows each of a pair will keep": fewer than it has if it is cut, else all of them
pub record Keeps (rows : ℕ) (l : Length) : Type 0 where
  pub fewer : l.cut ≡ true → l.kept < rows
  pub all : l.cut ≡ false → l.kept ≡ rows

-- of the second: a length if there is one
abbrev pub SecondKeeps : Option ℕ → Option Length → Type 0
SecondKeeps None None = Unit {0}
SecondKeeps None (Some l) = ⊥
SecondKeeps (Some rows) None = ⊥
SecondKeeps (Some rows) (Some l) = Keeps rows l

-- what is said of each: one length for one encoding, two for two, or why there are none
abbrev pub EachKeeps : ℕ → Option ℕ → ℕ → Result PairLengths Refusal → Type 0
EachKeeps first second most (Err k) = TurnedAway (first + second_rows second) most k
EachKeeps first second most (Ok l) = Keeps first l.first × SecondKeeps second l.second

-- there are lengths
abbrev pub WorkedOut : Result PairLengths Refusal → Type 0
WorkedOut (Err k) = ⊥
WorkedOut (Ok l) = Unit {0}

-- the rows that are kept of all encodings; of a refusal none
abbrev pub kept_of : Option Length → ℕ
kept_of None = 0
kept_of (Some l) = l.kept

abbrev pub kept_together : Result PairLengths Refusal → ℕ
kept_together (Err k) = 0
kept_together (Ok l) = l.first.kept + kept_of l.second

pub record KeepsLengths (first : ℕ) (second : Option ℕ) (most : ℕ) (answer : Result PairLengths Refusal) : Type 0 where
  pub each : EachKeeps first second most answer
  -- "The first also states that the kept lengths sum to at most the max length."
  pub at_most : kept_together answer ≤ most
  -- to exactly that, where something is removed
  pub exact : WorkedOut answer → most < first + second_rows second → kept_together answer ≡ most
  -- "a total within it changes nothing"
  pub whole : first + second_rows second ≤ most → WorkedOut answer × (kept_together answer ≡ first + second_rows second)
