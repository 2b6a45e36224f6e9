-- What taking bytes from a piece tells.
-- Assumes nothing: these are definitions.
use Rattle.std.specs.Prelude.{◌≡◌, true, false, ℕ, ◌-◌, ◌≤◌, List, get_or}
use Rattle.input_lines.specs.declared.Unread.{Unread}
use Rattle.input_lines.specs.declared.Gathered.{Gathered}

-- the byte that ends a line
abbrev pub newline : ℕ
newline = 10

-- It goes on from a place of the piece. A line that ended has its newline just before what is left, and no read has failed;
-- of one that did not end the input is as it was.
pub record TakesBytes (piece : List ℕ) (from : ℕ) (before : Unread) (r : Gathered) : Type 0 where
  pub onward : from ≤ r.unread.at
  pub newline_taken : r.ended ≡ true → get_or piece (r.unread.at - 1) 0 ≡ newline
  pub sound : r.ended ≡ true → r.unread.failed ≡ false
  pub input_same : r.ended ≡ false → (r.unread.open ≡ before.open) × (r.unread.failed ≡ before.failed)

-- The two ways in which taking comes to an end, at a place.
pub record Ended (at : ℕ) (r : Gathered) : Type 0 where
  pub is_ended : r.ended ≡ true
  pub at_is : r.unread.at ≡ at
  pub not_failed : r.unread.failed ≡ false

pub record NotEnded (at : ℕ) (before : Unread) (r : Gathered) : Type 0 where
  pub is_open : r.ended ≡ false
  pub at_is : r.unread.at ≡ at
  pub open_same : r.unread.open ≡ before.open
  pub failed_same : r.unread.failed ≡ before.failed
