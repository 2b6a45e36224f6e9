-- Where a row stands in its sequence, as document 02 says it (request 06). That `token_to_sequence` finds just that is shown in
-- proofs/Placed.
-- Assumes nothing: this is a definition.
use Rattle.std.specs.Prelude.{ℕ, ◌+◌, ◌<◌, ◌≡◌, length}
use Rattle.record.specs.Tree.{Encoding}
use Rattle.lookup_ranges.specs.Ranges.{sequence_range, present}
use Rattle.lookup_holding.specs.Holding.{Placed}

pub record InSequence (E : Encoding) (row : ℕ) (p : Placed) : Type 0 where
  -- "the row's place counted from the start of that range": of the rows that `sequence_range` gives for the sequence found
  pub counted : (sequence_range E p.sequence).start + p.place ≡ row
  pub inside : row < length E.rows → row < (sequence_range E p.sequence).end
  -- "or the row number itself if there are no ranges"
  pub itself : present E.ranges ≡ 0 → p.place ≡ row
