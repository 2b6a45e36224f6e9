-- `token_row` reads the five numbers of a token, and the row has them at their places. Assumes nothing.
use lib.Seq.{get_or-drop}
use Rattle.record_write.specs.Tokens.{token_row}
use Rattle.record_write.proofs.token_row.Goals as goal

pub returns : goal.returns
unfolding token_row
returns c = simp get_or-drop
