-- `write_tokens` writes a row for each token: after i turns, the rows of the first i tokens stand at the front.
-- Assumes nothing.
use mathlib.Core.Path.{refl}
use mathlib.Core.List.{flat_map}
use Rattle.record.specs.Read.{several}
use Rattle.record_write.proofs.TokenRows.{token_turn}
use Rattle.record_write.proofs.write_tokens.Goals as goal

pub loop-i-init : goal.loop-i-init
unfolding flat_map several
loop-i-init c = refl

pub loop-i-preserved : goal.loop-i-preserved
loop-i-preserved c =
    let v = c.args in
    rw (c.write_row.ensures, c.loop-i.invariant) (token_turn v.type_id c.loop-i.i v.tokens.now v.out_rows.now c.token_row-row.ensures)
