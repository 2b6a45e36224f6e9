-- `rows_ok` decides whether the marks of every whole row are fine: those of the rows before i are judged. Assumes nothing.
use Rattle.std.proofs.Common.{◌+◌, ◌*◌, arith}
use Rattle.record_fields.proofs.Together.{judged_more}
use Rattle.record_fields.proofs.rows_ok.Goals as goal

pub loop-i-preserved : goal.loop-i-preserved
loop-i-preserved c =
    let fits = c.type_inv.rows in
    let at = c.loop-i.i * 11 in
    judged_more c.loop-i.invariant (omega (arith, fits (at + 2))) (omega (arith, fits (at + 5))) c.marked_word-word.ensures c.lowest_bit-lowest.ensures
