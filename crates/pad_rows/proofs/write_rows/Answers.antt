-- `write_rows` writes the new rows before or after those of the node. Assumes nothing.
use Rattle.pad_rows.proofs.Pads.{rows_left, rows_right}
use Rattle.pad_rows.proofs.write_rows.Goals as goal

pub returns-in-Left : goal.returns-in-Left
returns-in-Left c =
    rows_left c.args.token c.args.rows.now c.args.from c.args.size c.args.new c.args.to c.args.out.now c.requires.0 c.in-Left.is c.write_pads.ensures c.copy.ensures

pub returns-in-Right : goal.returns-in-Right
returns-in-Right c =
    rows_right c.args.token c.args.rows.now c.args.from c.args.size c.args.new c.args.to c.args.out.now c.requires.0 c.in-Right.is c.copy-in-Right.ensures c.write_pads-in-Right.ensures
