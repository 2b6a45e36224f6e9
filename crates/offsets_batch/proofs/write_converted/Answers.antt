-- `write_converted` meets its contract: nodes and rows are copied, and the rows converted where they were copied to, unless every
-- offset stays. Assumes nothing.
use Rattle.lists.proofs.Writing.{sets_copied}
use Rattle.offsets_batch.proofs.Written.{copied_ready, turned_written, plain_written}
use Rattle.offsets_batch.proofs.write_converted.Goals as goal

pub returns-then-total-text : goal.returns-then-total-text
returns-then-total-text c =
    record { nodes = sets_copied c.args.out_nodes.now c.args.nodes.now c.copy.ensures; rows = plain_written c.requires (sets_copied c.args.out_rows.now c.args.rows.now c.copy-2.ensures) c.if-total-text.true }

pub convert_copied-requires : goal.convert_copied-requires
convert_copied-requires c =
    copied_ready c.requires (sets_copied c.args.out_rows.now c.args.rows.now c.copy-2.ensures)

pub returns : goal.returns
returns c =
    record { nodes = sets_copied c.args.out_nodes.now c.args.nodes.now c.copy.ensures; rows = turned_written c.requires (sets_copied c.args.out_rows.now c.args.rows.now c.copy-2.ensures) c.convert_copied.ensures }
