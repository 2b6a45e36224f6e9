-- `set_sequence_id` copies the encoding and writes one range over. Assumes nothing.
use mathlib.Core.Path.{refl, sym, ◌∙◌}
use native.Mathlib.Omega.{arith}
use Rattle.record.specs.declared.Refusal.TheVariants.{MalformedRecord, NoRoom, SequenceIdAboveLast}
use Rattle.record.proofs.One.{one_there, one_nodes_long}
use Rattle.record.proofs.Outcome.{writes_refused}
use Rattle.lists.proofs.Writing.{sets_copied}
use Rattle.record_make.proofs.Sequence.{sequence_malformed, sequence_above, sequence_no_room, sequence_written}
use Rattle.record_make.proofs.set_sequence_id.Goals as goal

pub returns-then-not-is_one : goal.returns-then-not-is_one
returns-then-not-is_one c =
    let v = c.args in
    writes_refused MalformedRecord (sequence_malformed _ v.sequence_id v.out_nodes.now v.out_rows.now (sym c.is_one.ensures ∙ c.if-not-is_one.true)) refl refl refl refl

pub returns-then-id-ge-SEQUENCES : goal.returns-then-id-ge-SEQUENCES
returns-then-id-ge-SEQUENCES c =
    let v = c.args in
    let (E, h) = one_there _ _ (sym c.is_one.ensures ∙ c.if-not-is_one.false) in
    writes_refused SequenceIdAboveLast (sequence_above v.sequence_id h v.out_nodes.now v.out_rows.now c.if-id-ge-SEQUENCES.true) refl refl refl refl

pub returns-then-out_nodes-nodes : goal.returns-then-out_nodes-nodes
returns-then-out_nodes-nodes c =
    let v = c.args in
    let (E, h) = one_there _ _ (sym c.is_one.ensures ∙ c.if-not-is_one.false) in
    writes_refused NoRoom (sequence_no_room v.sequence_id h v.out_nodes.now v.out_rows.now c.if-id-ge-SEQUENCES.false (λ nodes rows. omega (arith, c.if-out_nodes-nodes.true))) refl refl refl refl

pub returns-then-out_rows-rows : goal.returns-then-out_rows-rows
returns-then-out_rows-rows c =
    let v = c.args in
    let (E, h) = one_there _ _ (sym c.is_one.ensures ∙ c.if-not-is_one.false) in
    writes_refused NoRoom (sequence_no_room v.sequence_id h v.out_nodes.now v.out_rows.now c.if-id-ge-SEQUENCES.false (λ nodes rows. omega (arith, c.if-out_rows-rows.true))) refl refl refl refl

pub bounds-nodes-0 : goal.bounds-nodes-0
bounds-nodes-0 c =
    let (E, h) = one_there _ _ (sym c.is_one.ensures ∙ c.if-not-is_one.false) in
    omega (arith, one_nodes_long h)

pub write_range-requires : goal.write_range-requires
write_range-requires c =
    let (E, h) = one_there _ _ (sym c.is_one.ensures ∙ c.if-not-is_one.false) in
    omega (arith, one_nodes_long h, c.copy.auto.dst, c.if-out_nodes-nodes.false, c.if-id-ge-SEQUENCES.false)

pub returns : goal.returns
returns c =
    let v = c.args in
    let (E, h) = one_there _ _ (sym c.is_one.ensures ∙ c.if-not-is_one.false) in
    sequence_written v.sequence_id h v.out_nodes.now v.out_rows.now c.if-id-ge-SEQUENCES.false c.if-out_nodes-nodes.false c.if-out_rows-rows.false
    (sets_copied v.out_nodes.now v.nodes.now c.copy.ensures)
    c.write_range.ensures
    (sets_copied v.out_rows.now v.rows.now c.copy-2.ensures)
