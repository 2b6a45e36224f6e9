-- `convert_batch` meets its contract: decided by the verdict and the room, and then written. Assumes nothing.
use Rattle.std.proofs.Common.{rules}
use Rattle.std.specs.Prelude.{Err}
use mathlib.Core.Path.{◌≡◌, refl}
use native.Mathlib.Omega.{arith}
use Rattle.record.specs.Read.{read}
use Rattle.record.specs.declared.Refusal.TheVariants.{NoRoom}
use Rattle.record.proofs.Outcome.{writes_refused}
use Rattle.offsets.proofs.Deciding.{outcome_is, not_six, accepts, after_is, convertible, no_room_left, all_written}
use Rattle.offsets.proofs.convert_batch.Goals as goal

pub returns-in_err-total : goal.returns-in_err-total
returns-in_err-total c =
    let v = c.args in
    let judged = c.in_err-total.ensures in
    let same : c.from_residual.result ≡ Err c.in_err-total.field-0.0 = search rules in
    writes_refused _ (outcome_is v.way v.text.now v.out_nodes.now v.out_rows.now (read v.nodes.now v.rows.now) _ judged) (not_six v.way (read v.nodes.now v.rows.now) v.text.now judged) same refl refl

-- past the verdict there is a batch with nothing wrong, and the room decides
pub returns-then-out_nodes-nodes : goal.returns-then-out_nodes-nodes
returns-then-out_nodes-nodes c =
    let v = c.args in
    let a = accepts v.way v.nodes.now v.rows.now v.text.now _ c.in_ok-total.ensures in
    writes_refused NoRoom (no_room_left a v.out_nodes.now v.out_rows.now (after_is a v.out_nodes.now v.out_rows.now c.in_ok-total.ensures) (λ nodes rows. omega (arith, c.if-out_nodes-nodes.true))) refl refl refl refl

pub returns-then-out_rows-rows : goal.returns-then-out_rows-rows
returns-then-out_rows-rows c =
    let v = c.args in
    let a = accepts v.way v.nodes.now v.rows.now v.text.now _ c.in_ok-total.ensures in
    writes_refused NoRoom (no_room_left a v.out_nodes.now v.out_rows.now (after_is a v.out_nodes.now v.out_rows.now c.in_ok-total.ensures) (λ nodes rows. omega (arith, c.if-out_rows-rows.true))) refl refl refl refl

pub write_converted-requires : goal.write_converted-requires
write_converted-requires c =
    let v = c.args in
    let a = accepts v.way v.nodes.now v.rows.now v.text.now _ c.in_ok-total.ensures in
    convertible a v.out_nodes.now v.out_rows.now c.if-out_nodes-nodes.false c.if-out_rows-rows.false

pub returns : goal.returns
returns c =
    let v = c.args in
    let a = accepts v.way v.nodes.now v.rows.now v.text.now _ c.in_ok-total.ensures in
    all_written a v.out_nodes.now v.out_rows.now (after_is a v.out_nodes.now v.out_rows.now c.in_ok-total.ensures) c.if-out_nodes-nodes.false c.if-out_rows-rows.false c.write_converted.ensures.nodes c.write_converted.ensures.rows
