-- `pad_stored` measures the result, and writes it where it has room. Assumes nothing.
use mathlib.Core.Path.{refl}
use native.Mathlib.Omega.{arith}
use Rattle.record.specs.declared.Refusal.TheVariants.{NoRoom}
use Rattle.record.proofs.Outcome.{writes_refused}
use Rattle.record.proofs.Passing.{nodes_of}
use Rattle.pad_room.proofs.Stored.{stored_no_room, stored_asks, stored_writes, stored_none, stored_above}
use Rattle.pad_room.proofs.pad_stored.Goals as goal

pub returns-then-nodes-eq0 : goal.returns-then-nodes-eq0
returns-then-nodes-eq0 c = λ f h. stored_none h _ _ _ _ _ c.if-nodes-eq0.true

pub returns-then-target : goal.returns-then-target
returns-then-target c = λ f h. writes_refused NoRoom (stored_above h _ _ _ _ _ c.if-nodes-eq0.false c.if-target.true) refl refl refl refl

pub padded_rows-total-requires : goal.padded_rows-total-requires
padded_rows-total-requires c = let p = c.requires in (p.0, nodes_of p.1)

pub returns-then-total-gt-MOST_ROWS : goal.returns-then-total-gt-MOST_ROWS
returns-then-total-gt-MOST_ROWS c = λ f h. writes_refused NoRoom (stored_no_room h _ _ _ _ _ (λ few n r. omega (arith, c.if-total-gt-MOST_ROWS.true, c.padded_rows-total.ensures f (nodes_of h)))) refl refl refl refl

pub returns-then-out_nodes-nodes : goal.returns-then-out_nodes-nodes
returns-then-out_nodes-nodes c = λ f h. writes_refused NoRoom (stored_no_room h _ _ _ _ _ (λ few n r. omega (arith, c.if-out_nodes-nodes.true))) refl refl refl refl

pub returns-then-out_rows-total : goal.returns-then-out_rows-total
returns-then-out_rows-total c = λ f h. writes_refused NoRoom (stored_no_room h _ _ _ _ _ (λ few n r. omega (arith, c.if-out_rows-total.true, c.padded_rows-total.ensures f (nodes_of h)))) refl refl refl refl

pub write_padded-requires : goal.write_padded-requires
write_padded-requires c =
    let p = c.requires in
    let v = c.args in
    let t = c.padded_rows-total.ensures p.0 (nodes_of p.1) in
    stored_asks p.1 _ v.token v.direction _ _ (omega (arith, c.if-total-gt-MOST_ROWS.false)) c.if-out_nodes-nodes.false (omega (arith, c.if-out_rows-total.false))

pub returns : goal.returns
returns c = λ f h.
    let t = c.padded_rows-total.ensures f (nodes_of h) in
    stored_writes h _ _ _ _ _ (omega (arith, c.if-total-gt-MOST_ROWS.false)) c.if-out_nodes-nodes.false (omega (arith, c.if-out_rows-total.false)) t (c.write_padded.ensures f h)
