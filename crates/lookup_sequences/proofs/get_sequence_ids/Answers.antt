-- `get_sequence_ids` writes the column of the one encoding if there is room for it. Assumes nothing.
use mathlib.Core.Path.{refl, sym, ap, ◌∙◌}
use lib.ListN.{length}
use Rattle.record.specs.declared.Refusal.TheVariants.{MalformedRecord, NoRoom}
use Rattle.record.proofs.One.{one_there, one_size, not_one}
use Rattle.lookup_ranges.specs.Ranges.{get_sequence_ids}
use Rattle.lookup_sequences.specs.Answers.{refused, done}
use Rattle.std.specs.Prelude.{Ok}
use Rattle.lookup_ranges.proofs.Top.{top_there}
use Rattle.lookup_sequences.proofs.Outcome.{ids_meet, ids_no_room, ids_done, ids_over}
use native.Mathlib.Omega.{arith}
use Rattle.lookup_sequences.proofs.get_sequence_ids.Goals as goal

pub returns-then-not-is_one : goal.returns-then-not-is_one
returns-then-not-is_one c =
    let m = ids_meet _ (refused MalformedRecord) _ _ _ (not_one (refused MalformedRecord) _ _ (sym c.is_one.ensures ∙ c.if-not-is_one.true)) refl refl in
    record { answer = m.0; left = m.1 }

pub bounds-nodes-0 : goal.bounds-nodes-0
bounds-nodes-0 c = omega (arith, top_there _ _ (sym c.is_one.ensures ∙ c.if-not-is_one.false))

pub returns-then-out-n : goal.returns-then-out-n
returns-then-out-n c =
    let (E, h) = one_there _ _ (sym c.is_one.ensures ∙ c.if-not-is_one.false) in
    let m = ids_meet _ (refused NoRoom) _ _ _ (ids_no_room h _ c.if-out-n.true) refl refl in
    record { answer = m.0; left = m.1 }

pub mark_ranges-requires : goal.mark_ranges-requires
mark_ranges-requires c =
    let (E, h) = one_there _ _ (sym c.is_one.ensures ∙ c.if-not-is_one.false) in
    record { rows = _; tree = E; is = h; fits = omega (arith, one_size h, c.if-out-n.false, c.fill.auto) }

pub returns : goal.returns
returns c =
    let (E, h) = one_there _ _ (sym c.is_one.ensures ∙ c.if-not-is_one.false) in
    let room = c.if-out-n.false in
    let m = ids_meet _ (done (length E.rows) (get_sequence_ids E)) _ _ _ (ids_done h _ room) (ap Ok (one_size h))
    (ids_over h _ _ _ room (c.fill.ensures.after (λ y e. e)) (c.mark_ranges.ensures _ E h)) in
    record { answer = m.0; left = m.1 }
