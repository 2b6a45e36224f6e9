-- `merge_with` checks, sizes, tests the offsets and then writes. Assumes nothing.
use mathlib.Core.Path.{refl, sym, ◌∙◌}
use Rattle.record.specs.declared.Refusal.TheVariants.{MalformedRecord, NoRoom}
use Rattle.record.proofs.One.{one_there}
use Rattle.record.proofs.Outcome.{writes_refused}
use Rattle.join_trees.proofs.Outcomes.{join_malformed_first, join_malformed_second}
use Rattle.record.proofs.Working.{writes_zeros}
use Rattle.join_levels_stored.proofs.Totals.{one_stands}
use Rattle.join.proofs.Deciding.{one_here, outcome_no_room, outcome_too_large, join_asks, join_writes}
use Rattle.join.proofs.merge_with.Goals as goal

pub returns-then-not-is_one : goal.returns-then-not-is_one
returns-then-not-is_one c = record { promised = writes_refused MalformedRecord (join_malformed_first _ _ _ _ _ (sym c.is_one.ensures ∙ c.if-not-is_one.true)) refl refl refl refl }

pub returns-then-not-is_one-2 : goal.returns-then-not-is_one-2
returns-then-not-is_one-2 c = record { promised = writes_refused MalformedRecord (join_malformed_second _ _ _ _ _ (sym c.is_one-2.ensures ∙ c.if-not-is_one-2.true)) refl refl refl refl }

pub join_size-size-requires : goal.join_size-size-requires
join_size-size-requires c =
    let s = one_there _ _ (sym c.is_one.ensures ∙ c.if-not-is_one.false) in
    let p = one_there _ _ (sym c.is_one-2.ensures ∙ c.if-not-is_one-2.false) in
    record { S = s.0; P = p.0; first_stands = one_stands s.1; second_stands = one_stands p.1 }

pub returns-then-not-has_room : goal.returns-then-not-has_room
returns-then-not-has_room c =
    let s = one_there _ _ (sym c.is_one.ensures ∙ c.if-not-is_one.false) in
    let p = one_there _ _ (sym c.is_one-2.ensures ∙ c.if-not-is_one-2.false) in
    let sized = c.join_size-size.ensures _ _ _ (one_stands s.1) (one_stands p.1) in
    record { promised = writes_refused NoRoom (outcome_no_room s.1 p.1 _ _ _ sized (sym c.has_room.ensures ∙ c.if-not-has_room.true)) refl refl refl refl }

pub join_fits-requires : goal.join_fits-requires
join_fits-requires c =
    let s = one_there _ _ (sym c.is_one.ensures ∙ c.if-not-is_one.false) in
    let p = one_there _ _ (sym c.is_one-2.ensures ∙ c.if-not-is_one-2.false) in
    record { S = s.0; first = s.1; P = p.0; second = p.1 }

pub shape_of-out_nodes-then-not-join_fits : goal.shape_of-out_nodes-then-not-join_fits
shape_of-out_nodes-then-not-join_fits c = c.zero_both.auto.nodes

pub shape_of-out_rows-then-not-join_fits : goal.shape_of-out_rows-then-not-join_fits
shape_of-out_rows-then-not-join_fits c = c.zero_both.auto.rows

pub returns-then-not-join_fits : goal.returns-then-not-join_fits
returns-then-not-join_fits c =
    let s = one_there _ _ (sym c.is_one.ensures ∙ c.if-not-is_one.false) in
    let p = one_there _ _ (sym c.is_one-2.ensures ∙ c.if-not-is_one-2.false) in
    let sized = c.join_size-size.ensures _ _ _ (one_stands s.1) (one_stands p.1) in
    let room = sym c.has_room.ensures ∙ c.if-not-has_room.false in
    let z = c.zero_both.ensures in
    record { promised = writes_zeros (outcome_too_large s.1 p.1 _ _ _ sized room (sym (c.join_fits.ensures _ _ s.1 p.1) ∙ c.if-not-join_fits.true)) refl z.nodes_zero z.rows_zero }

pub join_nodes-requires : goal.join_nodes-requires
join_nodes-requires c =
    let s = one_there _ _ (sym c.is_one.ensures ∙ c.if-not-is_one.false) in
    let p = one_there _ _ (sym c.is_one-2.ensures ∙ c.if-not-is_one-2.false) in
    let sized = c.join_size-size.ensures _ _ _ (one_stands s.1) (one_stands p.1) in
    let room = sym c.has_room.ensures ∙ c.if-not-has_room.false in
    join_asks s.1 p.1 _ _ _ sized room (sym (c.join_fits.ensures _ _ s.1 p.1) ∙ c.if-not-join_fits.false)

pub shape_of-out_nodes : goal.shape_of-out_nodes
shape_of-out_nodes c = c.join_nodes.auto.out_nodes

pub shape_of-out_rows : goal.shape_of-out_rows
shape_of-out_rows c = c.join_nodes.auto.out_rows

pub returns : goal.returns
returns c =
    let s = one_there _ _ (sym c.is_one.ensures ∙ c.if-not-is_one.false) in
    let p = one_there _ _ (sym c.is_one-2.ensures ∙ c.if-not-is_one-2.false) in
    let sized = c.join_size-size.ensures _ _ _ (one_stands s.1) (one_stands p.1) in
    let room = sym c.has_room.ensures ∙ c.if-not-has_room.false in
    record {
      promised = join_writes s.1 p.1 _ _ _ sized room (sym (c.join_fits.ensures _ _ s.1 p.1) ∙ c.if-not-join_fits.false)
          (c.join_nodes.ensures s.0 p.0 (one_here s.1) (one_here p.1)).put;
    }
