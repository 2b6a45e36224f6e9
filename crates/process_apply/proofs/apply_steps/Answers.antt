-- `apply_steps` sizes, writes, and zeroes the working store. Assumes nothing.
use mathlib.Core.Path.{◌≡◌, refl, sym, ◌∙◌}
use mathlib.Core.Bool.{true}
use mathlib.Core.Option.{Option}
use mathlib.Core.List.{List}
use native.Mathlib.Omega.{arith}
use lib.ListN.{length}
use Rattle.record.specs.Tree.{Encoding}
use Rattle.record.specs.declared.Refusal.TheVariants.{NoRoom}
use Rattle.record_room.specs.Room.{has_room}
use Rattle.record.proofs.Working.{zeroed_kept, with_refused}
use Rattle.process_steps.specs.declared.Step.{Step}
use Rattle.process_steps.specs.Promises.{StepsHere}
use Rattle.process_write.specs.Promises.{Ready}
use Rattle.process_apply.proofs.Deciding.{steps_of, outcome_no_room, outcome_no_working, steps_ready, steps_done}
use Rattle.process_apply.proofs.apply_steps.Goals as goal

pub size_of_steps-size-requires : goal.size_of_steps-size-requires
size_of_steps-size-requires c = let a = c.requires in record { members = _; E = a.E; second = a.second; steps = a.steps; steps_of = steps_of a.steps_here }

pub has_room-requires : goal.has_room-requires
has_room-requires c = tt

pub returns-then-not-has_room : goal.returns-then-not-has_room
returns-then-not-has_room c = λ E second steps h. with_refused NoRoom (outcome_no_room h _ _ _ _ (c.size_of_steps-size.ensures _ E second steps (steps_of h)) (sym c.has_room.ensures ∙ c.if-not-has_room.true)) refl refl refl refl refl refl

pub has_room-requires-2 : goal.has_room-requires-2
has_room-requires-2 c = tt

pub returns-then-not-has_room-2 : goal.returns-then-not-has_room-2
returns-then-not-has_room-2 c = λ E second steps h. with_refused NoRoom (outcome_no_working h _ _ _ _ (c.size_of_steps-size.ensures _ E second steps (steps_of h)) (sym c.has_room-2.ensures ∙ c.if-not-has_room-2.true)) refl refl refl refl refl refl

pub write_steps-requires : goal.write_steps-requires
write_steps-requires c =
    let roomed : has_room c.size_of_steps-size.result (length c.args.out_nodes.now) (length c.args.out_rows.now) ≡ true = sym c.has_room.ensures ∙ c.if-not-has_room.false in
    let working_roomed : has_room c.size_of_steps-size.result (length c.args.working_nodes.now) (length c.args.working_rows.now) ≡ true = sym c.has_room-2.ensures ∙ c.if-not-has_room-2.false in
    -- every number of the rows is one of 32 bits
    let ready : (E : Encoding) (second : Option Encoding) (steps : List Step) → StepsHere c.args.nodes.now c.args.rows.now c.args.second c.args.entries.now c.args.members.now c.args.steps.now c.args.count E second steps
    → Ready c.args.nodes.now c.args.rows.now c.args.second c.args.entries.now c.args.members.now c.args.steps.now c.args.count c.args.out_nodes.now c.args.out_rows.now c.args.working_nodes.now c.args.working_rows.now E second steps =
    λ E second steps h. steps_ready h _ _ _ _ (c.size_of_steps-size.ensures _ E second steps (steps_of h)) roomed working_roomed (λ k. omega (arith, c.type_inv.rows k)) in
    let a = c.requires in
    record { E = a.E; second = a.second; steps = a.steps; ready = ready a.E a.second a.steps a.steps_here }

pub zero_both-requires : goal.zero_both-requires
zero_both-requires c = tt

pub shape_of-out_nodes : goal.shape_of-out_nodes
shape_of-out_nodes c = c.write_steps.auto.out_nodes

pub shape_of-out_rows : goal.shape_of-out_rows
shape_of-out_rows c = c.write_steps.auto.out_rows

pub shape_of-working_nodes : goal.shape_of-working_nodes
shape_of-working_nodes c = c.zero_both.auto.nodes ∙ c.write_steps.auto.working_nodes

pub shape_of-working_rows : goal.shape_of-working_rows
shape_of-working_rows c = c.zero_both.auto.rows ∙ c.write_steps.auto.working_rows

pub returns : goal.returns
returns c =
    let roomed : has_room c.size_of_steps-size.result (length c.args.out_nodes.now) (length c.args.out_rows.now) ≡ true = sym c.has_room.ensures ∙ c.if-not-has_room.false in
    let working_roomed : has_room c.size_of_steps-size.result (length c.args.working_nodes.now) (length c.args.working_rows.now) ≡ true = sym c.has_room-2.ensures ∙ c.if-not-has_room-2.false in
    -- every number of the rows is one of 32 bits
    let ready : (E : Encoding) (second : Option Encoding) (steps : List Step) → StepsHere c.args.nodes.now c.args.rows.now c.args.second c.args.entries.now c.args.members.now c.args.steps.now c.args.count E second steps
    → Ready c.args.nodes.now c.args.rows.now c.args.second c.args.entries.now c.args.members.now c.args.steps.now c.args.count c.args.out_nodes.now c.args.out_rows.now c.args.working_nodes.now c.args.working_rows.now E second steps =
    λ E second steps h. steps_ready h _ _ _ _ (c.size_of_steps-size.ensures _ E second steps (steps_of h)) roomed working_roomed (λ k. omega (arith, c.type_inv.rows k)) in
    λ E second steps h.
    let r = ready E second steps h in
    steps_done h _ _ _ _ (c.size_of_steps-size.ensures _ E second steps (steps_of h)) roomed r (c.write_steps.ensures.folded E second steps r)
    (zeroed_kept c.write_steps.auto.working_nodes c.write_steps.auto.working_rows c.zero_both.ensures)
