-- `write_steps` writes the empty encoding and takes one step more each turn. Assumes nothing.
use mathlib.Core.Path.{◌≡◌, ◌∙◌}
use mathlib.Core.List.{[], ◌∷◌}
use lib.ListN.{length}
use Rattle.record.specs.Tree.{empty}
use Rattle.record.specs.Standing.{Put}
use Rattle.fold_step.proofs.Folding.{empty_put}
use Rattle.process_write.proofs.Along.{asks_start, going_start, going_inside, going_asks, going_lengths, going_more, going_end}
use Rattle.process_write.proofs.write_steps.Goals as goal

pub start-requires : goal.start-requires
start-requires c = asks_start c.requires

pub loop-i-init : goal.loop-i-init
loop-i-init c =
    let begun : Put (empty ∷ []) c.args.out_nodes.now 0 c.args.out_rows.now 0 c.start.new.out_nodes c.args.out_rows.now = empty_put c.start.ensures in
    going_start begun

pub step_at-step-requires : goal.step_at-step-requires
step_at-step-requires c =
    let begun : Put (empty ∷ []) c.args.out_nodes.now 0 c.args.out_rows.now 0 c.start.new.out_nodes c.args.out_rows.now = empty_put c.start.ensures in
    going_inside begun c.loop-i.invariant c.requires c.loop-i-test.true

pub write_step-requires : goal.write_step-requires
write_step-requires c =
    let begun : Put (empty ∷ []) c.args.out_nodes.now 0 c.args.out_rows.now 0 c.start.new.out_nodes c.args.out_rows.now = empty_put c.start.ensures in
    going_asks begun c.loop-i.invariant c.requires c.loop-i-test.true c.step_at-step.ensures

pub loop-i-preserved : goal.loop-i-preserved
loop-i-preserved c =
    let begun : Put (empty ∷ []) c.args.out_nodes.now 0 c.args.out_rows.now 0 c.start.new.out_nodes c.args.out_rows.now = empty_put c.start.ensures in
    going_more begun c.loop-i.invariant c.loop-i-test.true c.step_at-step.ensures c.write_step.ensures c.write_step.auto.working_nodes c.write_step.auto.working_rows

pub shape_of-out_nodes : goal.shape_of-out_nodes
shape_of-out_nodes c =
    let begun : Put (empty ∷ []) c.args.out_nodes.now 0 c.args.out_rows.now 0 c.start.new.out_nodes c.args.out_rows.now = empty_put c.start.ensures in
    let lengths : (length c.loop-i.out_nodes ≡ length c.start.new.out_nodes) × (length c.loop-i.out_rows ≡ length c.args.out_rows.now) × (length c.loop-i.working_nodes ≡ length c.args.working_nodes.now) × (length c.loop-i.working_rows ≡ length c.args.working_rows.now) = going_lengths begun c.loop-i.invariant c.requires in
    lengths.0 ∙ c.start.auto.out_nodes

pub shape_of-out_rows : goal.shape_of-out_rows
shape_of-out_rows c =
    let begun : Put (empty ∷ []) c.args.out_nodes.now 0 c.args.out_rows.now 0 c.start.new.out_nodes c.args.out_rows.now = empty_put c.start.ensures in
    let lengths : (length c.loop-i.out_nodes ≡ length c.start.new.out_nodes) × (length c.loop-i.out_rows ≡ length c.args.out_rows.now) × (length c.loop-i.working_nodes ≡ length c.args.working_nodes.now) × (length c.loop-i.working_rows ≡ length c.args.working_rows.now) = going_lengths begun c.loop-i.invariant c.requires in
    lengths.1

pub shape_of-working_nodes : goal.shape_of-working_nodes
shape_of-working_nodes c =
    let begun : Put (empty ∷ []) c.args.out_nodes.now 0 c.args.out_rows.now 0 c.start.new.out_nodes c.args.out_rows.now = empty_put c.start.ensures in
    let lengths : (length c.loop-i.out_nodes ≡ length c.start.new.out_nodes) × (length c.loop-i.out_rows ≡ length c.args.out_rows.now) × (length c.loop-i.working_nodes ≡ length c.args.working_nodes.now) × (length c.loop-i.working_rows ≡ length c.args.working_rows.now) = going_lengths begun c.loop-i.invariant c.requires in
    lengths.2

pub shape_of-working_rows : goal.shape_of-working_rows
shape_of-working_rows c =
    let begun : Put (empty ∷ []) c.args.out_nodes.now 0 c.args.out_rows.now 0 c.start.new.out_nodes c.args.out_rows.now = empty_put c.start.ensures in
    let lengths : (length c.loop-i.out_nodes ≡ length c.start.new.out_nodes) × (length c.loop-i.out_rows ≡ length c.args.out_rows.now) × (length c.loop-i.working_nodes ≡ length c.args.working_nodes.now) × (length c.loop-i.working_rows ≡ length c.args.working_rows.now) = going_lengths begun c.loop-i.invariant c.requires in
    lengths.3

pub returns : goal.returns
returns c =
    let begun : Put (empty ∷ []) c.args.out_nodes.now 0 c.args.out_rows.now 0 c.start.new.out_nodes c.args.out_rows.now = empty_put c.start.ensures in
    going_end begun c.loop-i.invariant c.loop-i-test.false
