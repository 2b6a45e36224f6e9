-- `folded_profile` measures the fold: each turn folds one encoding more, and the first that is too large decides.
-- Assumes nothing.
use mathlib.Core.Bool.{false}
use native.Mathlib.Omega.{arith}
use Rattle.fold_levels.proofs.Folded.{stepped_start, stepped_profiled, next, next_some, next_room, next_profiled, stepped_more, stepped_stop, stepped_end}
use Rattle.fold_levels.proofs.folded_profile.Goals as goal

pub loop-i-init : goal.loop-i-init
loop-i-init c = λ g f h. stepped_start g h c.empty_profile-so_far.ensures

pub profile_at-p-requires : goal.profile_at-p-requires
profile_at-p-requires c = let n = next (c.loop-i.invariant false c.requires.f c.requires.holds) c.loop-i-test.true in record { E = n.E; stands = n.stands }

pub joined_profile-requires : goal.joined_profile-requires
joined_profile-requires c = let n = next (c.loop-i.invariant false c.requires.f c.requires.holds) c.loop-i-test.true in (stepped_profiled n.stepped, next_profiled n c.profile_at-p.ensures)

pub returns-in_err-so_far : goal.returns-in_err-so_far
returns-in_err-so_far c = λ g f h.
    let n = next (c.loop-i.invariant g f h) c.loop-i-test.true in
    rw c.from_residual.ensures (stepped_stop n (rw c.in_err-so_far.was at (c.joined_profile.ensures g _ n.E n.stepped.profile (c.profile_at-p.ensures n.E n.stands))))

pub nodes_in-requires : goal.nodes_in-requires
nodes_in-requires c = let n = next (c.loop-i.invariant false c.requires.f c.requires.holds) c.loop-i-test.true in next_profiled n c.profile_at-p.ensures

pub overflow_mul-i : goal.overflow_mul-i
overflow_mul-i c = let n = next (c.loop-i.invariant false c.requires.f c.requires.holds) c.loop-i-test.true in omega (arith, next_room n, c.nodes_in.ensures n.E (c.profile_at-p.ensures n.E n.stands))

pub overflow_add-i : goal.overflow_add-i
overflow_add-i c = let n = next (c.loop-i.invariant false c.requires.f c.requires.holds) c.loop-i-test.true in omega (arith, next_room n, c.nodes_in.ensures n.E (c.profile_at-p.ensures n.E n.stands))

pub loop-i-smaller : goal.loop-i-smaller
loop-i-smaller c = let n = next (c.loop-i.invariant false c.requires.f c.requires.holds) c.loop-i-test.true in omega (arith, next_some n, next_room n, c.nodes_in.ensures n.E (c.profile_at-p.ensures n.E n.stands))

pub loop-i-preserved : goal.loop-i-preserved
loop-i-preserved c = λ g f h.
    let n = next (c.loop-i.invariant g f h) c.loop-i-test.true in
    stepped_more n c.nodes_in.result (c.nodes_in.ensures n.E (c.profile_at-p.ensures n.E n.stands)) (rw c.in_ok-so_far.was at (c.joined_profile.ensures g _ n.E n.stepped.profile (c.profile_at-p.ensures n.E n.stands)))

pub returns : goal.returns
returns c = λ g f h. stepped_end (c.loop-i.invariant g f h) c.loop-i-test.false
