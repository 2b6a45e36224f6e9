-- `join_size` measures the join by profiles, or, where neither has windows, by the two row counts. Assumes nothing.
use mathlib.Core.Path.{sym, ap₂, ◌∙◌}
use mathlib.Core.Bool.{false}
use Prim.Native.Nat.{◌+◌}
use native.Mathlib.Omega.{arith}
use Rattle.join_trees.specs.Join.{join}
use Rattle.join_size.proofs.Sizes.{front_long, front_size, front_count, front_profiled, measured_profiled, sizes_plain}
use Rattle.join_size.proofs.join_size.Goals as goal

pub bounds-first_nodes-1 : goal.bounds-first_nodes-1
bounds-first_nodes-1 c = omega (arith, front_long c.requires.first_stands)

pub bounds-second_nodes-1 : goal.bounds-second_nodes-1
bounds-second_nodes-1 c = omega (arith, front_long c.requires.second_stands)

pub bounds-first_nodes-0 : goal.bounds-first_nodes-0
bounds-first_nodes-0 c = omega (arith, front_long c.requires.first_stands)

pub bounds-second_nodes-0 : goal.bounds-second_nodes-0
bounds-second_nodes-0 c = omega (arith, front_long c.requires.second_stands)

pub overflow_add-rows : goal.overflow_add-rows
overflow_add-rows c =
    let v = c.requires in
    omega (arith, front_size v.first_stands, front_size v.second_stands, v.first_stands.well.fits.few_rows, v.second_stands.well.fits.few_rows)

pub returns-then-second_nodes-eq0 : goal.returns-then-second_nodes-eq0
returns-then-second_nodes-eq0 c = λ g S P s p.
    sizes_plain g S P _ (sym (front_count s) ∙ c.if-first_nodes-eq0.true) (sym (front_count p) ∙ c.if-second_nodes-eq0.true)
    (ap₂ ◌+◌ (front_size s) (front_size p))

pub profile_at-s-requires : goal.profile_at-s-requires
profile_at-s-requires c = let v = c.requires in record { E = v.S; stands = v.first_stands }

pub profile_at-p-requires : goal.profile_at-p-requires
profile_at-p-requires c = let v = c.requires in record { E = v.P; stands = v.second_stands }

pub joined_profile-requires : goal.joined_profile-requires
joined_profile-requires c =
    let v = c.requires in
    (front_profiled v.first_stands c.profile_at-s.ensures, front_profiled v.second_stands c.profile_at-p.ensures)

pub size_of-requires : goal.size_of-requires
size_of-requires c =
    let v = c.requires in
    measured_profiled _ _ (c.joined_profile.ensures false v.S v.P (c.profile_at-s.ensures v.S v.first_stands) (c.profile_at-p.ensures v.P v.second_stands))

pub returns : goal.returns
returns c = λ g S P s p. c.size_of.ensures (join g S P) (c.joined_profile.ensures g S P (c.profile_at-s.ensures S s) (c.profile_at-p.ensures P p))
