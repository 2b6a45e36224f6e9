-- `copy_shifted` writes the rows four at a time, and then those that are left. Assumes nothing.
use mathlib.Core.Path.{refl, ap, ◌∙◌}
use Prim.Native.Nat.{◌*◌, ◌-◌}
use native.Mathlib.Omega.{arith}
use lib.ListN.{length}
use lib.Seq.{length-sets}
use Rattle.record.specs.Flat.{row_width}
use Rattle.join_shift.proofs.Shifts.{copied}
use Rattle.join_shift.proofs.Blocks.{part_start, four_left, few_left, rest_left, block_asked, part_on, part_end}
use Rattle.join_shift.proofs.copy_shifted.Goals as goal

pub returns-then-n-eq0 : goal.returns-then-n-eq0
returns-then-n-eq0 c = copied c.if-n-eq0.true c.copy.ensures

pub loop-i-init : goal.loop-i-init
loop-i-init c = (refl, omega arith, λ R h k. part_start _ R _ _)

pub add_at-requires : goal.add_at-requires
add_at-requires c =
    let a = c.requires in
    let p = c.loop-i.invariant.2 a.R a.there a.size in
    block_asked a.there p 4 (omega arith) (four_left a.there p (omega (arith, a.size))) c.block_of_shifts-shifts.ensures refl a.within (λ k. omega (arith, c.type_inv.rows k)) (omega arith) (omega arith)

pub loop-i-preserved : goal.loop-i-preserved
loop-i-preserved c =
    let e = c.add_at.ensures in (
      ap length e ∙ simp length-sets c.loop-i.invariant.0,
      omega arith,
      λ R h k.
          let p = c.loop-i.invariant.2 R h k in
          part_on h p 4 (omega arith) (four_left h p (omega (arith, k))) c.block_of_shifts-shifts.ensures refl e,
    )

pub add_few_at-requires : goal.add_few_at-requires
add_few_at-requires c =
    let a = c.requires in
    let p = c.loop-i.invariant.2 a.R a.there a.size in
    block_asked a.there p (length p.B) (few_left a.there p (omega (arith, a.size))) (omega arith) c.block_of_shifts-shifts.ensures (rest_left a.there p (omega (arith, a.size))) a.within (λ k. omega (arith, c.type_inv.rows k)) (omega arith) (omega arith)

pub returns : goal.returns
returns c =
    let m = c.args.count * row_width - c.loop-i.i in
    record {
      made = λ R h k.
          let p = c.loop-i.invariant.2 R h k in
          part_end h (part_on h p (length p.B) (few_left h p (omega (arith, k))) (omega arith) {m = m} c.block_of_shifts-shifts.ensures (rest_left h p (omega (arith, k))) c.add_few_at.ensures) (omega (arith, k));
    }
