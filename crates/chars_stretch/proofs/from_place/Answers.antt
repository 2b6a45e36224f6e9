-- `from_place` meets its contract: what is counted up to the place, and the bytes behind it that begin characters. Assumes nothing.
use Rattle.chars_stretch.proofs.Stretches.{chars_mark_few, chars_stretch}
use native.Mathlib.Omega.{arith}
use Rattle.chars_stretch.proofs.from_place.Goals as goal

pub overflow_add-last_count : goal.overflow_add-last_count
overflow_add-last_count c = omega (arith, chars_mark_few c.args.text.now c.requires.2)

pub returns : goal.returns
returns c =
    let u = c.starts_up_to-to.ensures in
    (chars_stretch _ _ u c.chars_from-base.ensures, record { not_before = omega arith; not_behind = u.onward })
