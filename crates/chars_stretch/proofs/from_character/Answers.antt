-- `from_character` meets its contract: the character's place, and the bytes behind it that begin characters. Assumes nothing.
use Rattle.chars_text.proofs.Starts.{starts_few}
use Rattle.chars_back.proofs.Nth.{nth_inside}
use Rattle.chars_stretch.proofs.Stretches.{places_mark, places_stretch}
use native.Mathlib.Omega.{arith}
use Rattle.chars_stretch.proofs.from_character.Goals as goal

pub overflow_add-last_place : goal.overflow_add-last_place
overflow_add-last_place c = omega (arith, (places_mark c.args.text.now c.requires.2).inside)

pub place_from-base-requires : goal.place_from-base-requires
place_from-base-requires c = (c.requires.0, c.requires.1, places_mark _ c.requires.2)

pub starts_up_to-end-requires : goal.starts_up_to-end-requires
starts_up_to-end-requires c =
    omega (arith, c.place_from-base.ensures, nth_inside c.args.count c.args.text.now)

pub returns-then-base-end : goal.returns-then-base-end
returns-then-base-end c =
    let u = c.starts_up_to-end.ensures in
    (places_stretch _ _ u c.requires.0 c.place_from-base.ensures c.if-base-end.true, record { not_before = omega arith; not_behind = omega arith })

pub overflow_add-to : goal.overflow_add-to
overflow_add-to c =
    omega (arith, (returns-then-base-end c).0.inside, starts_few c.args.text.now)
