-- `place_from` meets its contract: what is looked for from a mark on is what is looked for in the text. Assumes nothing.
use mathlib.Core.Path.{refl}
use Prim.Native.Nat.{◌≤◌}
use Rattle.chars_places.specs.Promises.{Marked}
use Rattle.chars_near.proofs.Marks.{found_on, back_before, back_inside, back_mark}
use native.Mathlib.Omega.{arith}
use Rattle.chars_near.proofs.place_from.Goals as goal
use Rattle.chars_near.proofs.place_from.Lts as Lts
use Rattle.chars_near.proofs.place_from.Reads as Reads
use Rattle.chars_near.proofs.place_from.Tie as tie

-- ---- Places in the code

abbrev Joined-far : Type 0
Joined-far = Lts.Joined1 tie.the-claims Reads.Pre Reads.Post

-- what is looked for from is a mark, and not behind the character
from_mark : (c : Joined-far) → Marked c.args.text.now (record { place = c.if-far.from; count = c.if-far.passed }) × (c.if-far.passed ≤ c.args.count)
from_mark c =
    elim c.if-far.branch [
      | Lts.then-far w ↦ (
        rw (w.from-is, w.passed-is) (back_mark c.requires.1 c.args.count c.requires.0 _ refl),
        rw w.passed-is (back_before c.requires.1 c.args.count c.requires.0),
      )
      | Lts.else-far w ↦ (rw (w.from-is, w.passed-is) c.requires.2, rw w.passed-is (c.far.ensures w.if-far.false))
    ]

pub offset_bounds-table-k : goal.offset_bounds-table-k
offset_bounds-table-k c = omega (arith, back_inside c.requires.1 c.args.count c.requires.0)

pub bounds-table-k : goal.bounds-table-k
bounds-table-k c = back_inside c.requires.1 c.args.count c.requires.0

pub overflow_mul-passed : goal.overflow_mul-passed
overflow_mul-passed c = omega (arith, back_before c.requires.1 c.args.count c.requires.0)

pub overflow_sub-count : goal.overflow_sub-count
overflow_sub-count c = (from_mark c.before.before).1

pub nth_start-requires : goal.nth_start-requires
nth_start-requires c = (from_mark c.before.before).0.inside

pub returns : goal.returns
returns c = let m = from_mark c.before.before.before in found_on m.0 _ _ m.1 c.nth_start.ensures
