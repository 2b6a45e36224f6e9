-- `chars_from` meets its contract: what is counted up to a mark, and on from there. Assumes nothing.
use mathlib.Core.Path.{refl}
use Prim.Native.Nat.{◌≤◌}
use Rattle.chars_places.specs.Promises.{Marked}
use Rattle.chars_places.proofs.Grains.{block_before, block_inside}
use Rattle.chars_places.proofs.Table.{table_mark}
use Rattle.chars_places.proofs.Marks.{counted_on, counted_few}
use native.Mathlib.Omega.{arith}
use Rattle.chars_near.proofs.chars_from.Goals as goal
use Rattle.chars_near.proofs.chars_from.Lts as Lts
use Rattle.chars_near.proofs.chars_from.Reads as Reads
use Rattle.chars_near.proofs.chars_from.Tie as tie

-- ---- Places in the code

abbrev Joined-far : Type 0
Joined-far = Lts.Joined1 tie.the-claims Reads.Pre Reads.Post

-- what is counted from is a mark, and not behind the place
from_mark : (c : Joined-far) → Marked c.args.text.now (record { place = c.if-far.from; count = c.if-far.count }) × (c.if-far.from ≤ c.args.place)
from_mark c =
    elim c.if-far.branch [
      | Lts.then-far w ↦ (
        rw (w.from-is, w.count-is) (table_mark c.requires.1 c.args.place c.requires.0 _ refl),
        rw w.from-is (block_before c.requires.1.grained c.args.place),
      )
      | Lts.else-far w ↦ (rw (w.from-is, w.count-is) c.requires.2, rw w.from-is (c.far.ensures w.if-far.false))
    ]

pub overflow_mul-from : goal.overflow_mul-from
overflow_mul-from c = omega (arith, block_before c.requires.1.grained c.args.place)

pub offset_bounds-table-k : goal.offset_bounds-table-k
offset_bounds-table-k c = omega (arith, block_inside c.requires.1.grained c.args.place c.requires.0)

pub bounds-table-k : goal.bounds-table-k
bounds-table-k c = block_inside c.requires.1.grained c.args.place c.requires.0

pub count_starts-requires : goal.count_starts-requires
count_starts-requires c = ((from_mark c.before).1, c.requires.0)

pub overflow_add-result : goal.overflow_add-result
overflow_add-result c = let m = from_mark c.before.before.before in omega (arith, counted_few m.0 _ _ m.1 c.count_starts.ensures)

pub returns : goal.returns
returns c = let m = from_mark c.before.before.before in counted_on m.0 _ _ m.1 c.count_starts.ensures
