-- `write_windows` writes a line after another while there is room: what stands so far is the loop's invariant.
-- Assumes nothing.
use mathlib.Core.Path.{ap}
use mathlib.Core.Logic.{inl, inr}
use native.Mathlib.Omega.{arith}
use Rattle.listing.specs.Answer.{window_line}
use Rattle.listing_text.proofs.Wrote.{wrote_as}
use Rattle.listing.proofs.Lines.{listing_none, listing_long, listing_more, listing_ends}
use Rattle.listing.proofs.write_windows.Goals as goal

pub count-all-requires : goal.count-all-requires
count-all-requires c = tt

pub loop-next-init : goal.loop-next-init
loop-next-init c = listing_none _ _ _ _ c.requires

pub overflow_sub-out : goal.overflow_sub-out
overflow_sub-out c = omega (arith, c.loop-next.invariant.inside, listing_long _ _ _ _ c.loop-next.invariant)

pub listed-requires : goal.listed-requires
listed-requires c = tt

pub write_window-place-requires : goal.write_window-place-requires
write_window-place-requires c = omega (arith, c.loop-next.invariant.inside, listing_long _ _ _ _ c.loop-next.invariant, c.if-out-place-lt-LONGEST.false)

pub loop-next-preserved : goal.loop-next-preserved
loop-next-preserved c = listing_more _ _ _ _ c.loop-next.invariant (omega (arith, c.loop-next-test.true, c.count-all.ensures)) (omega (arith, c.loop-next.invariant.inside, listing_long _ _ _ _ c.loop-next.invariant, c.if-out-place-lt-LONGEST.false)) (wrote_as (ap (window_line c.loop-next.next) c.listed.ensures) c.write_window-place.ensures)

pub shape_of-out-after-loop-next : goal.shape_of-out-after-loop-next
shape_of-out-after-loop-next c = listing_long _ _ _ _ c.loop-next.invariant

pub returns-after-loop-next : goal.returns-after-loop-next
returns-after-loop-next c = listing_ends _ _ _ _ c.loop-next.invariant (inl (omega (arith, c.loop-next-test.false, c.count-all.ensures)))

pub shape_of-out-then-out-place-lt-LONGEST : goal.shape_of-out-then-out-place-lt-LONGEST
shape_of-out-then-out-place-lt-LONGEST c = listing_long _ _ _ _ c.loop-next.invariant

pub returns-then-out-place-lt-LONGEST : goal.returns-then-out-place-lt-LONGEST
returns-then-out-place-lt-LONGEST c = listing_ends _ _ _ _ c.loop-next.invariant (inr (omega (arith, c.loop-next.invariant.inside, listing_long _ _ _ _ c.loop-next.invariant, c.if-out-place-lt-LONGEST.true)))
