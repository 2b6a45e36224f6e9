-- `next` meets its contract: after a refusal nothing is taken; else as much as is wanted is put behind what is held, and settled.
-- Assumes nothing.
use mathlib.Core.Path.{◌≡◌, refl}
use Prim.Native.Nat.{◌+◌, ◌-◌, ◌≤◌}
use lib.ListN.{length, take, drop}
use Rattle.report_input.proofs.Pieces.{taken_long, written_arrived, moved, passed_over}
use native.Mathlib.Omega.{arith}
use Rattle.report_input.proofs.next.Goals as goal

pub returns-in_default : goal.returns-in_default
returns-in_default c = passed_over c.in_default.is c.requires.at_in_bounds c.requires.partial refl refl

pub settle-requires-clause-arrived : goal.settle-requires-clause-arrived
settle-requires-clause-arrived c =
    let at = c.args.from.at in
    let r = c.taken.result in
    let long : length (take (at + r - at) (drop at c.args.piece.now)) ≡ r = taken_long c.args.piece.now at r (omega (arith, c.taken.ensures.there)) in
    let fits : c.args.from.held.bytes + length (take (at + r - at) (drop at c.args.piece.now)) ≤ length c.args.batch.now = omega (arith, long, c.taken.ensures.fits) in
    written_arrived c.write_text-bytes.ensures fits c.taken.ensures long c.requires.partial

pub returns : goal.returns
returns c =
    let at = c.args.from.at in
    let r = c.taken.result in
    let long : length (take (at + r - at) (drop at c.args.piece.now)) ≡ r = taken_long c.args.piece.now at r (omega (arith, c.taken.ensures.there)) in
    let fits : c.args.from.held.bytes + length (take (at + r - at) (drop at c.args.piece.now)) ≤ length c.args.batch.now = omega (arith, long, c.taken.ensures.fits) in
    moved refl c.in-Ok.is c.write_text-bytes.ensures fits refl (omega (arith, c.taken.ensures.some)) (omega (arith, c.taken.ensures.there)) c.settle.ensures
