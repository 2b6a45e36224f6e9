-- `cut_one` decides from what the encoding holds, and then writes. Assumes nothing.
use mathlib.Core.Path.{◌≡◌, refl, sym, ap, ◌∙◌}
use mathlib.Core.Bool.{Bool}
use Prim.Native.Nat.{ℕ}
use native.Mathlib.Omega.{arith}
use Rattle.record.specs.declared.Refusal.TheVariants.{NoRoom, Stride}
use Rattle.record.proofs.One.{one_nodes_long}
use Rattle.record.proofs.Outcome.{writes_refused}
use Rattle.record_extent.specs.declared.Extent.{Extent}
use Rattle.record_extent.specs.Size.{roomy}
use Rattle.truncate_size.specs.Size.{size_after}
use Rattle.truncate.proofs.Deciding.{one_here, outcome_stride, outcome_no_room, one_asks, one_writes}
use Rattle.truncate_size.proofs.Counted.{here_fitting}
use Rattle.truncate.proofs.cut_one.Goals as goal

-- whether what is made has room
rooms : (n max stride : ℕ) (own : Extent) (nodes rows : ℕ) {size : Extent} {room : Bool} → size ≡ size_after n max stride own → room ≡ roomy size nodes rows → roomy (size_after n max stride own) nodes rows ≡ room
rooms n max stride own nodes rows e r = ap (λ (s : Extent). roomy s nodes rows) (sym e) ∙ sym r

pub bounds-nodes-0 : goal.bounds-nodes-0
bounds-nodes-0 c = omega (arith, one_nodes_long c.requires.one)

pub returns-then-stride_refused : goal.returns-then-stride_refused
returns-then-stride_refused c = λ E h e. writes_refused Stride (outcome_stride h _ _ _ _ _ (sym c.stride_refused.ensures ∙ c.if-stride_refused.true)) refl refl refl refl

pub size_after-size-requires : goal.size_after-size-requires
size_after-size-requires c = let q = c.requires in here_fitting (one_here q.one) q.measured

pub returns-then-not-has_room : goal.returns-then-not-has_room
returns-then-not-has_room c = λ E h e.
    let kept = sym c.stride_refused.ensures ∙ c.if-stride_refused.false in
    let room = rooms _ _ _ _ _ _ c.size_after-size.ensures c.has_room.ensures ∙ c.if-not-has_room.true in
    writes_refused NoRoom (outcome_no_room h _ _ _ _ _ kept e room) refl refl refl refl

pub write_truncated-requires : goal.write_truncated-requires
write_truncated-requires c =
    let kept = sym c.stride_refused.ensures ∙ c.if-stride_refused.false in
    let room = rooms _ _ _ _ _ _ c.size_after-size.ensures c.has_room.ensures ∙ c.if-not-has_room.false in
    one_asks c.requires.one _ _ _ _ c.args.direction kept c.requires.measured room

pub returns : goal.returns
returns c = λ E h e.
    let kept = sym c.stride_refused.ensures ∙ c.if-stride_refused.false in
    let room = rooms _ _ _ _ _ _ c.size_after-size.ensures c.has_room.ensures ∙ c.if-not-has_room.false in
    one_writes h _ _ _ _ c.args.direction kept e room c.size_after-size.ensures (c.write_truncated.ensures E (one_here h) e)
