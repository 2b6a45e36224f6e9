-- `cut_two` decides from what the two encodings hold, and then writes. Assumes nothing.
use mathlib.Core.Path.{◌≡◌, refl, sym, ap, ◌∙◌}
use Prim.Native.Nat.{ℕ}
use native.Mathlib.Omega.{arith}
use mathlib.Core.List.{[], ◌∷◌}
use lib.ListN.{length}
use Rattle.record.specs.Tree.{forest}
use Rattle.record.specs.declared.Refusal.TheVariants.{NoRoom, Stride}
use Rattle.record.proofs.Here.{here_nodes_fit}
use Rattle.record.proofs.Outcome.{writes_refused}
use Rattle.record_extent.proofs.Stands.{here_stands}
use Rattle.truncate_size.specs.Size.{size_after}
use Rattle.truncate_size.proofs.Counted.{here_fitting}
use Rattle.truncate_two.specs.Promises.{together}
use Rattle.record_extent.proofs.Pair.{first_here, few_held}
use Rattle.truncate_two.proofs.Deciding.{here_small, other_here, other_rows, first_refused, second_refused, both_two, both_no_room, both_asks, both_writes}
use Rattle.truncate_two.proofs.cut_two.Goals as goal

pub overflow_mul-i : goal.overflow_mul-i
overflow_mul-i c = omega (arith, (few_held (first_here _ c.requires.2.stored) c.requires.2.measured).0)

pub bounds-nodes-0 : goal.bounds-nodes-0
bounds-nodes-0 c = omega (arith, here_nodes_fit (first_here _ c.requires.2.stored))

pub bounds-nodes-i : goal.bounds-nodes-i
bounds-nodes-i c = omega (arith, here_nodes_fit (other_here c.requires.2))

pub returns-then-stride_refused : goal.returns-then-stride_refused
returns-then-stride_refused c = λ E F h. writes_refused Stride (first_refused h _ _ _ _ _ _ (sym c.stride_refused.ensures ∙ c.if-stride_refused.true)) refl refl refl refl

pub returns-then-stride_refused-2 : goal.returns-then-stride_refused-2
returns-then-stride_refused-2 c = λ E F h.
    writes_refused Stride (second_refused h _ _ _ _ _ _ (sym c.stride_refused.ensures ∙ c.if-stride_refused.false) (sym c.stride_refused-2.ensures ∙ c.if-stride_refused-2.true)) refl refl refl refl

pub measure-other-requires : goal.measure-other-requires
measure-other-requires c = let q = c.requires in (forest (q.1 ∷ []), here_stands (other_here q.2))

pub size_after-kept-requires : goal.size_after-kept-requires
size_after-kept-requires c = let q = c.requires in here_fitting (first_here _ q.2.stored) q.2.measured

pub size_after-requires : goal.size_after-requires
size_after-requires c = let h = c.requires.2 in here_fitting (other_here h) (c.measure-other.ensures _ (here_stands (other_here h)))

pub both-size-requires : goal.both-size-requires
both-size-requires c =
    let h = c.requires.2 in
    (here_small _ _ (first_here _ h.stored) h.measured c.size_after-kept.ensures, here_small _ _ (other_here h) (c.measure-other.ensures _ (here_stands (other_here h))) c.size_after.ensures)

pub returns-then-not-has_room : goal.returns-then-not-has_room
returns-then-not-has_room c = λ E F h.
    let v = c.args in
    let measured = c.measure-other.ensures _ (here_stands (other_here h)) in
    let the_two = both_two h _ _ _ measured c.size_after-kept.ensures (sym c.stride_refused.ensures ∙ c.if-stride_refused.false) (sym c.stride_refused-2.ensures ∙ c.if-stride_refused-2.false) in
    let sized : c.both-size.result ≡ together c.size_after-kept.result (size_after (length F.rows) v.m v.stride c.measure-other.result) =
    c.both-size.ensures ∙ ap (together c.size_after-kept.result) (c.size_after.ensures ∙ ap (λ (x : ℕ). size_after x v.m v.stride c.measure-other.result) (other_rows h)) in
    writes_refused NoRoom (both_no_room the_two _ _ _ sized (sym c.has_room.ensures ∙ c.if-not-has_room.true)) refl refl refl refl

pub write_two-requires : goal.write_two-requires
write_two-requires c =
    let h = c.requires.2 in
    let v = c.args in
    let measured = c.measure-other.ensures _ (here_stands (other_here h)) in
    let the_two = both_two h _ _ _ measured c.size_after-kept.ensures (sym c.stride_refused.ensures ∙ c.if-stride_refused.false) (sym c.stride_refused-2.ensures ∙ c.if-stride_refused-2.false) in
    let sized : c.both-size.result ≡ together c.size_after-kept.result (size_after (length c.requires.1.rows) v.m v.stride c.measure-other.result) =
    c.both-size.ensures ∙ ap (together c.size_after-kept.result) (c.size_after.ensures ∙ ap (λ (x : ℕ). size_after x v.m v.stride c.measure-other.result) (other_rows h)) in
    both_asks the_two v.direction _ _ sized (sym c.has_room.ensures ∙ c.if-not-has_room.false)

pub returns : goal.returns
returns c = λ E F h.
    let v = c.args in
    let measured = c.measure-other.ensures _ (here_stands (other_here h)) in
    let the_two = both_two h _ _ _ measured c.size_after-kept.ensures (sym c.stride_refused.ensures ∙ c.if-stride_refused.false) (sym c.stride_refused-2.ensures ∙ c.if-stride_refused-2.false) in
    let sized : c.both-size.result ≡ together c.size_after-kept.result (size_after (length F.rows) v.m v.stride c.measure-other.result) =
    c.both-size.ensures ∙ ap (together c.size_after-kept.result) (c.size_after.ensures ∙ ap (λ (x : ℕ). size_after x v.m v.stride c.measure-other.result) (other_rows h)) in
    both_writes the_two v.direction _ _ sized (sym c.has_room.ensures ∙ c.if-not-has_room.false) (c.write_two.ensures E F the_two)
