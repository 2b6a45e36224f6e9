-- `append_along` lengthens the nodes in the output, and copies the rows back from the working store. Assumes nothing.
use mathlib.Core.Path.{◌≡◌, ap, ◌∙◌}
use mathlib.Core.List.{List, [], ◌∷◌}
use Prim.Native.Nat.{ℕ, ◌*◌, ◌≤◌}
use native.Mathlib.Omega.{arith}
use lib.ListN.{length, length-take}
use lib.Seq.{length-take-le}
use Rattle.record.specs.Tree.{forest}
use Rattle.record.specs.Flat.{row_width, node_width}
use Rattle.record_extent.specs.Size.{size_of}
use Rattle.record_extent.specs.declared.Extent.{Extent}
use Rattle.record_extent.proofs.Stands.{here_stands}
use Rattle.record.proofs.Here.{here_nodes_fit, here_rows_fit}
use Rattle.process_special.specs.Promises.{AskSpecial}
use Rattle.process_special.proofs.Appending.{front_stores, room, room_working, asks_lengthened, put_along}
use Rattle.process_special.proofs.append_along.Goals as goal

-- what was measured is there
stand : {members out out' working : List ℕ} {first count t : ℕ} {size : Extent} (p : AskSpecial members first count t out out' working) → size ≡ size_of (forest (p.S ∷ []))
    → (size.nodes * node_width ≤ length out) × (size.rows * row_width ≤ length out')
stand p e = (omega (arith, ap (λ (s : Extent). s.nodes) e, here_nodes_fit p.here_s), omega (arith, ap (λ (s : Extent). s.rows) e, here_rows_fit p.here_s))

pub slice_bounds-lengthen-end : goal.slice_bounds-lengthen-end
slice_bounds-lengthen-end c = let p = c.requires in (stand p (c.measure-size.ensures _ (here_stands p.here_s))).0

pub slice_bounds-lengthen-end-2 : goal.slice_bounds-lengthen-end-2
slice_bounds-lengthen-end-2 c = let p = c.requires in let h = (stand p (c.measure-size.ensures _ (here_stands p.here_s))).0 in simp length-take (omega arith)

pub slice_bounds-lengthen-end-3 : goal.slice_bounds-lengthen-end-3
slice_bounds-lengthen-end-3 c = let p = c.requires in (stand p (c.measure-size.ensures _ (here_stands p.here_s))).1

pub slice_bounds-lengthen-end-4 : goal.slice_bounds-lengthen-end-4
slice_bounds-lengthen-end-4 c = let p = c.requires in let h = (stand p (c.measure-size.ensures _ (here_stands p.here_s))).1 in simp length-take (omega arith)

pub lengthen-end-requires : goal.lengthen-end-requires
lengthen-end-requires c = let p = c.requires in asks_lengthened _ _ _ _ p (c.measure-size.ensures _ (here_stands p.here_s))

pub copy-requires : goal.copy-requires
copy-requires c =
    let p = c.requires in
    let l = c.lengthen-end.ensures _ (front_stores (c.measure-size.ensures _ (here_stands p.here_s)) p.here_s) in
    (omega (arith, l.ends, room_working _ _ _ _ p, c.lengthen-end.auto.out), omega (arith, l.ends, (room _ _ _ _ p).rows_fit))

pub returns : goal.returns
returns c = λ S h.
    let p = c.requires in
    let measured = c.measure-size.ensures _ (here_stands p.here_s) in
    let l = c.lengthen-end.ensures _ (front_stores measured p.here_s) in
    let size = c.measure-size.ensures (forest (S ∷ [])) (here_stands h) in
    put_along c.args.members.now c.args.first c.args.count c.args.type_id S h size (c.lengthen-end.ensures (forest (S ∷ [])) (front_stores size h))
    (c.lengthen-end.auto.nodes ∙ length-take-le (c.measure-size.result.nodes * node_width) c.args.out_nodes.now (stand p measured).0) (omega (arith, l.ends, room_working _ _ _ _ p)) c.copy.ensures
