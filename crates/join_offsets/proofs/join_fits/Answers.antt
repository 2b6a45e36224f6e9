-- `join_fits` adds the largest base to a bound of the offsets, and where that is too large to the largest offset; without
-- growing every join fits, as the operands' numbers do. Assumes nothing.
use borrow.Author.Tests.{le-leb}
use native.Mathlib.Omega.{arith}
use Prim.Native.Nat.{ℕ, ◌+◌, ◌≤◌}
use mathlib.Core.Path.{◌≡◌, sym, ap, ap₂, ◌∙◌}
use mathlib.Core.Bool.{Bool, true}
use mathlib.Core.List.{List, [], ◌∷◌}
use lib.ListN.{get_or}
use lib.Dec.{leb}
use Rattle.record.specs.Tree.{Encoding, forest}
use Rattle.record.specs.Walk.{all_rows}
use Rattle.record.specs.Standing.{One}
use Rattle.join_trees.specs.Offsets.{most_offset, join_fits}
use Rattle.join_trees.proofs.Offsets.{join_fits_still}
use Rattle.join_reach.specs.Reach.{largest_offset, largest, largest_base}
use Rattle.join_offsets.proofs.Joined.{join_fits_growing}
use Rattle.join_offsets.proofs.Known.{stored_fits}
use Rattle.join_offsets.proofs.Given.{offset_all, stores_here, nodes_from, rows_from_lem, nodes_counted, rows_counted}
use Rattle.join_offsets.proofs.join_fits.Goals as goal

pub returns-then-not-growing : goal.returns-then-not-growing
returns-then-not-growing c = λ S P s p.
    let e = c.if-not-growing.true in
    sym (ap (λ (g : Bool). join_fits g S P) e ∙ join_fits_still S P (stored_fits s.stores (λ i. omega (arith, c.type_inv.s_rows i))) (stored_fits p.stores (λ i. omega (arith, c.type_inv.p_rows i))))

pub largest_base-base-requires : goal.largest_base-base-requires
largest_base-base-requires c =
    let o = c.requires in
    (forest (o.S ∷ []), nodes_from (stores_here o.first.stores) (nodes_counted o.first.stores))

pub offset_bound-bound-requires : goal.offset_bound-bound-requires
offset_bound-bound-requires c =
    let o = c.requires in
    (all_rows (forest (o.P ∷ [])), rows_from_lem (stores_here o.second.stores) (rows_counted o.second.stores))

-- what decides: the largest last offset end of S, and the largest offset of P
decides : {nodes rows : List ℕ} {growing : Bool} (S P : Encoding) → One nodes rows S → ((i : ℕ) → get_or rows i 0 ≤ most_offset) → growing ≡ true → join_fits growing S P ≡ leb (largest_base (forest (S ∷ [])) + largest largest_offset (forest (P ∷ []))) most_offset
decides S P s small grows = ap (λ (g : Bool). join_fits g S P) grows ∙ join_fits_growing S P (stored_fits s.stores small)

pub returns-then-base-bound-le-MOST_OFFSET : goal.returns-then-base-bound-le-MOST_OFFSET
returns-then-base-bound-le-MOST_OFFSET c = λ S P s p.
    let base = c.largest_base-base.ensures (forest (S ∷ [])) (nodes_from (stores_here s.stores) (nodes_counted s.stores)) in
    let most = c.offset_bound-bound.ensures (all_rows (forest (P ∷ []))) (rows_from_lem (stores_here p.stores) (rows_counted p.stores)) in
    sym
    (decides S P s (λ i. omega (arith, c.type_inv.s_rows i)) c.if-not-growing.false
    ∙ le-leb (largest_base (forest (S ∷ [])) + largest largest_offset (forest (P ∷ []))) most_offset
    (omega (arith, most, offset_all (forest (P ∷ [])), base, c.if-base-bound-le-MOST_OFFSET.true)))

pub largest_offset-offset-requires : goal.largest_offset-offset-requires
largest_offset-offset-requires c =
    let o = c.requires in
    (all_rows (forest (o.P ∷ [])), rows_from_lem (stores_here o.second.stores) (rows_counted o.second.stores))

pub returns : goal.returns
returns c = λ S P s p.
    let base = c.largest_base-base.ensures (forest (S ∷ [])) (nodes_from (stores_here s.stores) (nodes_counted s.stores)) in
    let offset = c.largest_offset-offset.ensures (all_rows (forest (P ∷ []))) (rows_from_lem (stores_here p.stores) (rows_counted p.stores)) ∙ offset_all (forest (P ∷ [])) in
    ap₂ (λ (m n : ℕ). leb (m + n) most_offset) base offset ∙ sym (decides S P s (λ i. omega (arith, c.type_inv.s_rows i)) c.if-not-growing.false)
