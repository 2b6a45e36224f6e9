-- Encodings written one after another: what is written so far and what is left make up the whole, and what is left has room.
-- Assumes nothing.
use mathlib.Core.Path.{◌≡◌, refl, sym, ap, ◌∙◌, subst}
use mathlib.Core.List.{List, [], ◌++◌, append_assoc, append-nil}
use Prim.Native.Nat.{ℕ, ◌+◌, ◌*◌, ◌≤◌}
use native.Mathlib.Omega.{arith}
use lib.ListN.{length}
use lib.Seq.{length-sets}
use Rattle.record.specs.Tree.{Encoding, forest}
use Rattle.record.specs.Flat.{row_width, node_width, flat_nodes, flat_rows}
use Rattle.record.specs.WellFormed.{Fine, nodes_in, rows_in}
use Rattle.record.proofs.Flat.{length_nodes, length_rows}
use Rattle.record.proofs.Put.{put_none, put_more}
use Rattle.record.specs.declared.Spot.{Spot}
use Rattle.record.specs.Standing.{spot}
use Rattle.join_write.specs.Promises.{Wrote}
use Rattle.join_write.proofs.Sides.{Sound, fine_first, sound_first, sound_last}
use Rattle.record.proofs.Counts.{nodes_append, rows_append}

-- where what follows fs goes
abbrev after : Spot → List Encoding → Spot
after at fs = spot (at.node + nodes_in (forest fs) * node_width) (at.row + rows_in (forest fs) * row_width)

after_append : (at : Spot) (xs ys : List Encoding) → after (after at xs) ys ≡ after at (xs ++ ys)
after_append at xs ys =
    let n : at.node + nodes_in (forest xs) * node_width + nodes_in (forest ys) * node_width ≡ at.node + nodes_in (forest (xs ++ ys)) * node_width = omega (arith, nodes_append xs ys) in
    let r : at.row + rows_in (forest xs) * row_width + rows_in (forest ys) * row_width ≡ at.row + rows_in (forest (xs ++ ys)) * row_width = omega (arith, rows_append xs ys) in
    λ i. spot (n i) (r i)

after_none : (at : Spot) → at ≡ after at []
after_none at =
    let n : at.node ≡ at.node + 0 * node_width = omega arith in
    let r : at.row ≡ at.row + 0 * row_width = omega arith in
    λ i. spot (n i) (r i)

-- ---- What was written

module _ {fs : List Encoding} {out out' : List ℕ} {at r : Spot} {out₁ out₁' : List ℕ} (w : Wrote fs out out' at r out₁ out₁') where
  pub nodes_kept : length out₁ ≡ length out
  nodes_kept = ap length w.put.nodes_put ∙ length-sets out at.node (flat_nodes (forest fs))

  pub rows_kept : length out₁' ≡ length out'
  rows_kept = ap length w.put.rows_put ∙ length-sets out' at.row (flat_rows (forest fs))

  pub node_next : r.node ≡ at.node + nodes_in (forest fs) * node_width
  node_next = ap (λ (s : Spot). s.node) w.next

  pub row_next : r.row ≡ at.row + rows_in (forest fs) * row_width
  row_next = ap (λ (s : Spot). s.row) w.next

pub wrote_none : (out out' : List ℕ) (at : Spot) → Wrote [] out out' at at out out'
wrote_none out out' at = record { put = put_none out out' at.node at.row; next = after_none at }

pub wrote_then : {xs ys : List Encoding} {out out' : List ℕ} {at a : Spot} {out₁ out₁' : List ℕ} {b : Spot} {out₂ out₂' : List ℕ} → Fine (forest xs) → Wrote xs out out' at a out₁ out₁' → Wrote ys out₁ out₁' a b out₂ out₂'
    → Wrote (xs ++ ys) out out' at b out₂ out₂'
wrote_then {xs} {ys} {out} {out'} {at} {a} t w w' =
    record {
      put = put_more w.put (node_next w ∙ ap (λ (n : ℕ). at.node + n) (sym (length_nodes (forest xs) t))) (row_next w ∙ ap (λ (n : ℕ). at.row + n) (sym (length_rows (forest xs)))) w'.put;
      next = w'.next ∙ ap (λ (s : Spot). after s ys) w.next ∙ after_append at xs ys;
    }

-- ---- Room for what is to be written

pub record Room (fs : List Encoding) (out out' : List ℕ) (at : Spot) : Type 0 where
  pub sound : Sound fs
  pub nodes_fit : at.node + nodes_in (forest fs) * node_width ≤ length out
  pub rows_fit : at.row + rows_in (forest fs) * row_width ≤ length out'

module _ (xs ys : List Encoding) {out out' : List ℕ} {at : Spot} (r : Room (xs ++ ys) out out' at) where
  pub room_first : Room xs out out' at
  room_first =
      record {
        sound = sound_first xs ys r.sound;
        nodes_fit = omega (arith, r.nodes_fit, nodes_append xs ys);
        rows_fit = omega (arith, r.rows_fit, rows_append xs ys);
      }

  pub room_after : {a : Spot} {out₁ out₁' : List ℕ} → Wrote xs out out' at a out₁ out₁' → Room ys out₁ out₁' a
  room_after w =
      record {
        sound = sound_last xs ys r.sound;
        nodes_fit = omega (arith, r.nodes_fit, nodes_append xs ys, node_next w, nodes_kept w);
        rows_fit = omega (arith, r.rows_fit, rows_append xs ys, row_next w, rows_kept w);
      }

-- ---- Of `all`, `left` is still to be written, from a on

pub record Going (all left : List Encoding) (out out' : List ℕ) (at a : Spot) (out₁ out₁' : List ℕ) : Type 0 where
  pub done : List Encoding
  pub make_up : done ++ left ≡ all
  pub wrote : Wrote done out out' at a out₁ out₁'

pub going_start : (all : List Encoding) (out out' : List ℕ) (at : Spot) → Going all all out out' at at out out'
going_start all out out' at = record { done = []; make_up = refl; wrote = wrote_none out out' at }

module _ {all left : List Encoding} {out out' : List ℕ} {at a : Spot} {out₁ out₁' : List ℕ} (g : Going all left out out' at a out₁ out₁') where
  pub going_room : Room all out out' at → Room left out₁ out₁' a
  going_room r = room_after g.done left (subst (λ (fs : List Encoding). Room fs out out' at) (sym g.make_up) r) g.wrote

  pub going_on : {xs ys : List Encoding} {b : Spot} {out₂ out₂' : List ℕ} → Fine (forest all) → left ≡ xs ++ ys → Wrote xs out₁ out₁' a b out₂ out₂' → Going all ys out out' at b out₂ out₂'
  going_on {xs} {ys} t e w =
      record {
        done = g.done ++ xs;
        make_up = append_assoc g.done xs ys ∙ ap (g.done ++◌) (sym e) ∙ g.make_up;
        wrote = wrote_then (fine_first g.done left (rw g.make_up t)) g.wrote w;
      }

pub going_end : {all : List Encoding} {out out' : List ℕ} {at a : Spot} {out₁ out₁' : List ℕ} → Going all [] out out' at a out₁ out₁' → Wrote all out out' at a out₁ out₁'
going_end {all} {out} {out'} {at} {a} {out₁} {out₁'} g =
    subst (λ (fs : List Encoding). Wrote fs out out' at a out₁ out₁') (sym (append-nil g.done) ∙ g.make_up) g.wrote
