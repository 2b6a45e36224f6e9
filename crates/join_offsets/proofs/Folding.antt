-- A fold that grows, encoding by encoding: what is folded so far fits, and its largest last offset end is known.
-- Assumes nothing.
use mathlib.Core.Path.{◌≡◌, refl, sym, ap, ◌∙◌}
use mathlib.Core.Bool.{true, false, ◌&&◌}
use Prim.Native.Nat.{ℕ, ◌+◌, ◌*◌, ◌≤◌, ◌<◌}
use native.Mathlib.Omega.{arith}
use mathlib.Core.List.{List, [], ◌∷◌}
use lib.Dec.{leb}
use lib.ListN.{length}
use borrow.Author.Tests.{le-leb, lt-leb}
use Rattle.record.specs.Tree.{Row, Forest, none, node, Encoding, listed, forest, empty}
use Rattle.record.specs.Flat.{row_width, node_width}
use Rattle.record.specs.WellFormed.{Stores, nodes_in, rows_in}
use Rattle.record.specs.Walk.{all_rows}
use Rattle.record.specs.Standing.{Here}
use Rattle.record.proofs.Flat.{length_nodes}
use Rattle.record.proofs.Here.{here_rows_fit, here_first, here_next}
use Rattle.record_extent.specs.declared.Extent.{Extent}
use Rattle.record_extent.specs.Size.{size_of}
use Rattle.record_extent.specs.Promises.{Stands}
use Rattle.join_trees.specs.Join.{join}
use Rattle.join_trees.specs.Offsets.{most_offset, join_fits, steps_fit, fold_fits}
use Rattle.join_trees.proofs.Offsets.{OffsetsFit, tells_offsets}
use Rattle.join_reach.specs.Reach.{largest_offset, largest, largest_base}
use Rattle.join_reach.specs.Promises.{RowsFrom, NodesFrom}
use Rattle.join_offsets.proofs.Joined.{base_fits, base_joins, join_fits_growing}
use Rattle.join_offsets.proofs.Given.{offset_all, stores_here, nodes_from, rows_from_lem, here_stands}

-- of the batch f the encodings before places i and j are folded, those from there on are to come
pub record Folded (nodes rows : List ℕ) (f : Forest) (base i j : ℕ) : Type 0 where
  pub so_far : Encoding
  pub fits : OffsetsFit (forest (so_far ∷ []))
  pub base_is : base ≡ largest_base (forest (so_far ∷ []))
  pub to_come : Forest
  pub here : Here nodes rows i j to_come
  pub ends : i + nodes_in to_come * node_width ≡ length nodes
  pub steps : fold_fits true (listed f) ≡ steps_fit true so_far (listed to_come)

pub folded_start : {nodes rows : List ℕ} {f : Forest} → Stores nodes rows f → Folded nodes rows f 0 0 0
unfolding largest
folded_start {nodes} {rows} {f} s =
    record {
      so_far = empty;
      fits = (tt, tt, tt);
      base_is = refl;
      to_come = f;
      here = stores_here s;
      ends = omega (arith, ap length s.nodes_are, length_nodes f s.well.fine);
      steps = refl;
    }

-- the base fits
pub folded_small : {nodes rows : List ℕ} {f : Forest} {base i j : ℕ} → Folded nodes rows f base i j → base ≤ most_offset
folded_small s = omega (arith, s.base_is, base_fits (forest (s.so_far ∷ [])) s.fits)

-- The encoding that is next, where nodes are left, and those after it.
pub record Next (nodes rows : List ℕ) (f : Forest) (base i j : ℕ) : Type 0 where
  pub folded : Folded nodes rows f base i j
  pub E : Encoding
  pub others : Forest
  pub here : Here nodes rows i j (node E.rows E.ranges E.below others)
  pub ends : i + nodes_in (node E.rows E.ranges E.below others) * node_width ≡ length nodes
  pub steps : fold_fits true (listed f) ≡ steps_fit true folded.so_far (E ∷ listed others)

pub next : {nodes rows : List ℕ} {f : Forest} {base i j : ℕ} → Folded nodes rows f base i j → i < length nodes → Next nodes rows f base i j
next {nodes} {rows} {f} {base} {i} {j} s l = go s.to_come s.here s.ends s.steps
  where
    go : (y : Forest) → Here nodes rows i j y → i + nodes_in y * node_width ≡ length nodes → fold_fits true (listed f) ≡ steps_fit true s.so_far (listed y) → Next nodes rows f base i j
    go none h e t = absurd (omega arith)
    go (node r q w x) h e t = record { folded = s; E = record { rows = r; ranges = q; below = w }; others = x; here = h; ends = e; steps = t }

module _ {nodes rows : List ℕ} {f : Forest} {base i j : ℕ} (n : Next nodes rows f base i j) where
  next_first : Here nodes rows i j (forest (n.E ∷ []))
  next_first = here_first n.here

  pub next_stands : Stands nodes i 1 (forest (n.E ∷ []))
  next_stands = here_stands next_first

  -- its nodes and rows, by its size
  module _ {size : Extent} (e : size ≡ size_of (forest (n.E ∷ []))) where
    nodes_are : size.nodes ≡ nodes_in (forest (n.E ∷ []))
    nodes_are = ap (λ (s : Extent). s.nodes) e

    rows_are : size.rows ≡ rows_in (forest (n.E ∷ []))
    rows_are = ap (λ (s : Extent). s.rows) e

    pub next_nodes : NodesFrom nodes rows i j size.nodes (forest (n.E ∷ []))
    next_nodes = nodes_from next_first nodes_are

    pub next_rows : RowsFrom rows j size.rows (all_rows (forest (n.E ∷ [])))
    next_rows = rows_from_lem next_first rows_are

    pub next_there : (0 < size.nodes) × (i + size.nodes * node_width ≤ length nodes) × (j + size.rows * row_width ≤ length rows)
    next_there = (omega (arith, nodes_are), omega (arith, nodes_are, n.ends), omega (arith, rows_are, here_rows_fit next_first))

  -- its largest offset
  pub next_offset : {size : Extent} {o : ℕ} → size ≡ size_of (forest (n.E ∷ [])) → ((R : List Row) → RowsFrom rows j size.rows R → o ≡ largest_offset R) → o ≡ largest largest_offset (forest (n.E ∷ []))
  next_offset e is = is (all_rows (forest (n.E ∷ []))) (next_rows e) ∙ offset_all (forest (n.E ∷ []))

  joins_within : join_fits true n.folded.so_far n.E ≡ leb (base + largest largest_offset (forest (n.E ∷ []))) most_offset
  joins_within = join_fits_growing n.folded.so_far n.E n.folded.fits ∙ ap (λ (k : ℕ). leb (k + largest largest_offset (forest (n.E ∷ []))) most_offset) (sym n.folded.base_is)

  -- joined with it, an offset is too large: so the fold does not fit
  pub folded_stop : most_offset < base + largest largest_offset (forest (n.E ∷ [])) → false ≡ fold_fits true (listed f)
  unfolding steps_fit
  folded_stop l = sym (n.steps ∙ ap (◌&& steps_fit true (join true n.folded.so_far n.E) (listed n.others)) (joins_within ∙ lt-leb _ _ l))

  -- joined with it, no offset is
  pub folded_more : {size : Extent} {b : ℕ} → size ≡ size_of (forest (n.E ∷ [])) → b ≡ largest_base (forest (n.E ∷ [])) → base + largest largest_offset (forest (n.E ∷ [])) ≤ most_offset → Folded nodes rows f (base + b) (i + size.nodes * node_width) (j + size.rows * row_width)
  unfolding steps_fit
  folded_more {size} {b} e eb l =
      let S = n.folded.so_far in
      let yes : join_fits true S n.E ≡ true = joins_within ∙ le-leb _ _ l in
      record {
        so_far = join true S n.E;
        fits = (tells_offsets (forest (join true S n.E ∷ []))).so yes;
        base_is = omega (arith, n.folded.base_is, base_joins S n.E);
        to_come = n.others;
        here = rw (nodes_are e, rows_are e) (here_next n.here);
        ends = omega (arith, nodes_are e, n.ends);
        steps = n.steps ∙ ap (◌&& steps_fit true (join true S n.E) (listed n.others)) yes;
      }

-- Nothing is left.
pub folded_end : {nodes rows : List ℕ} {f : Forest} {base i j : ℕ} → Folded nodes rows f base i j → length nodes ≤ i → true ≡ fold_fits true (listed f)
unfolding steps_fit
folded_end {nodes} {rows} {f} {base} {i} {j} s l = go s.to_come s.ends s.steps
  where
    go : (y : Forest) → i + nodes_in y * node_width ≡ length nodes → fold_fits true (listed f) ≡ steps_fit true s.so_far (listed y) → true ≡ fold_fits true (listed f)
    go none e t = sym t
    go (node r q w x) e t = absurd (omega arith)
