-- The loop that writes padded encodings: what is written so far and what is to come, padded, make up the whole.
-- Assumes nothing.
use mathlib.Core.Path.{◌≡◌, refl, sym, ap, ap₂, subst, ◌∙◌}
use mathlib.Core.Logic.{inl, inr}
use Prim.Native.Nat.{ℕ, ◌+◌, ◌-◌, ◌*◌, ◌≤◌, ◌<◌, max}
use native.Mathlib.Omega.{arith}
use mathlib.Core.List.{List, [], ◌∷◌, ◌++◌, flat_map, append_assoc, append-nil}
use lib.ListN.{length, get_or, take, drop, replicate, length-append, length-take, length-drop}
use lib.Seq.{sets, length-sets}
use Rattle.record.specs.Tree.{Row, Range, Forest, none, node, tops}
use Rattle.lists.specs.Lists.{All}
use Rattle.record.specs.Flat.{row_width, node_width, row_numbers, range_numbers, flat_nodes, flat_rows}
use Rattle.record.specs.WellFormed.{RangeFine, Stores, most_rows}
use Rattle.lists.proofs.All.{all_imp}
use Rattle.record.proofs.Flat.{length_numbers, range_stored, node_width_lem, length_rows}
use Rattle.record.proofs.Walk.{numbers_append}
use Rattle.cut_plan.specs.declared.Direction.{Direction}
use Rattle.cut_plan.specs.declared.Direction.TheVariants.{Left, Right}
use Rattle.pad_rows.specs.declared.PadToken.{PadToken}
use Rattle.pad_write.specs.Padded.{padded}
use Rattle.pad_length.specs.Target.{rows_with}
use Rattle.pad_nodes.specs.Shifted.{padded_ranges}
use Rattle.pad_rows.specs.NewRows.{pad_row, beside, padded_rows}
use Rattle.pad_rows.specs.Promises.{pad_numbers}
use Rattle.pad_write.specs.Promises.{Filled}
use Rattle.pad_nodes.specs.Promises.{padded_node, Shiftable, AskShiftNode}
use Rattle.record.specs.Passing.{ranges_at, followed, NodesToCome, RowsToCome}
use Rattle.pad_write.proofs.Followed.{followed_padded}
use Rattle.record.proofs.Passing.{followed_nodes, followed_rows, nodes_left, coming_size, coming_windows, coming_fits, coming_ranges, coming_next, coming_own, coming_rows_fit, coming_rows_next}
use Rattle.pad_rows.proofs.Pads.{pads_long}
use Rattle.lists.proofs.Writing.{two_sets}
use Rattle.pad_write.proofs.Laws.{length_beside, length_ranges, padded_length, padded_tops, padded_rows_lem}

-- the numbers of rows beside others are beside theirs
beside_numbers : (d : Direction) (new own : List Row) → flat_map row_numbers (beside d new own) ≡ beside d (flat_map row_numbers new) (flat_map row_numbers own)
beside_numbers Left new own = numbers_append new own
beside_numbers Right new own = numbers_append own new

-- a range within so many rows is small
range_small : (n : ℕ) → n ≤ most_rows → (p : Range) → RangeFine n p → Shiftable p
range_small n l p (inl e) = (omega (arith, ap (λ (p : Range). p.present) e), omega (arith, ap (λ (p : Range). p.start) e), omega (arith, ap (λ (p : Range). p.end) e))
range_small n l p (inr (a, b, c)) = (omega arith, omega arith, omega arith)

module _ (target : ℕ) (token : PadToken) (d : Direction) where
  -- ---- The first node's numbers, and then the others'

  module _ {nodes rows : List ℕ} {i from : ℕ} {r : List Row} {q : List Range} {w x : Forest} (h : NodesToCome nodes i (node r q w x)) (k : RowsToCome rows from (node r q w x)) {size count new : ℕ} (s : size ≡ get_or nodes i 0) (c : count ≡ max size target) (n : new ≡ count - size) where
    size_is : size ≡ length r
    size_is = s ∙ coming_size h

    new_is : new ≡ target - length r
    new_is = omega (arith, size_is)

    first_node_long : length (padded_node nodes i count new d) ≡ node_width
    first_node_long = omega (arith, node_width_lem, length_numbers range_stored (padded_ranges d new (ranges_at nodes i)), length_ranges d new (ranges_at nodes i), ap length (coming_ranges h), h.fine.0.places)

    first_node : flat_nodes (padded target token d (node r q w x)) ≡ padded_node nodes i count new d ++ flat_nodes (padded target token d (followed w x))
    unfolding flat_nodes
    first_node =
        let a : length (padded_rows target token d r) ≡ count = omega (arith, padded_length target token d r, size_is) in
        let b : tops (padded target token d w) ≡ get_or nodes (i + 1) 0 = padded_tops target token d w ∙ sym (coming_windows h) in
        let e : padded_ranges d (target - length r) q ≡ padded_ranges d new (ranges_at nodes i) = ap₂ (padded_ranges d) (sym new_is) (sym (coming_ranges h)) in
        let tail : flat_nodes (padded target token d w) ++ flat_nodes (padded target token d x) ≡ flat_nodes (padded target token d (followed w x)) = sym (ap flat_nodes (followed_padded target token d w x) ∙ followed_nodes (padded target token d w) (padded target token d x)) in
        ap₂ (λ (m t : ℕ). m ∷ t ∷ (flat_map range_numbers (padded_ranges d (target - length r) q) ++ (flat_nodes (padded target token d w) ++ flat_nodes (padded target token d x)))) a b
        ∙ ap₂ (λ (q : List Range) (l : List ℕ). count ∷ get_or nodes (i + 1) 0 ∷ (flat_map range_numbers q ++ l)) e tail

    first_rows_long : length (beside d (pad_numbers token new) (take (size * row_width) (drop from rows))) ≡ count * row_width
    first_rows_long =
        omega (arith, size_is, length_beside d (pad_numbers token new) (take (size * row_width) (drop from rows)), pads_long token new, length-take (size * row_width) (drop from rows), length-drop from rows, coming_rows_fit k)

    first_rows_lem : flat_rows (padded target token d (node r q w x)) ≡ beside d (pad_numbers token new) (take (size * row_width) (drop from rows)) ++ flat_rows (padded target token d (followed w x))
    unfolding flat_rows
    first_rows_lem =
        let own : flat_map row_numbers r ≡ take (size * row_width) (drop from rows) = sym (coming_own k) ∙ ap (λ (m : ℕ). take (m * row_width) (drop from rows)) (sym size_is) in
        let e : flat_map row_numbers (padded_rows target token d r) ≡ beside d (pad_numbers token new) (take (size * row_width) (drop from rows)) =
        beside_numbers d (replicate (target - length r) (pad_row token)) r ∙ ap₂ (λ (m : ℕ) (l : List ℕ). beside d (pad_numbers token m) l) (sym new_is) own in
        let tail : flat_rows (padded target token d w) ++ flat_rows (padded target token d x) ≡ flat_rows (padded target token d (followed w x)) = sym (ap flat_rows (followed_padded target token d w x) ∙ followed_rows (padded target token d w) (padded target token d x)) in
        ap₂ ◌++◌ e tail

  -- ---- The loop

  pub record Growing (nodes rows out out' : List ℕ) (f : Forest) (out₁ out₁' : List ℕ) (i from to : ℕ) : Type 0 where
    pub to_come : Forest
    pub coming : NodesToCome nodes i to_come
    pub coming_rows : RowsToCome rows from to_come
    pub nodes_done : List ℕ
    pub nodes_all : flat_nodes (padded target token d f) ≡ nodes_done ++ flat_nodes (padded target token d to_come)
    pub nodes_long : length nodes_done ≡ i
    pub nodes_put : out₁ ≡ sets out 0 nodes_done
    pub rows_done : List ℕ
    pub rows_all : flat_rows (padded target token d f) ≡ rows_done ++ flat_rows (padded target token d to_come)
    pub rows_long : length rows_done ≡ to
    pub rows_put : out₁' ≡ sets out' 0 rows_done

  pub growing_start : {nodes rows : List ℕ} (out out' : List ℕ) {f : Forest} → Stores nodes rows f → Growing nodes rows out out' f out out' 0 0 0
  growing_start out out' {f} s =
      record {
        to_come = f;
        coming = record { is = sym s.nodes_are; on = omega arith; fine = s.well.fine };
        coming_rows = record { is = sym s.rows_are; on = omega arith };
        nodes_done = [];
        nodes_all = refl;
        nodes_long = refl;
        nodes_put = refl;
        rows_done = [];
        rows_all = refl;
        rows_long = refl;
        rows_put = refl;
      }

  module _ {nodes rows out out' : List ℕ} {f : Forest} {out₁ out₁' : List ℕ} {i from to : ℕ} (g : Growing nodes rows out out' f out₁ out₁' i from to) where
    -- the rows that are written, and those that are to come
    rows_come : rows_with target f * row_width ≡ to + rows_with target g.to_come * row_width
    rows_come =
        omega (arith, ap length g.rows_all, length-append g.rows_done (flat_rows (padded target token d g.to_come)), g.rows_long, length_rows (padded target token d f), length_rows (padded target token d g.to_come), padded_rows_lem target token d f, padded_rows_lem target token d g.to_come)

    pub growing_kept : length out₁ ≡ length out
    growing_kept = ap length g.nodes_put ∙ length-sets out 0 g.nodes_done

    pub growing_kept_rows : length out₁' ≡ length out'
    growing_kept_rows = ap length g.rows_put ∙ length-sets out' 0 g.rows_done

    -- what a turn writes has room
    pub record Turn (size : ℕ) : Type 0 where
      pub stands : i + node_width ≤ length nodes
      pub rows_stand : from + size * row_width ≤ length rows
      pub few : max size target ≤ most_rows
      pub asks : AskShiftNode nodes i (max size target - size) out₁
      pub rows_fit : to + max size target * row_width ≤ length out'

    pub growing_turn : i < length nodes → length nodes ≤ length out → rows_with target f ≤ most_rows → rows_with target f * row_width ≤ length out' → Turn (get_or nodes i 0)
    growing_turn l fit few rows_fit = go g.to_come g.coming g.coming_rows rows_come
      where
        go : (y : Forest) → NodesToCome nodes i y → RowsToCome rows from y → rows_with target f * row_width ≡ to + rows_with target y * row_width → Turn (get_or nodes i 0)
        go none h k e = absurd (omega (arith, nodes_left h))
        go (node r q w x) h k e =
            let small : All Shiftable (ranges_at nodes i) = subst (All Shiftable) (sym (coming_ranges h)) (all_imp q (range_small (length r) (omega arith)) h.fine.0.ranges_fine) in
            record {
              stands = coming_fits h;
              rows_stand = omega (arith, coming_size h, coming_rows_fit k);
              few = omega (arith, coming_size h);
              asks = record { stands = coming_fits h; fits = omega (arith, coming_fits h, growing_kept); few = omega (arith, coming_size h); small = small };
              rows_fit = omega (arith, coming_size h);
            }

    -- and then there is one more node
    pub growing_on : i < length nodes → {out₂ out₂' : List ℕ} {size count new : ℕ} → size ≡ get_or nodes i 0 → count ≡ max size target → new ≡ count - size
        → out₂ ≡ sets out₁ i (padded_node nodes i count new d) → out₂' ≡ sets out₁' to (beside d (pad_numbers token new) (take (size * row_width) (drop from rows)))
        → Growing nodes rows out out' f out₂ out₂' (i + node_width) (from + size * row_width) (to + count * row_width)
    growing_on l {out₂} {out₂'} {size} {count} {new} s c n p p' = go g.to_come g.coming g.coming_rows g.nodes_all g.rows_all
      where
        go : (y : Forest) → NodesToCome nodes i y → RowsToCome rows from y → flat_nodes (padded target token d f) ≡ g.nodes_done ++ flat_nodes (padded target token d y) → flat_rows (padded target token d f) ≡ g.rows_done ++ flat_rows (padded target token d y)
            → Growing nodes rows out out' f out₂ out₂' (i + node_width) (from + size * row_width) (to + count * row_width)
        go none h k a b = absurd (omega (arith, nodes_left h))
        go (node r q w x) h k a b =
            let N = padded_node nodes i count new d in
            let R = beside d (pad_numbers token new) (take (size * row_width) (drop from rows)) in
            record {
              to_come = followed w x;
              coming = coming_next h;
              coming_rows = rw (size_is h k s c n) (coming_rows_next k);
              nodes_done = g.nodes_done ++ N;
              nodes_all = a ∙ ap (g.nodes_done ++◌) (first_node h k s c n) ∙ sym (append_assoc g.nodes_done N (flat_nodes (padded target token d (followed w x))));
              nodes_long = omega (arith, length-append g.nodes_done N, g.nodes_long, first_node_long h k s c n);
              nodes_put = two_sets out 0 g.nodes_done N g.nodes_put (omega (arith, g.nodes_long)) p;
              rows_done = g.rows_done ++ R;
              rows_all = b ∙ ap (g.rows_done ++◌) (first_rows_lem h k s c n) ∙ sym (append_assoc g.rows_done R (flat_rows (padded target token d (followed w x))));
              rows_long = omega (arith, length-append g.rows_done R, g.rows_long, first_rows_long h k s c n);
              rows_put = two_sets out' 0 g.rows_done R g.rows_put (omega (arith, g.rows_long)) p';
            }

    pub growing_end : length nodes < i + node_width → Filled (padded target token d f) out out' out₁ out₁'
    unfolding flat_nodes flat_rows
    growing_end l = go g.to_come g.coming g.nodes_all g.rows_all
      where
        go : (y : Forest) → NodesToCome nodes i y → flat_nodes (padded target token d f) ≡ g.nodes_done ++ flat_nodes (padded target token d y) → flat_rows (padded target token d f) ≡ g.rows_done ++ flat_rows (padded target token d y) → Filled (padded target token d f) out out' out₁ out₁'
        go (node r q w x) h a b = absurd (omega (arith, coming_fits h))
        go none h a b = record { nodes_put = g.nodes_put ∙ ap (sets out 0) (sym (a ∙ append-nil g.nodes_done)); rows_put = g.rows_put ∙ ap (sets out' 0) (sym (b ∙ append-nil g.rows_done)) }
