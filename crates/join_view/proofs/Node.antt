-- What is written for one node of a join, and then for its windows, is the join.
-- Assumes nothing.
use mathlib.Core.Path.{◌≡◌, sym, ap, ap₂, ◌∙◌}
use mathlib.Core.Bool.{Bool}
use mathlib.Core.List.{List, [], ◌∷◌, ◌++◌, map, flat_map, append_assoc, append-nil}
use Prim.Native.Nat.{ℕ, ◌+◌, ◌*◌}
use native.Mathlib.Omega.{arith}
use lib.ListN.{length}
use Rattle.record.specs.Tree.{Encoding, forest, windows, sequences}
use Rattle.record.specs.Flat.{row_width, node_width, row_numbers, range_numbers, flat_nodes, flat_rows}
use Rattle.record.specs.WellFormed.{NodeFine}
use Rattle.record.proofs.Flat.{length_numbers, row_stored, range_stored, node_width_lem}
use Rattle.record.proofs.Walk.{numbers_append}
use Rattle.join_trees.specs.Join.{moved, base, join_rows, join_ranges, join, window_count}
use Rattle.join_trees.proofs.Join.{join_windows}
use Rattle.join_trees.proofs.Rows.{length_join_rows}
use Rattle.join_trees.proofs.Fine.{node_fine}
use Rattle.join_trees.proofs.Written.{join_nodes, join_rows_flat}
use Rattle.join_view.specs.declared.View.{View}
use Rattle.join_view.specs.View.{below, rows_seen, ranges_seen, seen}
use Rattle.join_view.specs.Node.{node_numbers, own_numbers}
use Rattle.join_view.proofs.Seen.{seen_windows, length_rows_seen, tops_seen, node_fine_seen}

module _ (g : Bool) (v : View) (S P : Encoding) where
  pub node_then_windows : node_numbers v S P ++ flat_nodes (forest (join_windows g S (seen v P))) ≡ flat_nodes (forest (join g S (seen v P) ∷ []))
  node_then_windows =
      sym (join_nodes g S (seen v P)
      ∙ ap₂ (λ (n k : ℕ). (length S.rows + n) ∷ window_count (length (windows S)) k ∷ (flat_map range_numbers (join_ranges (length S.rows) S.ranges (ranges_seen v (length P.rows) P.ranges)) ++ flat_nodes (forest (join_windows g S (seen v P)))))
      (length_rows_seen v P.rows)
      (tops_seen (below v) P.below))

  pub rows_then_windows : own_numbers g v S P ++ flat_rows (forest (join_windows g S (seen v P))) ≡ flat_rows (forest (join g S (seen v P) ∷ []))
  rows_then_windows =
      ap (◌++ flat_rows (forest (join_windows g S (seen v P)))) (numbers_append S.rows (map (moved (base g S.rows)) (rows_seen v P.rows)))
      ∙ append_assoc (flat_map row_numbers S.rows) _ _
      ∙ sym (join_rows_flat g S (seen v P))

  -- ---- How many numbers

  pub node_long : NodeFine S.rows S.ranges → NodeFine P.rows P.ranges → length (node_numbers v S P) ≡ node_width
  node_long s p =
      let q = join_ranges (length S.rows) S.ranges (ranges_seen v (length P.rows) P.ranges) in
      let e : length q ≡ sequences = (node_fine g S.rows S.ranges _ _ s (node_fine_seen v p)).places in
      omega (arith, length_numbers range_stored q, node_width_lem)

  pub own_long : length (own_numbers g v S P) ≡ (length S.rows + length P.rows) * row_width
  own_long =
      length_numbers row_stored (join_rows g S.rows (rows_seen v P.rows))
      ∙ ap (◌* row_width) (length_join_rows g S.rows (rows_seen v P.rows) ∙ ap (length S.rows +◌) (length_rows_seen v P.rows))

  -- ---- Without windows

  module _ (s : windows S ≡ []) (p : windows P ≡ []) where
    no_windows : join_windows g S (seen v P) ≡ []
    unfolding flat_map
    no_windows =
        ap₂ (λ (ss ps : List Encoding). flat_map (λ s. join g s (seen v P) ∷ map (join g s) (windows (seen v P))) ss ++ map (join g S) ps) s (seen_windows v P ∙ ap (map (seen (below v))) p)

    pub node_alone : flat_nodes (forest (join g S (seen v P) ∷ [])) ≡ node_numbers v S P
    unfolding flat_nodes
    node_alone =
        sym node_then_windows ∙ ap (λ (ws : List Encoding). node_numbers v S P ++ flat_nodes (forest ws)) no_windows ∙ append-nil (node_numbers v S P)

    pub rows_alone : flat_rows (forest (join g S (seen v P) ∷ [])) ≡ own_numbers g v S P
    unfolding flat_rows
    rows_alone =
        sym rows_then_windows ∙ ap (λ (ws : List Encoding). own_numbers g v S P ++ flat_rows (forest ws)) no_windows ∙ append-nil (own_numbers g v S P)
