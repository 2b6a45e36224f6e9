-- What a join writes: the numbers of its own node and rows, then those of its windows.
-- Assumes nothing.
use mathlib.Core.Path.{◌≡◌, refl, ap, ap₂, sym, ◌∙◌}
use mathlib.Core.Bool.{Bool}
use mathlib.Core.List.{List, [], ◌∷◌, ◌++◌, map, flat_map, append_assoc, append-nil}
use Prim.Native.Nat.{ℕ, zero, suc, ◌+◌, ◌<◌}
use native.Mathlib.Omega.{arith}
use lib.ListN.{length, get_or}
use Rattle.record.specs.Tree.{Range, Encoding, forest, windows}
use Rattle.record.specs.Flat.{row_numbers, range_numbers, flat_nodes, flat_rows}
use Rattle.record.proofs.Tree.{listed_forest}
use Rattle.record.proofs.Walk.{numbers_append}
use Rattle.join_trees.specs.Join.{moved, base, choose, join_ranges, join, window_count}
use Rattle.join_trees.proofs.Join.{join_windows, join_node, join_windows_lem}
use Rattle.join_trees.proofs.Rows.{length_join_rows}
use Rattle.join_trees.proofs.Sizes.{length_join}

-- The range of sequence k.
pub range_at_lem : (n : ℕ) (ss ps : List Range) (k : ℕ) (d : Range) → k < length ss → k < length ps → get_or (join_ranges n ss ps) k d ≡ choose (get_or ps k d).present n (get_or ss k d) (get_or ps k d)
range_at_lem n [] ps k d a b = absurd (omega arith)
range_at_lem n (s ∷ ss) [] k d a b = absurd (omega arith)
range_at_lem n (s ∷ ss) (p ∷ ps) zero d a b = refl
range_at_lem n (s ∷ ss) (p ∷ ps) (suc k) d a b = range_at_lem n ss ps k d (omega arith) (omega arith)

module _ (g : Bool) where
  pub join_nodes : (S P : Encoding)
      → flat_nodes (forest (join g S P ∷ []))
      ≡ (length S.rows + length P.rows) ∷ window_count (length (windows S)) (length (windows P)) ∷ (flat_map range_numbers (join_ranges (length S.rows) S.ranges P.ranges) ++ flat_nodes (forest (join_windows g S P)))
  unfolding flat_nodes
  join_nodes S P =
      let W = forest (join_windows g S P) in
      ap (λ (E : Encoding). flat_nodes (forest (E ∷ []))) (join_node g S P)
      ∙ ap₂ (λ (n k : ℕ). n ∷ k ∷ (flat_map range_numbers (join_ranges (length S.rows) S.ranges P.ranges) ++ (flat_nodes W ++ [])))
      (length_join_rows g S.rows P.rows)
      (ap length (listed_forest (join_windows g S P)) ∙ sym (ap length (join_windows_lem g S P)) ∙ length_join g S P)
      ∙ simp append-nil

  pub join_rows_flat : (S P : Encoding)
      → flat_rows (forest (join g S P ∷ []))
      ≡ flat_map row_numbers S.rows ++ (flat_map row_numbers (map (moved (base g S.rows)) P.rows) ++ flat_rows (forest (join_windows g S P)))
  unfolding flat_rows
  join_rows_flat S P =
      ap (λ (E : Encoding). flat_rows (forest (E ∷ []))) (join_node g S P)
      ∙ ap (◌++ (flat_rows (forest (join_windows g S P)) ++ [])) (numbers_append S.rows (map (moved (base g S.rows)) P.rows))
      ∙ simp (append-nil, append_assoc)
