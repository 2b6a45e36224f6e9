-- Windows gathered: the first is the encoding, the others its windows.
-- Assumes nothing.
use mathlib.Core.Path.{◌≡◌, sym, ap, ap₂, ◌∙◌}
use Prim.Native.Nat.{ℕ, ◌+◌, ◌-◌, ◌<◌}
use native.Mathlib.Omega.{arith}
use mathlib.Core.List.{List, [], ◌∷◌, ◌++◌, flat_map, map, append-nil}
use lib.ListN.{length, set, replicate, length-map}
use lib.Seq.{sets}
use Rattle.record.specs.Tree.{Row, Encoding, forest, sequences, absent}
use Rattle.record.specs.Flat.{row_numbers, range_numbers, flat_nodes, flat_rows}
use Rattle.record.proofs.Tree.{listed_forest}
use Rattle.record.specs.declared.Bounds.{Bounds}
use Rattle.cut_windows.specs.Made.{plain, stretch_of, gathered}
use Rattle.record.specs.Standing.{Put}
use Rattle.lists.proofs.Writing.{set_second}

module _ (r : List Row) (fs : List Encoding) where
  gathered_nodes : (l : List ℕ) (a : ℕ) → set (sets l a (flat_nodes (forest (plain r [] ∷ fs)))) (a + 1) (length fs) ≡ sets l a (flat_nodes (forest (gathered (plain r [] ∷ fs) ∷ [])))
  unfolding flat_nodes
  gathered_nodes l a =
      let X = flat_map range_numbers (replicate sequences absent) in
      set_second l a (length r) 0 (length fs) (X ++ flat_nodes (forest fs))
      ∙ ap₂ (λ (k : ℕ) (ys : List ℕ). sets l a (length r ∷ k ∷ (X ++ ys))) (sym (ap length (listed_forest fs))) (sym (append-nil (flat_nodes (forest fs))))

  gathered_rows : flat_rows (forest (plain r [] ∷ fs)) ≡ flat_rows (forest (gathered (plain r [] ∷ fs) ∷ []))
  unfolding flat_rows
  gathered_rows = ap (flat_map row_numbers r ++◌) (sym (append-nil (flat_rows (forest fs))))

pub gathered_put : (R : List Row) (bs : List Bounds) {count : ℕ} {nodes₀ rows₀ nodes₁ rows₁ : List ℕ} {a b : ℕ} → count ≡ length bs → 0 < count → Put (map (stretch_of R) bs) nodes₀ a rows₀ b nodes₁ rows₁ → Put (gathered (map (stretch_of R) bs) ∷ []) nodes₀ a rows₀ b (set nodes₁ (a + 1) (count - 1)) rows₁
gathered_put R [] {count} e k p = absurd (omega arith)
gathered_put R (c ∷ bs) {count} {nodes₀} {rows₀} {nodes₁} {rows₁} {a} {b} e k p =
    let m : count - 1 ≡ length (map (stretch_of R) bs) = omega (arith, length-map bs (stretch_of R)) in
    record {
      nodes_put = ap₂ (λ (l : List ℕ) (k : ℕ). set l (a + 1) k) p.nodes_put m ∙ gathered_nodes (stretch_of R c).rows (map (stretch_of R) bs) nodes₀ a;
      rows_put = p.rows_put ∙ ap (sets rows₀ b) (gathered_rows (stretch_of R c).rows (map (stretch_of R) bs));
    }
