-- A batch in which no encoding has windows: how it is told, and how much its fold takes.
-- Assumes nothing.
use mathlib.Core.Path.{◌≡◌, refl, sym, ap, ◌∙◌}
use mathlib.Core.Bool.{Bool, true}
use mathlib.Core.List.{List, [], ◌∷◌}
use Prim.Native.Nat.{ℕ, ◌+◌, ◌*◌, ◌/◌}
use native.Mathlib.Omega.{arith}
use lib.ListN.{length}
use Rattle.record.specs.Tree.{Forest, none, node, Encoding, listed, forest, windows, tops}
use Rattle.record.specs.Flat.{row_width, node_width}
use Rattle.record.specs.WellFormed.{Stores, nodes_in, rows_in, levels}
use Rattle.record.proofs.Counts.{tops_few}
use Rattle.record.proofs.Flat.{length_nodes, length_rows}
use Rattle.join_trees.specs.Join.{join, fold_from, fold}
use Rattle.join_trees.proofs.Join.{join_rows_lem}
use Rattle.join_trees.proofs.Rows.{length_join_rows}
use Rattle.join_size.specs.Promises.{Sizes}
use Rattle.join_trees.proofs.Windowless.{no_windows, join_plain}

-- ---- How it is told: it has as many nodes as encodings

no_nodes : (f : Forest) → nodes_in f ≡ 0 → rows_in f ≡ 0
no_nodes none e = refl
no_nodes (node r q w x) e = absurd (omega arith)

-- ---- Its fold

-- one node of n rows
record Single (E : Encoding) (n : ℕ) : Type 0 where
  nodes_one : nodes_in (forest (E ∷ [])) ≡ 1
  rows_all : rows_in (forest (E ∷ [])) ≡ n
  levels_one : levels (forest (E ∷ [])) ≡ 1

single : (E : Encoding) → length (windows E) ≡ 0 → Single E (length E.rows)
single E e =
    let p = no_windows E e in
    record {
      nodes_one = ap (λ (F : Encoding). nodes_in (forest (F ∷ []))) p;
      rows_all = ap (λ (F : Encoding). rows_in (forest (F ∷ []))) p ∙ omega arith;
      levels_one = ap (λ (F : Encoding). levels (forest (F ∷ []))) p;
    }

module _ (g : Bool) where
  fold_single : (S : Encoding) (f : Forest) → length (windows S) ≡ 0 → nodes_in f ≡ tops f → Single (fold_from g S (listed f)) (length S.rows + rows_in f)
  fold_single S none s e = let t = single S s in record { nodes_one = t.nodes_one; rows_all = omega (arith, t.rows_all); levels_one = t.levels_one }
  fold_single S (node r q w x) s e =
      let P : Encoding = record { rows = r; ranges = q; below = w } in
      let z : nodes_in w ≡ 0 = omega (arith, tops_few x) in
      let p : length (windows P) ≡ 0 = omega (arith, tops_few w) in
      let j = join_plain g S P s p in
      let t = fold_single (join g S P) x (ap (λ (E : Encoding). length (windows E)) j) (omega (arith, tops_few x)) in
      let n : length (join g S P).rows ≡ length S.rows + length r = ap length (join_rows_lem g S P) ∙ length_join_rows g S.rows r in
      record { nodes_one = t.nodes_one; rows_all = omega (arith, t.rows_all, no_nodes w z); levels_one = t.levels_one }

  pub fold_plain_sizes : {nodes rows : List ℕ} {f : Forest} (count : ℕ) → Stores nodes rows f → count ≡ tops f → length nodes ≡ count * node_width → Sizes (fold g (listed f)) (record { fits = true; nodes = 1; rows = length rows / row_width })
  fold_plain_sizes {nodes} {rows} {f} count s c e =
      let n : length nodes ≡ nodes_in f * node_width = ap length (sym s.nodes_are) ∙ length_nodes f s.well.fine in
      let m : length rows ≡ rows_in f * row_width = ap length (sym s.rows_are) ∙ length_rows f in
      let t = fold_single _ f refl (omega arith) in
      record {
        fitting = λ _. record {
          nodes = sym t.nodes_one;
          rows = omega (arith, t.rows_all);
          limits = record { few_nodes = omega (arith, t.nodes_one); few_rows = omega (arith, t.rows_all, s.well.fits.few_rows); few_levels = omega (arith, t.levels_one) };
        };
        too_large = λ z. absurd (let y : ◌≡◌ {A = ℕ} 0 1 = cc in omega arith);
      }
