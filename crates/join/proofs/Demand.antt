-- Demand 3: what four calls of `merge_with` leave in the buffers lent to them does not depend on the grouping, save for the
-- order of windows.
-- Assumes nothing.
use Rattle.std.specs.Prelude.{Ok}
use mathlib.Core.Path.{◌≡◌, refl, sym, ap, ap₂, ◌∙◌}
use mathlib.Core.Bool.{Bool}
use mathlib.Core.Logic.{◌⊎◌, inl, inr}
use mathlib.Core.List.{List, [], ◌∷◌}
use Prim.Native.Nat.{ℕ, ◌*◌}
use native.Mathlib.Omega.{arith}
use lib.ListN.{length, take}
use lib.Seq.{take_at}
use Rattle.record.specs.Tree.{Forest, Encoding, listed, forest, windows}
use Rattle.record.specs.Flat.{row_width, node_width, flat_nodes, flat_rows}
use Rattle.record.specs.WellFormed.{nodes_in, rows_in}
use Rattle.record.specs.Read.{read}
use Rattle.record.specs.Standing.{One}
use Rattle.record.specs.declared.Written.{Written}
use Rattle.record.specs.Outcome.{Outcome, refused, done, left, Writes}
use Rattle.record.proofs.Flat.{length_nodes, length_rows}
use Rattle.record.proofs.Read.{found, stored}
use Rattle.join_trees.specs.Outcomes.{join_outcome}
use Rattle.join_trees.proofs.Outcomes.{join_reads}
use Rattle.join_trees.proofs.Demand.{Wrote, FourJoins, Windowless, grouped, grouped_exact}
use Rattle.join.specs.Demand.{Call, result_nodes, result_rows, FourCalls, Same, Grouped, Demand}

-- ---- What one call wrote

-- the numbers of its result are the flat form of what a join wrote
pub record Left (g : Bool) (xs rs ys ss : List ℕ) (c : Call g xs rs ys ss) : Type 0 where
  pub f : Forest
  pub wrote : Wrote g xs rs ys ss f
  pub nodes_are : result_nodes c ≡ flat_nodes f
  pub rows_are : result_rows c ≡ flat_rows f
  pub nodes_long : length (flat_nodes f) ≡ c.node_count * node_width
  pub rows_long : length (flat_rows f) ≡ c.row_count * row_width

module _ {g : Bool} {xs rs ys ss : List ℕ} (c : Call g xs rs ys ss) where
  pub call_left : Left g xs rs ys ss c
  unfolding left
  call_left = go (join_outcome g (read xs rs) (read ys ss) c.nodes c.rows) refl c.called.promised
    where
      go : (o : Outcome) → join_outcome g (read xs rs) (read ys ss) c.nodes c.rows ≡ o → Writes o (Ok (record { nodes = c.node_count; rows = c.row_count })) c.nodes c.rows c.nodes_after c.rows_after → Left g xs rs ys ss c
      go (refused k) e w = absurd (let z : ◌≡◌ {A = ℕ} 0 1 = cc w.answers in omega arith)
      go (done f) e w =
          let told : ◌≡◌ {A = Written} (record { nodes = c.node_count; rows = c.row_count }) (record { nodes = nodes_in f; rows = rows_in f }) = cc w.answers in
          let n : c.node_count ≡ nodes_in f = ap (λ (x : Written). x.nodes) told in
          let m : c.row_count ≡ rows_in f = ap (λ (x : Written). x.rows) told in
          let fine = (stored (flat_nodes f) (flat_rows f) f (join_reads g xs rs ys ss c.nodes c.rows e)).well.fine in
          let nodes_long : length (flat_nodes f) ≡ c.node_count * node_width = length_nodes f fine ∙ ap (◌* node_width) (sym n) in
          let rows_long : length (flat_rows f) ≡ c.row_count * row_width = length_rows f ∙ ap (◌* row_width) (sym m) in
          record {
            f = f;
            wrote = record { out_nodes = c.nodes; out_rows = c.rows; is = e };
            nodes_are = ap (take (c.node_count * node_width)) w.nodes_left ∙ take_at (flat_nodes f) _ _ nodes_long;
            rows_are = ap (take (c.row_count * row_width)) w.rows_left ∙ take_at (flat_rows f) _ _ rows_long;
            nodes_long = nodes_long;
            rows_long = rows_long;
          }

  -- how long it is
  counted : (length (result_nodes c) ≡ c.node_count * node_width) × (length (result_rows c) ≡ c.row_count * row_width)
  counted = let l = call_left in (ap length l.nodes_are ∙ l.nodes_long, ap length l.rows_are ∙ l.rows_long)

windowless : {nodes rows : List ℕ} {E : Encoding} → One nodes rows E → windows E ≡ [] → Windowless nodes rows
windowless {nodes} {rows} {E} h e E' r = let below : E'.below ≡ E.below = cc (found nodes rows (forest (E ∷ [])) h.stores) in ap listed below ∙ e

-- ---- The demand

module _ {g : Bool} {nodesA rowsA nodesB rowsB nodesC rowsC : List ℕ} (four : FourCalls g nodesA rowsA nodesB rowsB nodesC rowsC) where
  ab : Left g nodesA rowsA nodesB rowsB four.a_with_b
  ab = call_left four.a_with_b

  bc : Left g nodesB rowsB nodesC rowsC four.b_with_c
  bc = call_left four.b_with_c

  abc : Left g (result_nodes four.a_with_b) (result_rows four.a_with_b) nodesC rowsC four.ab_with_c
  abc = call_left four.ab_with_c

  a_bc : Left g nodesA rowsA (result_nodes four.b_with_c) (result_rows four.b_with_c) four.a_with_bc
  a_bc = call_left four.a_with_bc

  joins : FourJoins g nodesA rowsA nodesB rowsB nodesC rowsC abc.f a_bc.f
  joins = record {
    ab = ab.f;
    bc = bc.f;
    a_with_b = ab.wrote;
    ab_with_c = rw (ab.nodes_are, ab.rows_are) at abc.wrote;
    b_with_c = bc.wrote;
    a_with_bc = rw (bc.nodes_are, bc.rows_are) at a_bc.wrote;
  }

  module _ {A B C : Encoding} (a : One nodesA rowsA A) (b : One nodesB rowsB B) (c : One nodesC rowsC C) where
    same : (windows A ≡ []) ⊎ (windows B ≡ []) ⊎ (windows C ≡ []) → Same four.ab_with_c four.a_with_bc
    same w =
        let (n, m) = grouped_exact joins (which w) in
        let nodes : result_nodes four.ab_with_c ≡ result_nodes four.a_with_bc = abc.nodes_are ∙ n ∙ sym a_bc.nodes_are in
        let rows : result_rows four.ab_with_c ≡ result_rows four.a_with_bc = abc.rows_are ∙ m ∙ sym a_bc.rows_are in
        record {
          same_nodes = nodes;
          same_rows = rows;
          same_node_count = omega (arith, ap length nodes, (counted four.ab_with_c).0, (counted four.a_with_bc).0);
          same_row_count = omega (arith, ap length rows, (counted four.ab_with_c).1, (counted four.a_with_bc).1);
        }
      where
        which : (windows A ≡ []) ⊎ (windows B ≡ []) ⊎ (windows C ≡ []) → Windowless nodesA rowsA ⊎ Windowless nodesB rowsB ⊎ Windowless nodesC rowsC
        which (inl e) = inl (windowless a e)
        which (inr (inl e)) = inr (inl (windowless b e))
        which (inr (inr e)) = inr (inr (windowless c e))

    both : Grouped A B C four
    both =
        let l = grouped joins in
        record {
          alike = record {
            E = l.E;
            F = l.F;
            left_reads = ap₂ read abc.nodes_are abc.rows_are ∙ l.left_reads;
            right_reads = ap₂ read a_bc.nodes_are a_bc.rows_are ∙ l.right_reads;
            alike = l.alike;
          };
          exact = same;
        }

pub demand : Demand
demand g nodesA rowsA nodesB rowsB nodesC rowsC A B C a b c four = both four a b c
