-- Encodings written one after another.
-- Assumes nothing.
use mathlib.Core.Path.{◌≡◌, refl, sym, ap, ap₂, ◌∙◌}
use Prim.Native.Nat.{ℕ, ◌+◌}
use mathlib.Core.List.{List, [], ◌++◌}
use lib.ListN.{length}
use lib.Seq.{sets}
use Rattle.record.specs.Tree.{Encoding, forest}
use Rattle.record.specs.Flat.{flat_nodes, flat_rows}
use Rattle.record.specs.Standing.{Put}
use Rattle.record.proofs.Flat.{flat_nodes_append, flat_rows_append}
use Rattle.lists.proofs.Sets.{sets_append}

pub put_none : (nodes rows : List ℕ) (a b : ℕ) → Put [] nodes a rows b nodes rows
unfolding flat_nodes flat_rows
put_none nodes rows a b = record { nodes_put = refl; rows_put = refl }

pub put_more : {fs gs : List Encoding} {nodes₀ rows₀ nodes₁ rows₁ nodes₂ rows₂ : List ℕ} {a b a' b' : ℕ} → Put fs nodes₀ a rows₀ b nodes₁ rows₁
    → a' ≡ a + length (flat_nodes (forest fs)) → b' ≡ b + length (flat_rows (forest fs)) → Put gs nodes₁ a' rows₁ b' nodes₂ rows₂ → Put (fs ++ gs) nodes₀ a rows₀ b nodes₂ rows₂
put_more {fs} {gs} {nodes₀} {rows₀} {nodes₁} {rows₁} {nodes₂} {rows₂} {a} {b} {a'} {b'} p ea eb q =
    record {
      nodes_put = q.nodes_put ∙ ap₂ (λ (l : List ℕ) (i : ℕ). sets l i (flat_nodes (forest gs))) p.nodes_put ea ∙ sets_append nodes₀ a (flat_nodes (forest fs)) (flat_nodes (forest gs)) ∙ ap (sets nodes₀ a) (sym (flat_nodes_append fs gs));
      rows_put = q.rows_put ∙ ap₂ (λ (l : List ℕ) (i : ℕ). sets l i (flat_rows (forest gs))) p.rows_put eb ∙ sets_append rows₀ b (flat_rows (forest fs)) (flat_rows (forest gs)) ∙ ap (sets rows₀ b) (sym (flat_rows_append fs gs));
    }
