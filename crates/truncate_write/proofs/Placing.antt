-- An encoding where it stands, and written: as it is, and below an empty one.
-- Assumes nothing.
use mathlib.Core.Path.{◌≡◌, sym, ap, ◌∙◌}
use Prim.Native.Nat.{ℕ, ◌+◌, ◌*◌}
use mathlib.Core.List.{List, [], ◌∷◌, flat_map, append-nil}
use lib.ListN.{take, drop}
use lib.Seq.{sets}
use Rattle.record.specs.Tree.{Encoding, forest}
use Rattle.record.specs.Flat.{row_width, node_width, flat_nodes, flat_rows}
use Rattle.lists.proofs.Sets.{sets_append}
use Rattle.record_extent.specs.declared.Extent.{Extent}
use Rattle.record_extent.specs.Size.{size_of}
use Rattle.cut_windows.specs.Made.{plain}
use Rattle.record.specs.Standing.{Here, Put}
use Rattle.record.proofs.Here.{here_nodes, here_rows}
use Rattle.cut_windows.specs.Promises.{head}
use Rattle.cut_windows.proofs.Heads.{flat_plain}

-- ---- An encoding where it stands

module _ {nodes rows : List ℕ} {i j : ℕ} {E : Encoding} (h : Here nodes rows i j (forest (E ∷ []))) where
  -- copied as it is
  pub copy_put : {own : Extent} {nodes₀ rows₀ nodes₁ rows₁ : List ℕ} {a b : ℕ} → own ≡ size_of (forest (E ∷ []))
      → nodes₁ ≡ sets nodes₀ a (take (own.nodes * node_width) (drop i nodes)) → rows₁ ≡ sets rows₀ b (take (own.rows * row_width) (drop j rows))
      → Put (E ∷ []) nodes₀ a rows₀ b nodes₁ rows₁
  copy_put {own} {nodes₀} {rows₀} {nodes₁} {rows₁} {a} {b} e n r =
      record {
        nodes_put = n ∙ ap (λ (s : Extent). sets nodes₀ a (take (s.nodes * node_width) (drop i nodes))) e ∙ ap (sets nodes₀ a) (here_nodes h);
        rows_put = r ∙ ap (λ (s : Extent). sets rows₀ b (take (s.rows * row_width) (drop j rows))) e ∙ ap (sets rows₀ b) (here_rows h);
      }

-- ---- Below an empty one

pub emptied_put : {E : Encoding} {nodes₀ rows₀ nodes₁ nodes₂ rows₂ : List ℕ} {a b : ℕ} → nodes₁ ≡ sets nodes₀ a (head 0 1) → Put (E ∷ []) nodes₁ (a + node_width) rows₀ b nodes₂ rows₂ → Put (plain [] (E ∷ []) ∷ []) nodes₀ a rows₀ b nodes₂ rows₂
unfolding flat_rows flat_map
emptied_put {E} {nodes₀} {rows₀} {nodes₁} {nodes₂} {rows₂} {a} {b} n p =
    record {
      nodes_put = p.nodes_put ∙ ap (λ (l : List ℕ). sets l (a + node_width) (flat_nodes (forest (E ∷ [])))) n ∙ sets_append nodes₀ a (head 0 1) (flat_nodes (forest (E ∷ []))) ∙ ap (sets nodes₀ a) (sym (flat_plain [] (E ∷ [])));
      rows_put = p.rows_put ∙ ap (sets rows₀ b) (sym (append-nil (flat_rows (forest (E ∷ [])))));
    }
