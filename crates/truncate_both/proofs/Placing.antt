-- Two encodings where they stand, each cut and written after the one before.
-- Assumes nothing.
use mathlib.Core.Path.{◌≡◌, sym, ap, ◌∙◌}
use Prim.Native.Nat.{ℕ, ◌*◌}
use native.Mathlib.Omega.{arith}
use mathlib.Core.List.{List, [], ◌∷◌}
use lib.ListN.{length}
use Rattle.record.specs.Tree.{Encoding, forest}
use Rattle.record.specs.Flat.{row_width, node_width}
use Rattle.record.specs.Standing.{Put}
use Rattle.record.proofs.Flat.{length_nodes, length_rows}
use Rattle.record.proofs.Here.{here_first}
use Rattle.record.proofs.Put.{put_more}
use Rattle.cut_plan.specs.declared.Direction.{Direction}
use Rattle.record_extent.specs.declared.Extent.{Extent}
use Rattle.record_extent.specs.Size.{size_of}
use Rattle.truncate_size.specs.Size.{size_after}
use Rattle.truncate_write.specs.Truncated.{truncated}
use Rattle.truncate_write.specs.Promises.{AskTruncating}
use Rattle.truncate_write.proofs.Sizes.{truncated_size}
use Rattle.truncate_write.proofs.Fineness.{truncated_fine}
use Rattle.truncate_both.specs.Promises.{Two, AskTwo}
use Rattle.record_extent.proofs.Pair.{second_here}

-- ---- What each cut asks

module _ {nodes rows : List ℕ} {own other kept : Extent} {n m stride : ℕ} {nodes' rows' : List ℕ} (q : AskTwo nodes rows own other kept n m stride nodes' rows') where
  pub first_asks : AskTruncating nodes rows 0 0 own n stride nodes' 0 rows' 0
  first_asks =
      let t = q.two in
      record {
        E = q.E;
        here = here_first t.here;
        measured = t.own_is;
        taken = t.taken;
        nodes_fit = omega (arith, q.nodes_fit, ap (λ (s : Extent). s.nodes) t.kept_is);
        rows_fit = omega (arith, q.rows_fit, ap (λ (s : Extent). s.rows) t.kept_is);
      }

  pub second_asks : {nodes'' rows'' : List ℕ} → length nodes'' ≡ length nodes' → length rows'' ≡ length rows' → AskTruncating nodes rows (own.nodes * node_width) (own.rows * row_width) other m stride nodes'' (kept.nodes * node_width) rows'' (kept.rows * row_width)
  second_asks a b =
      let t = q.two in
      record {
        E = q.F;
        here = second_here t.here t.own_is;
        measured = t.other_is;
        taken = t.other_taken;
        nodes_fit = omega (arith, q.nodes_fit);
        rows_fit = omega (arith, q.rows_fit);
      }

-- ---- What was written

module _ {nodes rows : List ℕ} {own other kept : Extent} {n m stride : ℕ} {E F : Encoding} (t : Two nodes rows own other kept n m stride E F) (d : Direction) where
  pub first_size : kept ≡ size_of (forest (truncated n stride d E ∷ []))
  first_size = t.kept_is ∙ ap (size_after (length E.rows) n stride) t.own_is ∙ sym (truncated_size n stride d E t.taken)

  pub two_put : {nodes₀ rows₀ nodes₁ rows₁ nodes₂ rows₂ : List ℕ} → Put (truncated n stride d E ∷ []) nodes₀ 0 rows₀ 0 nodes₁ rows₁ → Put (truncated m stride d F ∷ []) nodes₁ (kept.nodes * node_width) rows₁ (kept.rows * row_width) nodes₂ rows₂
      → Put (truncated n stride d E ∷ truncated m stride d F ∷ []) nodes₀ 0 rows₀ 0 nodes₂ rows₂
  two_put p r =
      let fine = truncated_fine n stride d E (t.here.well.fine.0, t.here.well.fine.1) in
      put_more p
      (omega (arith, ap (λ (s : Extent). s.nodes) first_size, length_nodes (forest (truncated n stride d E ∷ [])) (fine.0, fine.1, tt)))
      (omega (arith, ap (λ (s : Extent). s.rows) first_size, length_rows (forest (truncated n stride d E ∷ []))))
      r
