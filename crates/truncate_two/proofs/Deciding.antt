-- What becomes of two encodings that are to be cut: each refusal, and the result.
-- Assumes nothing.
use Rattle.std.specs.Prelude.{Ok}
use mathlib.Core.Path.{◌≡◌, sym, ap, ap₂, ◌∙◌}
use mathlib.Core.Bool.{Bool, true, false, ◌||◌, cond}
use Prim.Native.Nat.{ℕ, ◌*◌}
use native.Mathlib.Omega.{arith}
use mathlib.Core.List.{List, [], ◌∷◌}
use lib.ListN.{length, get_or}
use Rattle.record.specs.Tree.{Encoding, Forest, forest}
use Rattle.record.specs.Flat.{row_width, node_width}
use Rattle.record.specs.Standing.{Here, Put}
use Rattle.record.specs.Outcome.{refused, done, in_room, Writes}
use Rattle.record.specs.declared.Refusal.TheVariants.{NoRoom, Stride}
use Rattle.record.proofs.Flat.{length_nodes, length_rows}
use Rattle.record.proofs.Here.{here_size}
use Rattle.record.proofs.Outcome.{writes_done}
use Rattle.cut_plan.specs.declared.Direction.{Direction}
use Rattle.record_extent.specs.declared.Extent.{Extent}
use Rattle.record_extent.specs.Size.{size_of, roomy}
use Rattle.record_extent.proofs.Room.{room_by_size, roomy_fits}
use Rattle.truncate_size.specs.Size.{size_after, stride_refused}
use Rattle.truncate_write.specs.Truncated.{truncated}
use Rattle.truncate_write.proofs.Sizes.{truncated_size}
use Rattle.truncate_write.proofs.Fineness.{truncated_fine}
use Rattle.truncate_two.specs.Promises.{together, Small, Pair}
use Rattle.truncate_both.specs.Promises.{Two, AskTwo}
use Rattle.truncate_two.specs.CutBoth.{cut_both_outcome}
use Rattle.record_extent.proofs.Pair.{pair_here, few_held, second_here}
use Rattle.truncate_two.proofs.Sizes.{together_size, after_small}
use Rattle.truncate_both.proofs.Placing.{first_size}

-- ---- Where they stand

-- what is cut of an encoding that stands there holds little enough to add up
pub here_small : {nodes rows : List ℕ} {i j : ℕ} {E : Encoding} {own size : Extent} (max stride : ℕ) → Here nodes rows i j (forest (E ∷ [])) → own ≡ size_of (forest (E ∷ [])) → size ≡ size_after (get_or nodes i 0) max stride own → Small size
here_small {nodes} {rows} {i} {j} {E} {own} {size} max stride h e z =
    let f = few_held h e in
    rw z (after_small (get_or nodes i 0) max stride own (omega (arith, here_size h, h.well.fits.few_rows)) (omega (arith, f.0)) f.1)

module _ {nodes rows : List ℕ} {own : Extent} {E F : Encoding} (h : Pair nodes rows own E F) where
  both_here : Here nodes rows 0 0 (forest (E ∷ F ∷ []))
  both_here = pair_here h.stored

  pub other_here : Here nodes rows (own.nodes * node_width) (own.rows * row_width) (forest (F ∷ []))
  other_here = second_here both_here h.measured

  pub other_rows : get_or nodes (own.nodes * node_width) 0 ≡ length F.rows
  other_rows = here_size other_here

  module _ (n m stride : ℕ) where
    -- "3 (either encoding)"
    module _ (out out' : List ℕ) (d : Direction) where
      outcome_tests : cut_both_outcome out out' n m stride d E F ≡ cond (stride_refused (get_or nodes 0 0) n stride || stride_refused (get_or nodes (own.nodes * node_width) 0) m stride) (refused Stride) (in_room out out' (forest (truncated n stride d E ∷ truncated m stride d F ∷ [])))
      unfolding cut_both_outcome
      outcome_tests =
          ap₂ (λ (a b : ℕ). cond (stride_refused a n stride || stride_refused b m stride) (refused Stride) (in_room out out' (forest (truncated n stride d E ∷ truncated m stride d F ∷ [])))) (sym (here_size both_here)) (sym other_rows)

      pub first_refused : stride_refused (get_or nodes 0 0) n stride ≡ true → cut_both_outcome out out' n m stride d E F ≡ refused Stride
      first_refused t = outcome_tests ∙ rw t

      pub second_refused : stride_refused (get_or nodes 0 0) n stride ≡ false → stride_refused (get_or nodes (own.nodes * node_width) 0) m stride ≡ true → cut_both_outcome out out' n m stride d E F ≡ refused Stride
      second_refused t u = outcome_tests ∙ rw (t, u)

    -- neither is
    pub both_two : {other kept : Extent} → other ≡ size_of (forest (F ∷ [])) → kept ≡ size_after (get_or nodes 0 0) n stride own → stride_refused (get_or nodes 0 0) n stride ≡ false → stride_refused (get_or nodes (own.nodes * node_width) 0) m stride ≡ false → Two nodes rows own other kept n m stride E F
    both_two o k t u =
        let a = here_size both_here in
        record {
          here = both_here;
          own_is = h.measured;
          other_is = o;
          kept_is = k ∙ ap (λ (x : ℕ). size_after x n stride own) a;
          taken = ap (λ (x : ℕ). stride_refused x n stride) (sym a) ∙ t;
          other_taken = ap (λ (x : ℕ). stride_refused x m stride) (sym other_rows) ∙ u;
        }

-- ---- The result

module _ {nodes rows : List ℕ} {own other kept : Extent} {n m stride : ℕ} {E F : Encoding} (t : Two nodes rows own other kept n m stride E F) (d : Direction) (out out' : List ℕ) {size : Extent} (z : size ≡ together kept (size_after (length F.rows) m stride other)) where
  abbrev result : Forest
  result = forest (truncated n stride d E ∷ truncated m stride d F ∷ [])

  result_size : size_of result ≡ size
  result_size =
      together_size (truncated n stride d E) (truncated m stride d F)
      ∙ ap₂ together (sym (first_size t d)) (truncated_size m stride d F t.other_taken ∙ ap (size_after (length F.rows) m stride) (sym t.other_is)) ∙ sym z

  outcome_room : cut_both_outcome out out' n m stride d E F ≡ cond (roomy size (length out) (length out')) (done result) (refused NoRoom)
  unfolding cut_both_outcome
  outcome_room =
      rw (t.taken, t.other_taken)
      (room_by_size out out' result ∙ ap (λ (s : Extent). cond (roomy s (length out) (length out')) (done result) (refused NoRoom)) result_size)

  pub both_no_room : roomy size (length out) (length out') ≡ false → cut_both_outcome out out' n m stride d E F ≡ refused NoRoom
  both_no_room r = outcome_room ∙ ap (λ (b : Bool). cond b (done result) (refused NoRoom)) r

  module _ (r : roomy size (length out) (length out') ≡ true) where
    pub both_asks : AskTwo nodes rows own other kept n m stride out out'
    both_asks =
        let f = roomy_fits size (length out) (length out') r in
        record {
          E = E;
          F = F;
          two = t;
          nodes_fit = omega (arith, f.0, ap (λ (s : Extent). s.nodes) z);
          rows_fit = omega (arith, f.1, ap (λ (s : Extent). s.rows) z);
        }

    pub both_writes : {nodes₁ rows₁ : List ℕ} → Put (truncated n stride d E ∷ truncated m stride d F ∷ []) out 0 out' 0 nodes₁ rows₁ → Writes (cut_both_outcome out out' n m stride d E F) (Ok (record { nodes = size.nodes; rows = size.rows })) out out' nodes₁ rows₁
    both_writes p =
        let f = roomy_fits size (length out) (length out') r in
        let g = t.here.well.fine in
        let a = truncated_fine n stride d E (g.0, g.1) in
        let b = truncated_fine m stride d F (g.2.0, g.2.1) in
        writes_done result (outcome_room ∙ ap (λ (b : Bool). cond b (done result) (refused NoRoom)) r)
        (omega (arith, f.0, ap (λ (s : Extent). s.nodes) result_size, length_nodes result (a.0, a.1, (b.0, b.1, tt))))
        (omega (arith, f.1, ap (λ (s : Extent). s.rows) result_size, length_rows result))
        (ap (λ (s : Extent). Ok (record { nodes = s.nodes; rows = s.rows })) (sym result_size))
        p.nodes_put
        p.rows_put
