-- A run joined at once: where its fold stands, and that the join was written.
-- Assumes nothing.
use mathlib.Core.Path.{◌≡◌, sym, ap, subst, ◌∙◌}
use mathlib.Core.Bool.{Bool}
use mathlib.Core.List.{List, [], ◌∷◌, ◌++◌}
use Prim.Native.Nat.{ℕ, ◌+◌, ◌*◌, ◌-◌, ◌≤◌}
use native.Mathlib.Omega.{arith}
use lib.ListN.{length, take, drop}
use lib.Seq.{sets, length-sets}
use Rattle.lists.proofs.Sets.{sets_over}
use Rattle.lists.proofs.Written.{sets_stand}
use Rattle.record.specs.Tree.{Encoding, listed, forest}
use Rattle.record.specs.Flat.{row_width, node_width, flat_nodes, flat_rows}
use Rattle.record.specs.WellFormed.{rows_in}
use Rattle.record.specs.Standing.{spot, Here, Put}
use Rattle.record.specs.Outcome.{Room}
use Rattle.record.specs.declared.Spot.{Spot}
use Rattle.record.proofs.Flat.{length_rows}
use Rattle.record.proofs.Tree.{listed_forest}
use Rattle.record.proofs.Here.{here_rows}
use Rattle.record.proofs.Outcome.{room_lengths}
use Rattle.join_trees.specs.Join.{join, fold}
use Rattle.join_trees.specs.Offsets.{join_fits}
use Rattle.join_view.specs.declared.View.TheVariants.{Plain}
use Rattle.join_view.specs.View.{seen}
use Rattle.join_view.proofs.Seen.{seen_plain}
use Rattle.fold_over.specs.Promises.{AskStep}
use Rattle.fold_over.proofs.Writing.{room_kept}
use Rattle.fold_join.specs.Promises.{AskRun}
use Rattle.fold_join.proofs.Tails.{tail_written, sets_over_both}
use Rattle.fold_join.proofs.Asked.{folded, joined, well, beside, beside_fits, tail, fold_room}

module _ {S : Encoding} {Ps : List Encoding} {nodes rows : List ℕ} {p end : Spot} {g : Bool} {out out' working working' : List ℕ} (a : AskRun S Ps nodes rows p end g out out' working working') {at : ℕ} (e : at ≡ rows_in (forest (S ∷ [])) * row_width) {node : List ℕ} (l : length node ≡ node_width) {node₁ tail₁ : List ℕ} (put : Put (fold g (listed (forest Ps)) ∷ []) node 0 (tail a e) 0 node₁ tail₁) where
  fold_put : Put (fold g Ps ∷ []) node 0 (tail a e) 0 node₁ tail₁
  fold_put = subst (λ (Qs : List Encoding). Put (fold g Qs ∷ []) node 0 (tail a e) 0 node₁ tail₁) (listed_forest Ps) put

  -- the output with its rows in it
  abbrev pub beside_rows : List ℕ
  beside_rows = take at out' ++ (tail₁ ++ drop (length out' - at) (drop at out'))

  rows_laid : beside_rows ≡ sets out' at (flat_rows (folded a))
  rows_laid = tail_written out' (flat_rows (folded a)) at fold_put.rows_put

  pub beside_long : length beside_rows ≡ length out'
  beside_long = ap length rows_laid ∙ length-sets out' at (flat_rows (folded a))

  s_stands : Here out beside_rows 0 0 (forest (S ∷ []))
  s_stands =
      let own : take at out' ≡ flat_rows (forest (S ∷ [])) = ap (λ (n : ℕ). take n out') e ∙ here_rows a.here_s in
      record {
        at = record { rest = a.here_s.at.rest; is = a.here_s.at.is; rest_rows = tail₁ ++ drop (length out' - at) (drop at out'); is_rows = ap (◌++ (tail₁ ++ drop (length out' - at) (drop at out'))) own };
        on = omega arith;
        well = a.here_s.well;
      }

  p_stands : Here node₁ beside_rows 0 at (folded a)
  p_stands =
      let room : Room node (tail a e) (folded a) = fold_room a e l in
      let n = (room_lengths (well a).fine room).0 in
      let x : at + length (flat_rows (folded a)) ≤ length out' = omega (arith, length_rows (folded a), beside a, a.room.rows_fit) in
      let stands = sets_stand out' at (flat_rows (folded a)) x in
      record {
        at = record { rest = drop (length (flat_nodes (folded a))) node; is = fold_put.nodes_put ∙ sets_over node (flat_nodes (folded a)) n; rest_rows = stands.rest; is_rows = ap (drop at) rows_laid ∙ stands.is };
        on = omega (arith, beside_long, beside_fits a e);
        well = well a;
      }

  pub asks_after : {working₁ working₁' : List ℕ} → length working₁ ≡ length working → length working₁' ≡ length working' → AskStep node₁ beside_rows (spot 0 at) Plain g out beside_rows working₁ working₁'
  asks_after {working₁} {working₁'} u u' =
      let is = sym (seen_plain (fold g Ps)) in
      record {
        S = S;
        P = fold g Ps;
        here_s = s_stands;
        here_p = p_stands;
        view_fine = tt;
        within = ap (join_fits g S) (seen_plain (fold g Ps)) ∙ a.within;
        room = subst (λ (E : Encoding). Room out beside_rows (forest (join g S E ∷ []))) is (room_kept (omega arith) beside_long a.room);
        working_room = subst (λ (E : Encoding). Room working₁ working₁' (forest (join g S E ∷ []))) is (room_kept u u' a.working_room);
      }

  -- it was joined, over its own rows too
  pub run_joined : {out₁ out₁' : List ℕ} → ((S P : Encoding) → Here out beside_rows 0 0 (forest (S ∷ [])) → Here node₁ beside_rows 0 at (forest (P ∷ [])) → Put (join g S (seen Plain P) ∷ []) out 0 beside_rows 0 out₁ out₁') → Put (join g S (fold g Ps) ∷ []) out 0 out' 0 out₁ out₁'
  run_joined {out₁} {out₁'} wrote =
      let q = subst (λ (E : Encoding). Put (join g S E ∷ []) out 0 beside_rows 0 out₁ out₁') (seen_plain (fold g Ps)) (wrote S (fold g Ps) s_stands p_stands) in
      record {
        nodes_put = q.nodes_put;
        rows_put = q.rows_put
            ∙ ap (λ (k : List ℕ). sets k 0 (flat_rows (joined a))) rows_laid
            ∙ sets_over_both out' (flat_rows (folded a)) (flat_rows (joined a)) at (omega (arith, length_rows (folded a), length_rows (joined a), beside a)) (omega (arith, length_rows (joined a), a.room.rows_fit));
      }
