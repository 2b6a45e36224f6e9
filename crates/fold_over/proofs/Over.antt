-- One encoding more by way of the working store: what the join asks, and what was written there and copied back.
-- Assumes nothing.
use mathlib.Core.Path.{◌≡◌, ap, ◌∙◌}
use mathlib.Core.Bool.{Bool}
use mathlib.Core.List.{List, [], ◌∷◌}
use Prim.Native.Nat.{ℕ, ◌*◌, ◌≤◌}
use native.Mathlib.Omega.{arith}
use lib.ListN.{length, take, drop}
use lib.Seq.{sets}
use Rattle.record.specs.Tree.{Encoding, forest}
use Rattle.record.specs.Flat.{row_width, node_width}
use Rattle.record.specs.WellFormed.{nodes_in, rows_in}
use Rattle.record.specs.Standing.{spot}
use Rattle.record.specs.declared.Spot.{Spot}
use Rattle.join_trees.proofs.Fine.{join_fine}
use Rattle.join_view.specs.declared.View.{View}
use Rattle.join_view.specs.View.{seen}
use Rattle.join_view.proofs.Seen.{seen_well}
use Rattle.join_write.specs.Promises.{AskJoin, WritesJoin, Wrote}
use Rattle.fold_over.specs.Promises.{AskStep, WritesStep}
use Rattle.fold_over.proofs.Writing.{put_copied}

module _ {nodes rows out out' working working' : List ℕ} {p : Spot} {v : View} {g : Bool} (a : AskStep nodes rows p v g out out' working working') where
  pub step_asks_join : AskJoin out out' (spot 0 0) nodes rows p v g working working' (spot 0 0)
  step_asks_join =
      let r = a.working_room in
      record {
        S = a.S;
        P = a.P;
        here_s = a.here_s;
        here_p = a.here_p;
        view_fine = a.view_fine;
        within = a.within;
        limits = r.fits;
        nodes_fit = omega (arith, r.nodes_fit);
        rows_fit = omega (arith, r.rows_fit);
      }

-- how far the working store was written
written_far : {E : Encoding} {working working' working₁ working₁' : List ℕ} {r : Spot} → Wrote (E ∷ []) working working' (spot 0 0) r working₁ working₁' → (r.node ≡ nodes_in (forest (E ∷ [])) * node_width) × (r.row ≡ rows_in (forest (E ∷ [])) * row_width)
written_far w = (ap (λ (s : Spot). s.node) w.next ∙ omega arith, ap (λ (s : Spot). s.row) w.next ∙ omega arith)

module _ {nodes rows out out' working working' : List ℕ} {p : Spot} {v : View} {g : Bool} (a : AskStep nodes rows p v g out out' working working') {r : Spot} {working₁ working₁' : List ℕ} (w : WritesJoin out out' (spot 0 0) nodes rows p v g working working' (spot 0 0) r working₁ working₁') where
  -- for which there is room in the working store and in the output
  pub written_fits : (r.node ≤ length working) × (r.row ≤ length working') × (r.node ≤ length out) × (r.row ≤ length out')
  written_fits =
      let (n, m) = written_far (w a.S a.P a.here_s a.here_p) in
      (omega (arith, n, a.working_room.nodes_fit), omega (arith, m, a.working_room.rows_fit), omega (arith, n, a.room.nodes_fit), omega (arith, m, a.room.rows_fit))

  pub copied_back : {out₁ out₁' : List ℕ} → out₁ ≡ sets out 0 (take r.node (drop 0 working₁)) → out₁' ≡ sets out' 0 (take r.row (drop 0 working₁')) → WritesStep nodes rows p v g out out' out₁ out₁'
  copied_back qn qm = λ S P s t.
      let wrote = w S P s t in
      let (n, m) = written_far wrote in
      let fine = join_fine g S (seen v P) s.well.fine (seen_well v P t.well).fine in
      put_copied wrote.put fine n m written_fits.0 written_fits.1 qn qm
