-- The next of a fold, one or a run: what their join asks, and that they are folded then.
-- Assumes nothing.
use mathlib.Core.Path.{◌≡◌, refl, sym, ap, ap₂, subst, ◌∙◌}
use mathlib.Core.Bool.{Bool}
use mathlib.Core.List.{List, [], ◌∷◌, ◌++◌}
use Prim.Native.Nat.{ℕ, ◌+◌, ◌*◌, ◌≤◌, ◌<◌}
use native.Mathlib.Omega.{arith}
use lib.ListN.{length}
use Rattle.record.specs.Tree.{Forest, none, node, Encoding, listed, forest}
use Rattle.record.specs.Flat.{row_width, node_width}
use Rattle.record.specs.WellFormed.{nodes_in}
use Rattle.record.specs.Standing.{spot, Here, Put}
use Rattle.record.specs.Outcome.{Room}
use Rattle.record.specs.declared.Spot.{Spot}
use Rattle.record_extent.specs.Promises.{Stands}
use Rattle.record_extent.specs.Size.{size_of}
use Rattle.record_extent.specs.declared.Extent.{Extent}
use Rattle.record_extent.proofs.Stands.{here_stands}
use Rattle.join_trees.specs.Join.{join, fold_from, fold}
use Rattle.join_trees.specs.Offsets.{offsets_fit, join_fits}
use Rattle.join_trees.proofs.Sizes.{no_more_room}
use Rattle.join_view.specs.declared.View.TheVariants.{Plain}
use Rattle.join_view.proofs.Seen.{seen_plain}
use Rattle.fold_over.specs.Promises.{AskStep, WritesStep}
use Rattle.fold_run.specs.declared.Run.{Run}
use Rattle.fold_run.specs.Promises.{AskRunFrom, BeginsWith}
use Rattle.fold_join.specs.Promises.{AskRun}
use Rattle.fold_join.proofs.Bare.{joined_at_once}
use Rattle.fold_next.specs.Promises.{AskNext, Folded}
use Rattle.fold_next.proofs.Split.{here_firsts}
use Rattle.fold_next.proofs.Done.{no_more, done_fits, stands, done_far, done_folded, to_come}

module _ {S : Encoding} {left : Forest} {nodes rows : List ℕ} {at : Spot} {g : Bool} {out out' working working' : List ℕ} (a : AskNext S left nodes rows at g out out' working working') where
  -- ---- A run

  pub asks_from : AskRunFrom nodes at.node
  asks_from = record { f = left; coming = to_come a; few_rows = a.here.well.fits.few_rows }

  module _ {size : Run} (b : BeginsWith nodes at.node left size) where
    abbrev next : Spot
    next = spot (at.node + size.nodes * node_width) (at.row + size.rows * row_width)

    run_is : fold_from g S b.run ≡ join g S (fold g b.run)
    run_is = joined_at_once g S b.run (a.here_s.well.fine.0, a.here_s.well.fine.1) b.bare

    pub asks_run : AskRun S b.run nodes rows at next g out out' working working'
    asks_run =
        record {
          here_s = a.here_s;
          here_p = here_firsts b.run (listed b.rest) (stands a b.run b.rest b.split);
          bare = b.bare;
          ends = ap₂ (λ (n m : ℕ). spot (at.node + n * node_width) (at.row + m * row_width)) b.nodes_size b.rows_size;
          on = b.coming.on;
          within = ap (λ (E : Encoding). offsets_fit (forest (E ∷ []))) (sym run_is) ∙ done_fits a b.run b.rest b.split;
          room = subst (λ (E : Encoding). Room out out' (forest (E ∷ []))) run_is (no_more_room (no_more a b.run b.rest b.split) a.room);
          working_room = subst (λ (E : Encoding). Room working working' (forest (E ∷ []))) run_is (no_more_room (no_more a b.run b.rest b.split) a.working_room);
        }

    pub run_far : (at.node + size.nodes * node_width ≤ length nodes) × (at.row + size.rows * row_width ≤ length rows)
    run_far = done_far a b.run b.rest b.split b.nodes_size b.rows_size

    pub run_folded : {out₁ out₁' : List ℕ} → 0 < size.nodes → Put (join g S (fold g b.run) ∷ []) out 0 out' 0 out₁ out₁' → Folded S left nodes rows at next g out out' out₁ out₁'
    run_folded {out₁} {out₁'} some put =
        done_folded a b.run b.rest b.split b.nodes_size b.rows_size some (subst (λ (E : Encoding). Put (E ∷ []) out 0 out' 0 out₁ out₁') (sym run_is) put)

  -- ---- One

  -- the first that is left
  pub one : (P : Encoding) × (rest : Forest) × (listed left ≡ (P ∷ []) ++ listed rest)
  one = go left a.ends
    where
      go : (f : Forest) → at.node + nodes_in f * node_width ≡ length nodes → (P : Encoding) × (rest : Forest) × (listed f ≡ (P ∷ []) ++ listed rest)
      go none e = absurd (omega (arith, a.more))
      go (node r q w x) e = (record { rows = r; ranges = q; below = w }, x, refl)

  abbrev pub next_one : Forest
  next_one = forest (one.0 ∷ [])

  one_here : Here nodes rows at.node at.row next_one
  one_here = here_firsts (one.0 ∷ []) (listed one.1) (stands a (one.0 ∷ []) one.1 one.2)

  pub one_stands : Stands nodes at.node 1 next_one
  one_stands = here_stands one_here

  pub asks_step : AskStep nodes rows at Plain g out out' working working'
  asks_step =
      let is = sym (seen_plain one.0) in
      record {
        S = S;
        P = one.0;
        here_s = a.here_s;
        here_p = one_here;
        view_fine = tt;
        within = ap (join_fits g S) (seen_plain one.0) ∙ done_fits a (one.0 ∷ []) one.1 one.2;
        room = subst (λ (E : Encoding). Room out out' (forest (join g S E ∷ []))) is (no_more_room (no_more a (one.0 ∷ []) one.1 one.2) a.room);
        working_room = subst (λ (E : Encoding). Room working working' (forest (join g S E ∷ []))) is (no_more_room (no_more a (one.0 ∷ []) one.1 one.2) a.working_room);
      }

  module _ {own : Extent} (e : own ≡ size_of next_one) where
    pub one_far : (at.node + own.nodes * node_width ≤ length nodes) × (at.row + own.rows * row_width ≤ length rows)
    one_far = done_far a (one.0 ∷ []) one.1 one.2 (ap (λ (s : Extent). s.nodes) e) (ap (λ (s : Extent). s.rows) e)

    pub one_folded : {out₁ out₁' : List ℕ} → WritesStep nodes rows at Plain g out out' out₁ out₁' → Folded S left nodes rows at (spot (at.node + own.nodes * node_width) (at.row + own.rows * row_width)) g out out' out₁ out₁'
    one_folded {out₁} {out₁'} wrote =
        let n = ap (λ (s : Extent). s.nodes) e in
        done_folded a (one.0 ∷ []) one.1 one.2 n (ap (λ (s : Extent). s.rows) e) (omega arith) (subst (λ (E : Encoding). Put (join g S E ∷ []) out 0 out' 0 out₁ out₁') (seen_plain one.0) (wrote S one.0 a.here_s one_here))
