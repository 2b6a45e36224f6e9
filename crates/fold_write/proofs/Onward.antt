-- A fold of a batch on its way, of which the next are folded: what that asks, and where it stands then.
-- Assumes nothing.
use mathlib.Core.Path.{◌≡◌, sym, ap, subst, ◌∙◌}
use mathlib.Core.Bool.{Bool}
use mathlib.Core.List.{List, [], ◌∷◌, ◌++◌, append_assoc}
use Prim.Native.Nat.{ℕ, ◌<◌}
use lib.ListN.{length}
use Rattle.record.specs.Tree.{Forest, Encoding, listed, forest, empty}
use Rattle.record.specs.WellFormed.{Fine, WellFormed}
use Rattle.record.specs.Standing.{spot, Put}
use Rattle.record.specs.Outcome.{Room}
use Rattle.record.specs.declared.Spot.{Spot}
use Rattle.record.proofs.Tree.{forest_listed}
use Rattle.join_trees.specs.Join.{fold_from, fold}
use Rattle.join_trees.specs.Offsets.{offsets_fit}
use Rattle.join_trees.proofs.Folds.{fold_from_append, fold_from_fine}
use Rattle.join_trees.proofs.Offsets.{steps_fit_lem}
use Rattle.join_trees.proofs.Sizes.{no_more_room, fold_no_less}
use Rattle.fold_over.proofs.Writing.{room_kept, put_room, put_here, put_again}
use Rattle.fold_each.proofs.Going.{Going}
use Rattle.fold_next.specs.Promises.{AskNext, Folded}
use Rattle.fold_next.proofs.Split.{fine_first}

module _ {nodes rows out out' working working' now now' used used' : List ℕ} {g : Bool} {i j : ℕ} (s : Going nodes rows g out out' working working' now now' used used' i j) where
  -- what stands in the output
  abbrev pub so_far : Encoding
  so_far = fold g s.folding.folded

  -- with what is left it is the whole
  whole : fold g (listed s.f) ≡ fold_from g so_far (listed s.left)
  whole = ap (fold g) s.folding.split ∙ fold_from_append g empty s.folding.folded (listed s.left)

  abbrev all : Forest
  all = forest (fold_from g so_far (listed s.left) ∷ [])

  all_room : Room out out' all
  all_room = subst (λ (E : Encoding). Room out out' (forest (E ∷ []))) whole s.folding.room

  all_working_room : Room working working' all
  all_working_room = subst (λ (E : Encoding). Room working working' (forest (E ∷ []))) whole s.folding.working_room

  pub asks_next : i < length nodes → AskNext so_far s.left nodes rows (spot i j) g now now' used used'
  asks_next l =
      record {
        here_s = put_here s.folding.put s.folding.well (no_more_room (fold_no_less g so_far (listed s.left)) all_room);
        here = s.here;
        ends = s.ends;
        more = l;
        within = ap (λ (E : Encoding). offsets_fit (forest (E ∷ []))) (sym whole) ∙ sym (steps_fit_lem g (listed s.f)) ∙ s.folding.within;
        room = put_room s.folding.put all_room;
        working_room = room_kept s.folding.used_nodes s.folding.used_rows all_working_room;
      }

  -- the next were folded
  pub going_on : {next : Spot} {now₁ now₁' used₁ used₁' : List ℕ} → Folded so_far s.left nodes rows (spot i j) next g now now' now₁ now₁' → length used₁ ≡ length used → length used₁' ≡ length used'
      → Going nodes rows g out out' working working' now₁ now₁' used₁ used₁' next.node next.row
  going_on {next} {now₁} {now₁'} t a b =
      let E = fold_from g so_far t.done in
      let last : E ≡ fold g (s.folding.folded ++ t.done) = sym (fold_from_append g empty s.folding.folded t.done) in
      let left_is : fold_from g so_far (listed s.left) ≡ fold_from g E (listed t.rest) = ap (fold_from g so_far) t.split ∙ fold_from_append g so_far t.done (listed t.rest) in
      let room : Room out out' (forest (E ∷ [])) = no_more_room (fold_no_less g E (listed t.rest)) (subst (λ (F : Encoding). Room out out' (forest (F ∷ []))) left_is all_room) in
      let done_fine : Fine (forest t.done) = fine_first t.done (listed t.rest) (subst Fine (sym (forest_listed s.left) ∙ ap forest t.split) s.here.well.fine) in
      let w : WellFormed (forest (E ∷ [])) = record { fine = fold_from_fine g so_far t.done s.folding.well.fine done_fine; fits = room.fits } in
      let q : Put (E ∷ []) out 0 out' 0 now₁ now₁' = put_again s.folding.put s.folding.well.fine w.fine (fold_no_less g so_far t.done) room t.put in
      record {
        f = s.f;
        stores = s.stores;
        left = t.rest;
        here = t.here;
        ends = t.ends;
        folding = record {
          within = s.folding.within;
          room = s.folding.room;
          working_room = s.folding.working_room;
          used_nodes = a ∙ s.folding.used_nodes;
          used_rows = b ∙ s.folding.used_rows;
          folded = s.folding.folded ++ t.done;
          split = s.folding.split ∙ ap (s.folding.folded ++◌) t.split ∙ sym (append_assoc s.folding.folded t.done (listed t.rest));
          well = subst (λ (F : Encoding). WellFormed (forest (F ∷ []))) last w;
          put = subst (λ (F : Encoding). Put (F ∷ []) out 0 out' 0 now₁ now₁') last q;
        };
      }
