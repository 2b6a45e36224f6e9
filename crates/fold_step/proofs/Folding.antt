-- A fold on its way: the encodings that are folded, those that are left, and what stands in the output.
-- Assumes nothing.
use mathlib.Core.Path.{◌≡◌, refl, sym, ap, ◌∙◌, subst}
use mathlib.Core.Bool.{Bool, true, false, ◌&&◌, false≢true}
use mathlib.Core.List.{List, [], ◌∷◌, ◌++◌, flat_map, append_assoc, append-nil}
use Prim.Native.Nat.{ℕ, ◌≤◌}
use native.Mathlib.Omega.{arith}
use lib.ListN.{length}
use lib.Seq.{sets}
use Rattle.record.specs.Tree.{Forest, Encoding, forest, empty}
use Rattle.record.specs.Flat.{node_width, flat_nodes, flat_rows}
use Rattle.record.specs.WellFormed.{WellFormed}
use Rattle.record.specs.Standing.{Here, Put}
use Rattle.record.specs.Outcome.{Room}
use Rattle.join_trees.specs.Join.{join, fold_from, fold}
use Rattle.join_trees.specs.Offsets.{join_fits, steps_fit, fold_fits}
use Rattle.join_trees.proofs.Fine.{empty_fine, join_well}
use Rattle.join_trees.proofs.Folds.{fold_from_append, fold_last}
use Rattle.join_trees.proofs.Sizes.{NoMore, no_more_room, join_no_less_left, fold_no_less}
use Rattle.join_view.specs.declared.View.{View}
use Rattle.record.specs.declared.Spot.{Spot}
use Rattle.join_view.specs.View.{seen, ViewFine}
use Rattle.join_view.proofs.Seen.{seen_well}
use Rattle.fold_over.specs.Promises.{AskStep, WritesStep}
use Rattle.fold_over.proofs.Writing.{room_kept, put_lengths, put_room, put_room_back, put_here, put_same, put_again}

-- ---- The steps of a fold, from those of the whole

-- each step's offsets fit
step_fits : (g : Bool) (S : Encoding) (Ps : List Encoding) (P : Encoding) (Qs : List Encoding) → steps_fit g S (Ps ++ P ∷ Qs) ≡ true → join_fits g (fold_from g S Ps) P ≡ true
unfolding steps_fit
step_fits g S [] P Qs e = first (join_fits g S P) _ e
  where
    first : (a b : Bool) → (a && b) ≡ true → a ≡ true
    first true b e = refl
    first false b e = absurd (false≢true e)
step_fits g S (Q ∷ Ps) P Qs e = step_fits g (join g S Q) Ps P Qs (second (join_fits g S Q) _ e)
  where
    second : (a b : Bool) → (a && b) ≡ true → b ≡ true
    second true b e = e
    second false b e = absurd (false≢true e)

-- each step's result has no more of anything than the whole
step_no_more : (g : Bool) (Ps : List Encoding) (P : Encoding) (Qs : List Encoding) → NoMore (forest (join g (fold g Ps) P ∷ [])) (forest (fold g (Ps ++ P ∷ Qs) ∷ []))
step_no_more g Ps P Qs = rw (fold_from_append g empty Ps (P ∷ Qs)) (fold_no_less g (join g (fold g Ps) P) Qs)

-- ---- On the way

-- out, out', working and working' are the four lent lists as the first step finds them, now, now', used and used' as they
-- are. Those that are left are a parameter, so that a caller says what they are.
pub record Folding (g : Bool) (all left : List Encoding) (out out' working working' now now' used used' : List ℕ) : Type 0 where
  pub within : fold_fits g all ≡ true
  pub room : Room out out' (forest (fold g all ∷ []))
  pub working_room : Room working working' (forest (fold g all ∷ []))
  pub used_nodes : length used ≡ length working
  pub used_rows : length used' ≡ length working'
  pub folded : List Encoding
  pub split : all ≡ folded ++ left
  pub well : WellFormed (forest (fold g folded ∷ []))
  pub put : Put (fold g folded ∷ []) out 0 out' 0 now now'

-- ---- At first: `start` writes the empty encoding

abbrev pub none_yet : Forest
none_yet = forest (empty ∷ [])

pub empty_put : {entry entry' out : List ℕ} → out ≡ sets entry 0 (flat_nodes none_yet) → Put (empty ∷ []) entry 0 entry' 0 out entry'
unfolding flat_rows flat_map
empty_put e = record { nodes_put = e; rows_put = refl }

module _ (g : Bool) (all : List Encoding) {entry entry' : List ℕ} (room : Room entry entry' (forest (fold g all ∷ []))) where
  empty_room : Room entry entry' none_yet
  empty_room = no_more_room (fold_no_less g empty all) room

  pub start_asks : node_width ≤ length entry
  start_asks = omega (arith, empty_room.nodes_fit)

  pub folding_start : {out out' working working' : List ℕ} → fold_fits g all ≡ true → Room working working' (forest (fold g all ∷ [])) → Put (empty ∷ []) entry 0 entry' 0 out out' → Folding g all all out out' working working' out out' working working'
  folding_start within working_room p =
      record {
        within = within;
        room = put_room p room;
        working_room = working_room;
        used_nodes = refl;
        used_rows = refl;
        folded = [];
        split = refl;
        well = record { fine = empty_fine; fits = empty_room.fits };
        put = put_same p empty_fine empty_room;
      }

-- ---- The output keeps its lengths

module _ {g : Bool} {all : List Encoding} {out out' working working' now now' used used' : List ℕ} where
  pub folding_lengths : {left : List Encoding} → Folding g all left out out' working working' now now' used used' → (length now ≡ length out) × (length now' ≡ length out')
  folding_lengths s = put_lengths s.put

  -- ---- One more, where P is next

  module _ {P : Encoding} {rest : List Encoding} (s : Folding g all (P ∷ rest) out out' working working' now now' used used') where
    -- what it is joined to
    abbrev pub so_far : Encoding
    so_far = fold g s.folded

    no_more : NoMore (forest (join g so_far P ∷ [])) (forest (fold g all ∷ []))
    no_more = rw s.split (step_no_more g s.folded P rest)

    pub so_far_here : Here now now' 0 0 (forest (so_far ∷ []))
    so_far_here = put_here s.put s.well (no_more_room (join_no_less_left g so_far P) (no_more_room no_more s.room))

    pub next_within : join_fits g so_far P ≡ true
    next_within = step_fits g empty s.folded P rest (ap (fold_fits g) (sym s.split) ∙ s.within)

    pub next_room : Room now now' (forest (join g so_far P ∷ []))
    next_room = no_more_room no_more (put_room s.put s.room)

    pub next_working_room : Room used used' (forest (join g so_far P ∷ []))
    next_working_room = room_kept s.used_nodes s.used_rows (no_more_room no_more s.working_room)

    -- it was joined
    pub folding_more : {now₁ now₁' used₁ used₁' : List ℕ} → WellFormed (forest (P ∷ [])) → Put (join g so_far P ∷ []) now 0 now' 0 now₁ now₁' → length used₁ ≡ length used → length used₁' ≡ length used' → Folding g all rest out out' working working' now₁ now₁' used₁ used₁'
    folding_more {now₁} {now₁'} w p a b =
        let last : join g so_far P ≡ fold g (s.folded ++ P ∷ []) = sym (fold_last g s.folded P) in
        let room = no_more_room no_more s.room in
        let J : WellFormed (forest (join g so_far P ∷ [])) = join_well g so_far P s.well w room.fits in
        let q : Put (join g so_far P ∷ []) out 0 out' 0 now₁ now₁' = put_again s.put s.well.fine J.fine (join_no_less_left g so_far P) room p in
        record {
          within = s.within;
          room = s.room;
          working_room = s.working_room;
          used_nodes = a ∙ s.used_nodes;
          used_rows = b ∙ s.used_rows;
          folded = s.folded ++ P ∷ [];
          split = s.split ∙ sym (append_assoc s.folded (P ∷ []) rest);
          well = subst (λ (E : Encoding). WellFormed (forest (E ∷ []))) last J;
          put = subst (λ (E : Encoding). Put (E ∷ []) out 0 out' 0 now₁ now₁') last q;
        }

  -- ---- One more by `fold_step`, where P, seen, is next

  module _ (v : View) {P : Encoding} {rest : List Encoding} (s : Folding g all (seen v P ∷ rest) out out' working working' now now' used used') {nodes rows : List ℕ} {p : Spot} (h : Here nodes rows p.node p.row (forest (P ∷ []))) where
    pub step_asks : ViewFine v → AskStep nodes rows p v g now now' used used'
    step_asks fine = record { S = so_far s; P = P; here_s = so_far_here s; here_p = h; view_fine = fine; within = next_within s; room = next_room s; working_room = next_working_room s }

    pub step_more : {now₁ now₁' used₁ used₁' : List ℕ} → WritesStep nodes rows p v g now now' now₁ now₁' → length used₁ ≡ length used → length used₁' ≡ length used' → Folding g all rest out out' working working' now₁ now₁' used₁ used₁'
    step_more wrote a b = folding_more s (seen_well v P h.well) (wrote (so_far s) P (so_far_here s) h) a b

  -- ---- None is left

  pub folding_end : {entry entry' : List ℕ} → Folding g all [] out out' working working' now now' used used' → Put (empty ∷ []) entry 0 entry' 0 out out' → Put (fold g all ∷ []) entry 0 entry' 0 now now'
  folding_end s p =
      let whole : fold g s.folded ≡ fold g all = ap (fold g) (sym (s.split ∙ append-nil s.folded)) in
      let w = subst (λ (E : Encoding). WellFormed (forest (E ∷ []))) whole s.well in
      let q : Put (fold g all ∷ []) out 0 out' 0 now now' = subst (λ (E : Encoding). Put (E ∷ []) out 0 out' 0 now now') whole s.put in
      put_again p empty_fine w.fine (fold_no_less g empty all) (put_room_back p s.room) q
