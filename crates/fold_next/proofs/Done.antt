-- The first of those that are left in a fold, and the rest: how far they go, what holds of them, and that they are folded then.
-- Assumes nothing.
use mathlib.Core.Path.{◌≡◌, refl, sym, ap, subst, ◌∙◌}
use mathlib.Core.Bool.{Bool, true}
use mathlib.Core.List.{List, [], ◌∷◌, ◌++◌, append-nil}
use Prim.Native.Nat.{ℕ, ◌+◌, ◌*◌, ◌≤◌, ◌<◌}
use native.Mathlib.Omega.{arith}
use lib.ListN.{length, length-append, length-drop}
use Rattle.record.specs.Tree.{Forest, Encoding, listed, forest}
use Rattle.record.specs.Flat.{row_width, node_width, flat_nodes}
use Rattle.record.specs.WellFormed.{nodes_in, rows_in}
use Rattle.record.specs.Standing.{spot, Here, Put}
use Rattle.record.specs.Passing.{NodesToCome}
use Rattle.record.specs.declared.Spot.{Spot}
use Rattle.record.proofs.Flat.{length_nodes}
use Rattle.record.proofs.Tree.{forest_listed}
use Rattle.record.proofs.Counts.{nodes_append}
use Rattle.record.proofs.Here.{here_rows_fit}
use Rattle.join_trees.specs.Join.{fold_from}
use Rattle.join_trees.specs.Offsets.{offsets_fit}
use Rattle.join_trees.proofs.Folds.{fold_from_append}
use Rattle.join_trees.proofs.Offsets.{tells_offsets, fold_fits_back}
use Rattle.join_trees.proofs.Sizes.{NoMore, fold_no_less}
use Rattle.fold_next.specs.Promises.{AskNext, Folded}
use Rattle.fold_next.proofs.Split.{here_firsts, here_rest}

module _ {S : Encoding} {left : Forest} {nodes rows : List ℕ} {at : Spot} {g : Bool} {out out' working working' : List ℕ} (a : AskNext S left nodes rows at g out out' working working') where
  module _ (done : List Encoding) (rest : Forest) (split : listed left ≡ done ++ listed rest) where
    -- those that are done, and then the rest
    whole : fold_from g S (listed left) ≡ fold_from g (fold_from g S done) (listed rest)
    whole = ap (fold_from g S) split ∙ fold_from_append g S done (listed rest)

    pub no_more : NoMore (forest (fold_from g S done ∷ [])) (forest (fold_from g S (listed left) ∷ []))
    no_more = rw whole (fold_no_less g (fold_from g S done) (listed rest))

    pub done_fits : offsets_fit (forest (fold_from g S done ∷ [])) ≡ true
    done_fits =
        let E = fold_from g S done in
        let all = ap (λ (F : Encoding). offsets_fit (forest (F ∷ []))) (sym whole) ∙ a.within in
        (tells_offsets (forest (E ∷ []))).back (fold_fits_back g E (listed rest) ((tells_offsets (forest (fold_from g E (listed rest) ∷ []))).so all))

    pub stands : Here nodes rows at.node at.row (forest (done ++ listed rest))
    stands = subst (λ (f : Forest). Here nodes rows at.node at.row f) (sym (forest_listed left) ∙ ap forest split) a.here

    left_nodes : nodes_in left ≡ nodes_in (forest done) + nodes_in rest
    left_nodes = omega (arith, ap nodes_in (forest_listed left), ap (λ (l : List Encoding). nodes_in (forest l)) split, nodes_append done (listed rest), ap nodes_in (forest_listed rest))

    module _ {n m : ℕ} (e : n ≡ nodes_in (forest done)) (f : m ≡ rows_in (forest done)) where
      -- how far they go
      pub done_far : (at.node + n * node_width ≤ length nodes) × (at.row + m * row_width ≤ length rows)
      done_far = (omega (arith, a.ends, left_nodes), omega (arith, here_rows_fit (here_firsts done (listed rest) stands)))

      pub done_folded : {out₁ out₁' : List ℕ} → 0 < n → Put (fold_from g S done ∷ []) out 0 out' 0 out₁ out₁' → Folded S left nodes rows at (spot (at.node + n * node_width) (at.row + m * row_width)) g out out' out₁ out₁'
      done_folded some put =
          record {
            done = done;
            rest = rest;
            split = split;
            put = put;
            here = rw (e, f) (here_rest done rest stands);
            ends = omega (arith, a.ends, left_nodes);
            on = omega arith;
          }

  -- nothing stands after those that are left
  pub to_come : NodesToCome nodes at.node left
  to_come =
      let rest = a.here.at.rest in
      let z : length rest ≡ 0 = omega (arith, ap length a.here.at.is, length-drop at.node nodes, length-append (flat_nodes left) rest, length_nodes left a.here.well.fine, a.ends, a.more) in
      record { is = a.here.at.is ∙ ap (flat_nodes left ++◌) (go rest z) ∙ append-nil (flat_nodes left); on = omega (arith, a.more); fine = a.here.well.fine }
    where
      go : (l : List ℕ) → length l ≡ 0 → l ≡ []
      go [] z = refl
      go (x ∷ l) z = absurd (omega arith)
