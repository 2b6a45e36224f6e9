-- A run folded by itself: how much its fold takes beside what is in the output, and what is asked for it.
-- Assumes nothing.
use mathlib.Core.Path.{◌≡◌, sym, ap, subst, ◌∙◌}
use mathlib.Core.Bool.{Bool}
use mathlib.Core.List.{List, [], ◌∷◌}
use Prim.Native.Nat.{ℕ, ◌+◌, ◌*◌, ◌-◌, ◌≤◌}
use native.Mathlib.Nat.{mul-le-mul_right}
use native.Mathlib.Omega.{arith}
use lib.ListN.{length, take, drop, length-drop}
use lib.Seq.{take_all}
use Rattle.record.specs.Tree.{Forest, Encoding, forest}
use Rattle.record.specs.Flat.{row_width, node_width}
use Rattle.record.specs.WellFormed.{WellFormed, Stores, nodes_in, rows_in}
use Rattle.record.specs.Outcome.{Room}
use Rattle.record.specs.declared.Spot.{Spot}
use Rattle.record.proofs.Tree.{listed_forest}
use Rattle.record.proofs.Here.{here_nodes, here_rows}
use Rattle.join_trees.specs.Join.{join, fold}
use Rattle.join_trees.specs.Offsets.{fold_fits}
use Rattle.join_trees.proofs.Folds.{fold_well}
use Rattle.join_trees.proofs.Offsets.{tells_offsets, join_fits_right, tells_fold}
use Rattle.join_trees.proofs.Sizes.{NoMore, no_more_fits, no_more_room, join_no_less_right}
use Rattle.fold_each.specs.Promises.{AskFold}
use Rattle.fold_join.specs.Promises.{AskRun}
use Rattle.fold_join.proofs.Bare.{fold_bare, bare_nodes, rows_beside}

module _ {S : Encoding} {Ps : List Encoding} {nodes rows : List ℕ} {p end : Spot} {g : Bool} {out out' working working' : List ℕ} (a : AskRun S Ps nodes rows p end g out out' working working') where
  -- its fold
  abbrev pub folded : Forest
  folded = forest (fold g Ps ∷ [])

  abbrev pub joined : Forest
  joined = forest (join g S (fold g Ps) ∷ [])

  no_more : NoMore folded joined
  no_more = join_no_less_right g S (fold g Ps)

  pub well : WellFormed folded
  well = fold_well g Ps a.here_p.well (no_more_fits no_more a.room.fits)

  pub beside : rows_in (forest (S ∷ [])) * row_width + rows_in folded * row_width ≤ rows_in joined * row_width
  beside = omega (arith, mul-le-mul_right row_width (rows_beside g S (fold g Ps) (fold_bare g Ps a.bare)))

  -- where it begins and ends
  pub ends_node : (p.node ≤ end.node) × (end.node - p.node ≡ nodes_in (forest Ps) * node_width)
  ends_node = let e = ap (λ (s : Spot). s.node) a.ends in (omega arith, omega arith)

  pub ends_row : (p.row ≤ end.row) × (end.row - p.row ≡ rows_in (forest Ps) * row_width)
  ends_row = let e = ap (λ (s : Spot). s.row) a.ends in (omega arith, omega arith)

  pub run_stores : Stores (take (end.node - p.node) (drop p.node nodes)) (take (end.row - p.row) (drop p.row rows)) (forest Ps)
  run_stores =
      record {
        nodes_are = sym (ap (λ (n : ℕ). take n (drop p.node nodes)) ends_node.1 ∙ here_nodes a.here_p);
        rows_are = sym (ap (λ (n : ℕ). take n (drop p.row rows)) ends_row.1 ∙ here_rows a.here_p);
        well = a.here_p.well;
      }

  module _ {at : ℕ} (e : at ≡ rows_in (forest (S ∷ [])) * row_width) where
    pub beside_fits : at ≤ length out'
    beside_fits = omega (arith, beside, a.room.rows_fit)

    -- the last part of the output, from there on
    abbrev pub tail : List ℕ
    tail = take (length out' - at) (drop at out')

    tail_long : length tail ≡ length out' - at
    tail_long = ap length (take_all (length out' - at) (drop at out') (omega (arith, length-drop at out'))) ∙ length-drop at out'

    module _ {node : List ℕ} (l : length node ≡ node_width) where
      pub fold_room : Room node tail folded
      fold_room =
          record {
            fits = well.fits;
            nodes_fit = omega (arith, bare_nodes (fold g Ps) (fold_bare g Ps a.bare));
            rows_fit = omega (arith, beside, a.room.rows_fit, tail_long);
          }

      pub asks_each : AskFold (take (end.node - p.node) (drop p.node nodes)) (take (end.row - p.row) (drop p.row rows)) g node tail working working'
      asks_each =
          let is = sym (listed_forest Ps) in
          record {
            f = forest Ps;
            stores = run_stores;
            within = ap (fold_fits g) (sym is) ∙ (tells_fold g Ps).back (join_fits_right g S (fold g Ps) ((tells_offsets joined).so a.within));
            room = subst (λ (Qs : List Encoding). Room node tail (forest (fold g Qs ∷ []))) is fold_room;
            working_room = subst (λ (Qs : List Encoding). Room working working' (forest (fold g Qs ∷ []))) is (no_more_room no_more a.working_room);
          }
