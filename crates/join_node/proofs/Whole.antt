-- A node of a join: its numbers and its rows, of two encodings that stand somewhere.
-- Assumes nothing.
use mathlib.Core.Path.{◌≡◌, ap₂, ◌∙◌}
use mathlib.Core.Bool.{Bool}
use mathlib.Core.List.{List}
use Prim.Native.Nat.{ℕ, ◌+◌, ◌*◌}
use native.Mathlib.Omega.{arith}
use lib.ListN.{get_or}
use Rattle.record.specs.Flat.{row_width, node_width}
use Rattle.record.specs.Standing.{spot}
use Rattle.record.proofs.Here.{here_own}
use Rattle.join_view.specs.declared.View.{View}
use Rattle.record.specs.declared.Spot.{Spot}
use Rattle.join_node.specs.Promises.{AskNode, WritesNode}
use Rattle.join_numbers.specs.Promises.{AskNumbers, WritesNumbers}
use Rattle.join_rows.specs.Promises.{AskOwn, WritesOwn}
use Rattle.join_ranges.proofs.Nodes.{node_count_lem, here_node, own_inside}

module _ {nodes rows : List ℕ} {s : Spot} {nodes' rows' : List ℕ} {p : Spot} {v : View} {g : Bool} {out out' : List ℕ} {at : Spot} where
  module _ (ask : AskNode nodes rows s nodes' rows' p v g out out' at) where
    pub asks_numbers : AskNumbers nodes s.node nodes' p.node v out at.node
    asks_numbers = record { S = ask.S; P = ask.P; there_s = here_node ask.here_s; there_p = here_node ask.here_p; view_fine = ask.view_fine; few_windows = ask.few_windows; few_rows = ask.few_rows; fits = ask.nodes_fit }

    pub asks_own : {n m : ℕ} → n ≡ get_or nodes s.node 0 → m ≡ get_or nodes' p.node 0 → AskOwn rows s.row n rows' p.row m g out' at.row
    asks_own e f =
        let a = e ∙ node_count_lem (here_node ask.here_s) in
        let b = f ∙ node_count_lem (here_node ask.here_p) in
        record {
          R = ask.S.rows;
          R' = ask.P.rows;
          there = here_own ask.here_s;
          size = omega arith;
          inside = omega (arith, a, own_inside ask.here_s);
          there' = here_own ask.here_p;
          size' = omega arith;
          inside' = omega (arith, b, own_inside ask.here_p);
          within = ask.within;
          fits = omega (arith, a, b, ask.rows_fit);
        }

  pub writes_node : {n m : ℕ} {out₁ out₁' : List ℕ} → n ≡ get_or nodes s.node 0 → m ≡ get_or nodes' p.node 0
      → WritesNumbers nodes s.node nodes' p.node v out at.node out₁ → WritesOwn rows s.row n rows' p.row m v g out' at.row out₁'
      → WritesNode nodes rows s nodes' rows' p v g out out' at (spot (at.node + node_width) (at.row + (n + m) * row_width)) out₁ out₁'
  writes_node e f numbers own S P s p =
      let a = e ∙ node_count_lem (here_node s) in
      let b = f ∙ node_count_lem (here_node p) in
      record {
        nodes_are = numbers.numbers S P (here_node s) (here_node p);
        rows_are = own.own S.rows P.rows (here_own s) (omega arith) (here_own p) (omega arith);
        next = ap₂ (λ (n m : ℕ). spot (at.node + node_width) (at.row + (n + m) * row_width)) a b;
      }
