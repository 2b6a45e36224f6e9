-- Demand 3 of the request as the promise of a function that makes the four calls of `merge_with` itself.
-- Assumes nothing: these are definitions.
use Rattle.record.specs.declared.Refusal.{Refusal}
use Rattle.std.specs.Prelude.{◌≡◌, Bool, ◌⊎◌, List, [], ℕ, ◌*◌, take, Result, Ok}
use Rattle.record.specs.Tree.{Encoding, windows}
use Rattle.record.specs.Flat.{row_width, node_width}
use Rattle.record.specs.Standing.{One}
use Rattle.record.specs.declared.Written.{Written}
use Rattle.join.specs.Demand.{AlikeSaveForOrder}
use Rattle.join_three.specs.Ways.{LeftWay, RightWay}

-- "Let A, B and C be any three well-formed encodings": those that the three batches store. "Then .. the two results are alike save for
-- order. And if at least one of the three has no windows, the two are equal number for number, the order too": the nodes, the rows
-- and their counts.
pub record SameBothWays (nodesA rowsA nodesB rowsB nodesC rowsC left left_rows right right_rows : List ℕ) (n m i j : ℕ) : Type 0 where
  pub A : Encoding
  pub B : Encoding
  pub C : Encoding
  pub a_stored : One nodesA rowsA A
  pub b_stored : One nodesB rowsB B
  pub c_stored : One nodesC rowsC C
  pub alike : AlikeSaveForOrder (take (n * node_width) left) (take (m * row_width) left_rows) (take (i * node_width) right) (take (j * row_width) right_rows)
  pub exact : (windows A ≡ []) ⊎ (windows B ≡ []) ⊎ (windows C ≡ []) → (n ≡ i) × (m ≡ j) × (take (n * node_width) left ≡ take (i * node_width) right) × (take (m * row_width) left_rows ≡ take (j * row_width) right_rows)

-- The promise: both ways; and, "none be refused", that they come to the same.
pub record BothWays (growing : Bool) (nodesA rowsA nodesB rowsB nodesC rowsC ab ab_rows left left_rows bc bc_rows right right_rows ab' ab_rows' left' left_rows' bc' bc_rows' right' right_rows' : List ℕ) (answer_left answer_right : Result Written Refusal) : Type 0 where
  pub left_way : LeftWay growing nodesA rowsA nodesB rowsB nodesC rowsC ab ab_rows left left_rows ab' ab_rows' left' left_rows' answer_left
  pub right_way : RightWay growing nodesA rowsA nodesB rowsB nodesC rowsC bc bc_rows right right_rows bc' bc_rows' right' right_rows' answer_right
  pub same : (n m i j : ℕ) → answer_left ≡ Ok (record { nodes = n; rows = m }) → answer_right ≡ Ok (record { nodes = i; rows = j }) → SameBothWays nodesA rowsA nodesB rowsB nodesC rowsC left' left_rows' right' right_rows' n m i j
