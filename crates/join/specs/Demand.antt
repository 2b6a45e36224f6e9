-- Demand 3 of the request, said of four calls of `merge_with` and of the numbers in the buffers lent to them.
-- It is proved in proofs/Demand; `join_grouping` makes the four calls. Assumes nothing: these are definitions.
use Rattle.record.specs.declared.Refusal.{Refusal}
use Rattle.std.specs.Prelude.{◌≡◌, Bool, ◌⊎◌, List, [], ◌∷◌, ℕ, ◌*◌, take, Result, Ok}
use Rattle.record.specs.Tree.{Encoding, forest, windows}
use Rattle.record.specs.Flat.{row_width, node_width}
use Rattle.record.specs.Read.{holds, read}
use Rattle.record.specs.Standing.{One}
use Rattle.record.specs.Outcome.{Writes}
use Rattle.record.specs.declared.Written.{Written}
use Rattle.join_trees.specs.Alike.{Alike}
use Rattle.join_trees.specs.Outcomes.{join_outcome}

-- ---- One call

-- What `merge_with` promises: called with the nodes and rows of two operands and with an output that held `nodes` and `rows`, it
-- gave this answer, and the output holds nodes' and rows'.
pub record Called (growing : Bool) (first_nodes first_rows second_nodes second_rows nodes rows nodes' rows' : List ℕ) (answer : Result Written Refusal) : Type 0 where
  pub promised : Writes (join_outcome growing (read first_nodes first_rows) (read second_nodes second_rows) nodes rows) answer nodes rows nodes' rows'

-- "and none be refused": a call that answered with the nodes and rows of its result, whatever the output held
pub record Call (growing : Bool) (first_nodes first_rows second_nodes second_rows : List ℕ) : Type 0 where
  pub nodes : List ℕ
  pub rows : List ℕ
  pub nodes_after : List ℕ
  pub rows_after : List ℕ
  pub node_count : ℕ
  pub row_count : ℕ
  pub called : Called growing first_nodes first_rows second_nodes second_rows nodes rows nodes_after rows_after (Ok (record { nodes = node_count; rows = row_count }))

-- its result: as many numbers from the front of the output as the answer tells
abbrev pub result_nodes : {growing : Bool} {first_nodes first_rows second_nodes second_rows : List ℕ} → Call growing first_nodes first_rows second_nodes second_rows → List ℕ
result_nodes c = take (c.node_count * node_width) c.nodes_after

abbrev pub result_rows : {growing : Bool} {first_nodes first_rows second_nodes second_rows : List ℕ} → Call growing first_nodes first_rows second_nodes second_rows → List ℕ
result_rows c = take (c.row_count * row_width) c.rows_after

-- ---- Four calls

-- "Join, as document 01 defines it, A with B and the result with C; and B with C, then A with that result; let all four
-- joins be with growing offsets or all four without, and none be refused for document 01's limits or an offset too
-- large." The numbers of a result are the operand of the next call as they stand in the output.
pub record FourCalls (growing : Bool) (nodesA rowsA nodesB rowsB nodesC rowsC : List ℕ) : Type 0 where
  pub a_with_b : Call growing nodesA rowsA nodesB rowsB
  pub ab_with_c : Call growing (result_nodes a_with_b) (result_rows a_with_b) nodesC rowsC
  pub b_with_c : Call growing nodesB rowsB nodesC rowsC
  pub a_with_bc : Call growing nodesA rowsA (result_nodes b_with_c) (result_rows b_with_c)

-- "both ways give equal rows and ranges, and at every level the same windows, each exactly as many times, perhaps in
-- another order: the two results are alike save for order, as document 01 says it": the numbers of each are a
-- well-formed batch of one encoding, and the two encodings are alike.
pub record AlikeSaveForOrder (nodes rows nodes' rows' : List ℕ) : Type 0 where
  pub E : Encoding
  pub F : Encoding
  pub left_reads : read nodes rows ≡ holds (forest (E ∷ []))
  pub right_reads : read nodes' rows' ≡ holds (forest (F ∷ []))
  pub alike : Alike E F

-- "equal number for number": the nodes, the rows and both counts
pub record Same {growing : Bool} {xs rs ys ss xs' rs' ys' ss' : List ℕ} (c : Call growing xs rs ys ss) (d : Call growing xs' rs' ys' ss') : Type 0 where
  pub same_nodes : result_nodes c ≡ result_nodes d
  pub same_rows : result_rows c ≡ result_rows d
  pub same_node_count : c.node_count ≡ d.node_count
  pub same_row_count : c.row_count ≡ d.row_count

-- What both ways leave.
pub record Grouped {growing : Bool} {nodesA rowsA nodesB rowsB nodesC rowsC : List ℕ} (A B C : Encoding) (four : FourCalls growing nodesA rowsA nodesB rowsB nodesC rowsC) : Type 0 where
  pub alike : AlikeSaveForOrder (result_nodes four.ab_with_c) (result_rows four.ab_with_c) (result_nodes four.a_with_bc) (result_rows four.a_with_bc)
  -- "And if at least one of the three has no windows, the two are equal number for number, the order too."
  pub exact : (windows A ≡ []) ⊎ (windows B ≡ []) ⊎ (windows C ≡ []) → Same four.ab_with_c four.a_with_bc

-- ---- The demand

-- "Let A, B and C be any three well-formed encodings", given by the numbers of their nodes and rows.
abbrev pub Demand : Type 0
Demand =
    (growing : Bool) (nodesA rowsA nodesB rowsB nodesC rowsC : List ℕ) (A B C : Encoding) → One nodesA rowsA A → One nodesB rowsB B → One nodesC rowsC C → (four : FourCalls growing nodesA rowsA nodesB rowsB nodesC rowsC) → Grouped A B C four
