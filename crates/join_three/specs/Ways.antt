-- What two calls of `merge_with` come to, the second on what the first left: which were made, what each answered, and what each
-- left in every number lent to it.
-- Assumes nothing: these are definitions.
use Rattle.record.specs.declared.Refusal.{Refusal}
use Rattle.std.specs.Prelude.{Bool, List, ℕ, Result}
use Rattle.record.specs.declared.Written.{Written}
use Rattle.join.specs.Demand.{Called}
use Rattle.join_next.specs.Next.{Stopped, Next}

-- "A with B and the result with C": by way of a store that held ab and ab-rows, into an output that held nodes and rows
pub record LeftWay (growing : Bool) (nodesA rowsA nodesB rowsB nodesC rowsC ab ab_rows nodes rows ab' ab_rows' nodes' rows' : List ℕ) (answer : Result Written Refusal) : Type 0 where
  pub first : Result Written Refusal
  pub a_with_b : Called growing nodesA rowsA nodesB rowsB ab ab_rows ab' ab_rows' first
  pub ab_with_c : Next first ab' ab_rows' (λ k. Stopped k answer nodes rows nodes' rows') (λ xs rs. Called growing xs rs nodesC rowsC nodes rows nodes' rows' answer)

-- "B with C, then A with that result"
pub record RightWay (growing : Bool) (nodesA rowsA nodesB rowsB nodesC rowsC bc bc_rows nodes rows bc' bc_rows' nodes' rows' : List ℕ) (answer : Result Written Refusal) : Type 0 where
  pub first : Result Written Refusal
  pub b_with_c : Called growing nodesB rowsB nodesC rowsC bc bc_rows bc' bc_rows' first
  pub a_with_bc : Next first bc' bc_rows' (λ k. Stopped k answer nodes rows nodes' rows') (λ xs rs. Called growing nodesA rowsA xs rs nodes rows nodes' rows' answer)
