-- What the functions of this crate ask of the first call's answer and give.
-- Assumes nothing: these are definitions.
use Rattle.record.specs.declared.Refusal.{Refusal}
use Rattle.std.specs.Prelude.{◌≡◌, Bool, List, ℕ, ◌*◌, ◌≤◌, length, Result, Ok}
use Rattle.record.specs.Flat.{row_width, node_width}
use Rattle.record.specs.declared.Written.{Written}
use Rattle.join.specs.Demand.{Called}
use Rattle.join_next.specs.Next.{Stopped, Next}

-- the store has as many numbers as the answer tells
pub record StoreHolds (first : Result Written Refusal) (nodes rows : List ℕ) : Type 0 where
  pub nodes_stand : (n m : ℕ) → first ≡ Ok (record { nodes = n; rows = m }) → n * node_width ≤ length nodes
  pub rows_stand : (n m : ℕ) → first ≡ Ok (record { nodes = n; rows = m }) → m * row_width ≤ length rows

-- what the first call left, with C; and A with it
pub record ThenLeft (growing : Bool) (first : Result Written Refusal) (ab ab_rows nodesC rowsC nodes rows nodes' rows' : List ℕ) (answer : Result Written Refusal) : Type 0 where
  pub ab_with_c : Next first ab ab_rows (λ k. Stopped k answer nodes rows nodes' rows') (λ xs rs. Called growing xs rs nodesC rowsC nodes rows nodes' rows' answer)

pub record ThenRight (growing : Bool) (first : Result Written Refusal) (nodesA rowsA bc bc_rows nodes rows nodes' rows' : List ℕ) (answer : Result Written Refusal) : Type 0 where
  pub a_with_bc : Next first bc bc_rows (λ k. Stopped k answer nodes rows nodes' rows') (λ xs rs. Called growing nodesA rowsA xs rs nodes rows nodes' rows' answer)
