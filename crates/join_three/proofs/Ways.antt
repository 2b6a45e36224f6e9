-- A call's result stands in the output that was lent to it, so that a second call can be made on it.
-- Assumes nothing.
use Rattle.record.specs.declared.Refusal.{Refusal}
use Rattle.std.specs.Prelude.{Result, Ok}
use mathlib.Core.Path.{◌≡◌, ap, ◌∙◌, subst}
use mathlib.Core.Bool.{Bool}
use mathlib.Core.List.{List}
use Prim.Native.Nat.{ℕ, ◌≤◌}
use native.Mathlib.Omega.{arith}
use lib.ListN.{length, take, length-take}
use Rattle.record.specs.declared.Written.{Written}
use Rattle.join.specs.Demand.{Called, Call}
use Rattle.join.proofs.Demand.{call_left}
use Rattle.join_next.specs.Promises.{StoreHolds}

-- a call that answered so
abbrev pub call : {g : Bool} {xs rs ys ss nodes rows nodes' rows' : List ℕ} {w : Result Written Refusal} → Called g xs rs ys ss nodes rows nodes' rows' w → (n m : ℕ) → w ≡ Ok (record { nodes = n; rows = m }) → Call g xs rs ys ss
call {g} {xs} {rs} {ys} {ss} {nodes} {rows} {nodes'} {rows'} c n m e =
    record { nodes = nodes; rows = rows; nodes_after = nodes'; rows_after = rows'; node_count = n; row_count = m; called = subst (λ (w : Result Written Refusal). Called g xs rs ys ss nodes rows nodes' rows' w) e c }

taken : (k : ℕ) (l : List ℕ) → length (take k l) ≡ k → k ≤ length l
taken k l e = let h = length-take k l in omega (arith, h, e)

pub stands : {g : Bool} {xs rs ys ss nodes rows nodes' rows' : List ℕ} {w : Result Written Refusal} → Called g xs rs ys ss nodes rows nodes' rows' w → StoreHolds w nodes' rows'
stands {nodes' = nodes'} {rows' = rows'} c = record {
  nodes_stand = λ n m e. let l = call_left (call c n m e) in taken _ nodes' (ap length l.nodes_are ∙ l.nodes_long);
  rows_stand = λ n m e. let l = call_left (call c n m e) in taken _ rows' (ap length l.rows_are ∙ l.rows_long);
}
