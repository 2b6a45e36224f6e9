-- What each answer of the first call leads to.
-- Assumes nothing.
use Rattle.std.specs.Prelude.{Result, Err, Ok}
use mathlib.Core.Path.{◌≡◌, refl}
use mathlib.Core.Bool.{Bool}
use mathlib.Core.List.{List}
use Prim.Native.Nat.{ℕ, ◌*◌}
use lib.ListN.{take}
use Rattle.record.specs.Flat.{row_width, node_width}
use Rattle.record.specs.declared.Refusal.{Refusal}
use Rattle.record.specs.declared.Written.{Written}
use Rattle.join.specs.Demand.{Called}
use Rattle.join_next.specs.Next.{Stopped}
use Rattle.join_next.specs.Promises.{ThenLeft, ThenRight}

-- it was refused
abbrev stopped : {k : Refusal} {nodes rows : List ℕ} → Stopped k (Err k) nodes rows nodes rows
stopped = record { answers = refl; nodes_left = refl; rows_left = refl }

module _ {g : Bool} {first : Result Written Refusal} {xs rs ys ss nodes rows : List ℕ} (k : Refusal) (e : first ≡ Err k) where
  pub left_stopped : ThenLeft g first xs rs ys ss nodes rows nodes rows (Err k)
  left_stopped = record { ab_with_c = rw e stopped }

  pub right_stopped : ThenRight g first xs rs ys ss nodes rows nodes rows (Err k)
  right_stopped = record { a_with_bc = rw e stopped }

-- there was a second
module _ {g : Bool} {first : Result Written Refusal} {xs rs ys ss nodes rows nodes' rows' : List ℕ} {answer : Result Written Refusal} (n m : ℕ) (e : first ≡ Ok (record { nodes = n; rows = m })) where
  pub left_called : Called g (take (n * node_width) xs) (take (m * row_width) rs) ys ss nodes rows nodes' rows' answer → ThenLeft g first xs rs ys ss nodes rows nodes' rows' answer
  left_called c = record { ab_with_c = rw e c }

  pub right_called : Called g xs rs (take (n * node_width) ys) (take (m * row_width) ss) nodes rows nodes' rows' answer → ThenRight g first xs rs ys ss nodes rows nodes' rows' answer
  right_called c = record { a_with_bc = rw e c }
