-- What each decision on a cut says of the row count, the max and the stride.
-- Assumes nothing.
use mathlib.Core.Path.{◌≡◌, refl}
use mathlib.Core.Bool.{Bool, true, false, cond}
use Prim.Native.Nat.{ℕ, ◌≤◌, ◌<◌}
use native.Mathlib.Nat.{pos_of_ne-zero}
use native.Mathlib.Omega.{arith}
use lib.Dec.{leb, eqb}
use lib.ListN.{length}
use borrow.Author.Tests.{leb-true, leb-false, eqb-true, eqb-false}
use Rattle.cut_plan.specs.Cut.{Cuts, windows_of, decision_of, count_of}
use Rattle.cut_plan.specs.declared.Direction.TheVariants.{Right}
use Rattle.cut_plan.specs.declared.Decision.{Decision}
use Rattle.cut_plan.specs.declared.Decision.TheVariants.{Whole, Emptied, StrideRefused, Windows}
use Rattle.cut_plan.proofs.Windows.{windows_count}

-- "3 exactly if 0 < max < row count and stride ≥ max"
pub record Refuses (rows max stride : ℕ) : Type 0 where
  pub some : 0 < max
  pub fewer : max < rows
  pub reached : max ≤ stride

abbrev pub Says : ℕ → ℕ → ℕ → Decision → Type 0
Says rows max stride Whole = rows ≤ max
Says rows max stride Emptied = (max ≡ 0) × (0 < rows)
Says rows max stride StrideRefused = Refuses rows max stride
Says rows max stride (Windows n) = Cuts rows max stride × (n ≡ count_of rows max stride)

pub decided : (rows max stride : ℕ) → Says rows max stride (decision_of rows max stride)
unfolding decision_of
decided rows max stride = go (leb rows max) (eqb max 0) (leb max stride) refl refl refl
  where
    go : (a b c : Bool) → leb rows max ≡ a → eqb max 0 ≡ b → leb max stride ≡ c → Says rows max stride (cond a Whole (cond b Emptied (cond c StrideRefused (Windows (length (windows_of rows max stride Right))))))
    go true b c p q r = leb-true rows max p
    go false true c p q r = (eqb-true max 0 q, omega (arith, leb-false rows max p))
    go false false true p q r = record { some = pos; fewer = leb-false rows max p; reached = leb-true max stride r }
      where
        pos : 0 < max
        pos = pos_of_ne-zero (eqb-false max 0 q)
    go false false false p q r = (h, windows_count h Right)
      where
        h : Cuts rows max stride
        h = record { fewer = leb-false rows max p; less = leb-false max stride r }
