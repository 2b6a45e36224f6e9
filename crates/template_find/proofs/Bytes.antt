-- Two texts are the same if their bytes are: what the test says, and that it is the library's.
-- Assumes nothing.
use mathlib.Core.Path.{◌≡◌, refl, ap, ap₂}
use mathlib.Core.Bool.{Bool, ◌&&◌}
use Prim.Native.Nat.{ℕ}
use mathlib.Core.List.{List, [], ◌∷◌, tail-eq_of_cons-eq, head-eq_of_cons-eq}
use lib.Dec.{eqb}
use lib.Pointwise.{pointwise}
use Rattle.record.proofs.WellFormed.{Tells, tells_eq, tells_and, tells_as}
use Rattle.template_pieces.specs.Piece.{same}

-- ---- What the test says

pub same_tells : (a b : List ℕ) → Tells (same a b) (a ≡ b)
unfolding same
same_tells [] [] = record { so = λ e. refl; back = λ e. refl }
same_tells [] (y ∷ b) = record { so = λ e. cc; back = λ e. cc }
same_tells (x ∷ a) [] = record { so = λ e. cc; back = λ e. cc }
same_tells (x ∷ a) (y ∷ b) =
    tells_as (λ (h, t). ap₂ ◌∷◌ h t) (λ e. (head-eq_of_cons-eq e, tail-eq_of_cons-eq e))
    (tells_and (tells_eq x y) (same_tells a b))

-- ---- The test is that of the library

pub same_pointwise : (a b : List ℕ) → pointwise eqb a b ≡ same a b
unfolding same
same_pointwise [] [] = refl
same_pointwise [] (y ∷ b) = refl
same_pointwise (x ∷ a) [] = refl
same_pointwise (x ∷ a) (y ∷ b) = ap (λ (rest : Bool). eqb x y && rest) (same_pointwise a b)
