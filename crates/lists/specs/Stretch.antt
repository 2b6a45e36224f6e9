-- Numbers that stand at a place of a list.
-- Assumes nothing: this is a definition.
use Rattle.std.specs.Prelude.{◌≡◌, List, ◌++◌, ℕ, drop}

-- The numbers from i on begin with xs.
pub record Stretch (l : List ℕ) (i : ℕ) (xs : List ℕ) : Type 0 where
  pub rest : List ℕ
  pub is : drop i l ≡ xs ++ rest
