-- The element of a list with a given number, all counting from 0.
-- Assumes nothing: this is a definition.
use Rattle.std.specs.Prelude.{ℕ, zero, suc, List, [], ◌∷◌}

-- what k says of the element with the number i, or otherwise where there is none
unfoldable pub numbered : {A B : Type 0} → B → (A → B) → List A → ℕ → B
numbered otherwise k [] i = otherwise
numbered otherwise k (x ∷ xs) zero = k x
numbered otherwise k (x ∷ xs) (suc i) = numbered otherwise k xs i
