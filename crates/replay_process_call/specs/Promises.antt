-- What comparing a fault with a case promises.
-- Assumes nothing: this is a definition.
use Rattle.std.specs.Prelude.{◌≡◌, ◌⊎◌, ℕ, List, get_or}

-- the refusal is answered of a fault only if its numbers are those of the case
abbrev pub FaultAs : List ℕ → List ℕ → ℕ → ℕ → Type 0
FaultAs fault rest refusal r = ((r ≡ refusal) × (get_or rest 4 0 ≡ get_or fault 0 0) × (get_or rest 5 0 ≡ get_or fault 1 0)) ⊎ (r ≡ 4294967295)
