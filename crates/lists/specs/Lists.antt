-- What is said of lists, and of tests, everywhere.
-- Assumes nothing: these are definitions.
use Rattle.std.specs.Prelude.{ℕ, Bool, true, false, cond, List, [], ◌∷◌, length, replicate}

-- Each element is such a one.
abbrev pub All {ℓ} : {A : Type ℓ} → (A → Type 0) → List A → Type 0
All M [] = Unit {0}
All M (x ∷ xs) = M x × All M xs

-- As many zeros.
abbrev pub zeros : List ℕ → List ℕ
zeros was = replicate (length was) 0

-- 1 for yes.
unfoldable pub one : Bool → ℕ
one b = cond b 1 0

-- A test that says exactly whether something holds.
abbrev pub Decides : Bool → Type 0 → Type 0
Decides true P = P
Decides false P = P → ⊥
