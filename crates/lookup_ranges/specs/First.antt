-- Searches through a list: the place of the first and of the last element that a test holds of, and parts of a list.
-- That they find what they say is shown in proofs/First.
-- Assumes nothing: these are definitions.
use Rattle.std.specs.Prelude.{ℕ, suc, ◌-◌, Bool, cond, List, [], ◌∷◌, take, drop}
use Rattle.std.proofs.Math.Option.{Option, none as nothing, some}

abbrev pub or_else : {A : Type 0} → Option A → Option A → Option A
or_else nothing b = b
or_else (some a) b = some a

-- the place of the first element that t holds of, counted from n
unfoldable pub first_from : {A : Type 0} → (A → Bool) → ℕ → List A → Option ℕ
first_from t n [] = nothing
first_from t n (x ∷ xs) = cond (t x) (some n) (first_from t (suc n) xs)

-- the place of the last one
unfoldable pub last_from : {A : Type 0} → (A → Bool) → ℕ → List A → Option ℕ
last_from t n [] = nothing
last_from t n (x ∷ xs) = or_else (last_from t (suc n) xs) (cond (t x) (some n) nothing)

-- the elements before the first that t holds of
unfoldable pub until : {A : Type 0} → (A → Bool) → List A → List A
until t [] = []
until t (x ∷ xs) = cond (t x) [] (x ∷ until t xs)

-- the elements from place `start` up to, not including, place `end`
abbrev pub part : {A : Type 0} → ℕ → ℕ → List A → List A
part start end xs = take (end - start) (drop start xs)
