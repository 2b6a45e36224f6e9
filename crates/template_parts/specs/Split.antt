-- Splitting a text at a byte, as the standard library's page for `str::split` has it: "Contiguous separators are separated
-- by the empty string"; "Separators at the start or end of a string are neighbored by empty strings".
-- That the parts joined by single separators give the text back, that no part holds one, and that no other parts do both
-- is shown in proofs/Split.
-- Assumes nothing: these are definitions.
use Rattle.std.specs.Prelude.{◌≡◌, cond, ℕ, List, [], ◌∷◌, ◌++◌, eqb}
use Rattle.lists.specs.Lists.{All}

-- a byte put in front of the first part
abbrev pub led : ℕ → List (List ℕ) → List (List ℕ)
led byte [] = (byte ∷ []) ∷ []
led byte (part ∷ parts) = (byte ∷ part) ∷ parts

-- the parts of a text: one more than it has separators
unfoldable pub split : ℕ → List ℕ → List (List ℕ)
split separator [] = [] ∷ []
split separator (byte ∷ text) = cond (eqb byte separator) ([] ∷ split separator text) (led byte (split separator text))

-- parts with a single separator between each and the next
unfoldable pub joined_by : ℕ → List (List ℕ) → List ℕ
joined_by separator [] = []
joined_by separator (part ∷ []) = part
joined_by separator (part ∷ next ∷ parts) = part ++ (separator ∷ joined_by separator (next ∷ parts))

-- a text in which a byte does not occur
abbrev pub Without : ℕ → List ℕ → Type 0
Without separator text = All (λ (byte : ℕ). byte ≡ separator → ⊥) text
