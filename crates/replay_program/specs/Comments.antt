-- Which lines of the stored cases are skipped.
-- Assumes nothing: this is a definition.
use Rattle.std.specs.Prelude.{Bool, true, ℕ, List, [], ◌∷◌, eqb}

-- an empty line, and one that starts with `#`
abbrev pub skips : List ℕ → Bool
skips [] = true
skips (byte ∷ rest) = eqb byte 35
