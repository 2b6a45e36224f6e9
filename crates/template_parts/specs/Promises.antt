-- What looking for a byte gives.
-- Assumes nothing: these are definitions.
use Rattle.std.specs.Prelude.{◌≡◌, ℕ, ◌+◌, ◌≤◌, List, length, drop}
use Rattle.template_parts.specs.Parts.{length_to}

-- The place of the first such byte from a place on, or the end. The bounds follow from `place`, and are stated so that a
-- part of the text needs no proof.
pub record FoundFrom (text : List ℕ) (at byte found : ℕ) : Type 0 where
  pub place : found ≡ at + length_to byte (drop at text)
  pub after : at ≤ found
  pub inside : found ≤ length text
