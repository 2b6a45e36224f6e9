-- What the functions that write text give.
-- Assumes nothing: this is a definition.
use Rattle.std.specs.Prelude.{◌≡◌, ℕ, ◌+◌, List, length}
use Rattle.std.proofs.lemmas.List.Edits.{sets}

-- `text` was written from `at` on, up to `next`; every other byte is as it was
pub record WroteText (text : List ℕ) (out : List ℕ) (at next : ℕ) (out' : List ℕ) : Type 0 where
  pub put : out' ≡ sets out at text
  pub ends : next ≡ at + length text
