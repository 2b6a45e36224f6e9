-- What the functions that take a piece of the input give.
-- Assumes nothing: these are definitions.
use Rattle.std.specs.Prelude.{◌≡◌, ℕ, ◌≤◌, ◌<◌, List, ◌++◌, length, drop}
use Rattle.report_held.specs.Promises.{resumed, Partial}
use Rattle.report_held.specs.declared.Held.{Held}
use Rattle.report_input.specs.declared.Step.{Step}

-- more of a piece was taken: what is held says the same of the input as before
pub record Moves (piece : List ℕ) (from : Step) (batch : List ℕ) (r : Step) (batch' : List ℕ) : Type 0 where
  pub goes : from.at < r.at
  pub inside : r.at ≤ length piece
  pub partial : Partial batch' r.held.bytes
  pub same : (more : List ℕ) → resumed r.held batch' (drop r.at piece ++ more) ≡ resumed from.held batch (drop from.at piece ++ more)

-- all of it was
pub record Feeds (piece : List ℕ) (before : Held) (batch : List ℕ) (r : Held) (batch' : List ℕ) : Type 0 where
  pub partial : Partial batch' r.bytes
  pub same : (more : List ℕ) → resumed r batch' more ≡ resumed before batch (piece ++ more)
