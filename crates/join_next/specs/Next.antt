-- What the answer of one call of `merge_with` leads to, where a second is to be made on what it left.
-- Assumes nothing: these are definitions.
use Rattle.std.specs.Prelude.{◌≡◌, List, ℕ, ◌*◌, take, Result, Err, Ok}
use Rattle.record.specs.Flat.{row_width, node_width}
use Rattle.record.specs.declared.Refusal.{Refusal}
use Rattle.record.specs.declared.Written.{Written}

-- There was no second call: the way answers with the refusal k of the first, and its output is as it was.
pub record Stopped (k : Refusal) (answer : Result Written Refusal) (nodes rows nodes' rows' : List ℕ) : Type 0 where
  pub answers : answer ≡ Err k
  pub nodes_left : nodes' ≡ nodes
  pub rows_left : rows' ≡ rows

-- What the first call's answer leads to: it stopped the way; or there was a second call, on as many numbers from the front of
-- the first one's output as its answer tells.
abbrev pub Next : Result Written Refusal → List ℕ → List ℕ → (Refusal → Type 0) → (List ℕ → List ℕ → Type 0) → Type 0
Next (Err k) nodes rows stopped called = stopped k
Next (Ok w) nodes rows stopped called = called (take (w.nodes * node_width) nodes) (take (w.rows * row_width) rows)
