-- An input that comes in pieces: what is held of it at any time, and what the functions that settle that ask and give.
-- Assumes nothing: these are definitions.
use Rattle.std.specs.Prelude.{◌≡◌, ◌⊎◌, ℕ, ◌+◌, ◌*◌, ◌≤◌, ◌<◌, List, ◌++◌, length, take, Result}
use Rattle.words.specs.Words.{word_bytes}
use Rattle.report_trees.specs.Report.{then_added}
use Rattle.report_trees.specs.declared.Report.{Report}
use Rattle.record.specs.declared.Refusal.{Refusal}
use Rattle.report_stored.specs.Stored.{head_bytes, stored_size}
use Rattle.report_held.specs.Input.{most_stored, report_from}
use Rattle.report_held.specs.declared.Held.{Held}

-- what is told of an input of which this is known, once `more` has come as the rest of it: the bytes held are the beginning of a
-- batch that has not come whole
unfoldable pub resumed : Held → List ℕ → List ℕ → Result Report Refusal
resumed held batch more = then_added held.report (λ r. report_from r (take held.bytes batch ++ more))

-- the store for a batch, and for its numbers
pub record LentStores (batch numbers : List ℕ) : Type 0 where
  pub batch_long : length batch ≡ most_stored
  pub numbers_long : most_stored ≤ head_bytes + length numbers * word_bytes

-- of a batch so many bytes have come: not both counts, or both, and fewer bytes than these say, which are not too many
abbrev pub Partial : List ℕ → ℕ → Type 0
Partial batch n = (n < head_bytes) ⊎ ((head_bytes ≤ n) × (n < stored_size batch) × (stored_size batch ≤ most_stored))

-- so many bytes are taken next, of so many that are there: some, and none of what follows the counts or the batch
pub record TakesNext (batch : List ℕ) (n left r : ℕ) : Type 0 where
  pub some : 0 < r
  pub there : r ≤ left
  pub counts : n < head_bytes → n + r ≤ head_bytes
  pub whole : head_bytes ≤ n → n + r ≤ stored_size batch
  pub fits : n + r ≤ most_stored

-- so many bytes of a batch have come: not more than both counts, or not more than these say
abbrev pub Arrived : List ℕ → ℕ → Type 0
Arrived batch n = (n ≤ head_bytes) ⊎ ((head_bytes ≤ n) × (n ≤ stored_size batch) × (stored_size batch ≤ most_stored))

-- what is held of an input says the same of it as a report and so many bytes of a batch
pub record Settles (batch : List ℕ) (n : ℕ) (report : Report) (r : Held) : Type 0 where
  pub partial : Partial batch r.bytes
  pub same : (more : List ℕ) → resumed r batch more ≡ report_from report (take n batch ++ more)
