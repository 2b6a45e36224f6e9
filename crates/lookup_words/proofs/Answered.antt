-- From the answer of the search for a word back to what the definitions say.
-- Assumes nothing.
use mathlib.Core.Path.{◌≡◌, sym, ap}
use mathlib.Core.Option.{Option, none as nothing, some}
use Rattle.std.specs.Prelude.{Option as Answer, Some, None}
use Rattle.record.specs.declared.Bounds.{Bounds}
use Rattle.lookup_ranges.specs.declared.Rows.{Rows}
use Rattle.lookup_search.specs.Answers.{tokens_answer}

abbrev pub tokens_back : Answer Rows → Option Bounds
tokens_back None = nothing
tokens_back (Some r) = some (record { start = r.start.0; end = r.end.0 })

pub tokens_back_lem : (o : Option Bounds) (a : Answer Rows) → a ≡ tokens_answer o → o ≡ tokens_back a
tokens_back_lem nothing a e = sym (ap tokens_back e)
tokens_back_lem (some b) a e = sym (ap tokens_back e)
