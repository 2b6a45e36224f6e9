-- The text of a row (document 01, module 2): where it lies, and the part of its pool.
-- Assumes nothing: these are definitions.
use Rattle.std.specs.Prelude.{ℕ, ◌+◌, cond, List, [], leb, eqb, length, take, drop, Option as Answer, Some, None, Result, Ok, Err}
use Rattle.record.specs.Tree.{Row}
use Rattle.record.specs.Read.{Reading, of_any}
use Rattle.record.specs.Walk.{all_rows}
use Rattle.record.specs.declared.Refusal.{Refusal}
use Rattle.record.specs.declared.Refusal.TheVariants.{MalformedRecord, TextOutsidePool}
use Rattle.lookup_texts.specs.Numbered.{numbered}
use Rattle.lookup_texts.specs.declared.TextPlace.{TextPlace}

-- "pool (0 token texts, 1 added texts)": whichever of the two holds the text
abbrev pub pool_of : ℕ → List ℕ → List ℕ → List ℕ
pool_of pool tokens added = cond (eqb pool 0) tokens added

-- "then 14 if start + length passes the pool"
unfoldable pub text_of : List ℕ → List ℕ → Row → Result (Answer TextPlace) Refusal
text_of tokens added r = cond (leb (r.text_start + r.text_length) (length (pool_of r.pool tokens added))) (Ok (Some (record { pool = r.pool; start = r.text_start; length = r.text_length }))) (Err TextOutsidePool)

-- "Text: 1, then none past the last row", numbered "through the whole batch"
unfoldable pub text_answer : Reading → ℕ → List ℕ → List ℕ → Result (Answer TextPlace) Refusal
text_answer batch row tokens added = of_any (Err MalformedRecord) (λ f. numbered (Ok None) (text_of tokens added) (all_rows f) row) batch

-- "another gives the part, which is empty unless the first says found"
abbrev pub part_of : Result (Answer TextPlace) Refusal → List ℕ → List ℕ → List ℕ
part_of (Err k) tokens added = []
part_of (Ok None) tokens added = []
part_of (Ok (Some t)) tokens added = take t.length (drop t.start (pool_of t.pool tokens added))
