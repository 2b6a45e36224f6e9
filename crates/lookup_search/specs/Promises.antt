-- What the walks over rows ask and give, and of what the functions of lookup_words, lookup_tokens and lookup_chars speak that
-- know the record to be one encoding.
-- Assumes nothing: these are definitions.
use Rattle.std.specs.Prelude.{ℕ, ◌≤◌, cond, List, eqb, length}
use Rattle.std.proofs.Math.Option.{Option, none as nothing, some}
use Rattle.record.specs.Tree.{Row, Encoding}
use Rattle.record.specs.Standing.{One, RowsAt}
use Rattle.record.specs.declared.Bounds.{Bounds}

-- ---- The places in a row that the lookups read, as `Column` of record has them

abbrev pub at_word_mark : ℕ
at_word_mark = 5

abbrev pub at_word : ℕ
at_word = 6

abbrev pub at_offset_start : ℕ
at_offset_start = 7

abbrev pub at_offset_end : ℕ
at_offset_end = 8

-- ---- Of what the promises speak

-- What holds of the one encoding that the two lists store.
abbrev pub OfOne : List ℕ → List ℕ → (Encoding → Type 0) → Type 0
OfOne nodes rows P = (E : Encoding) → One nodes rows E → P E

-- What holds of all rows, at least `end` of them, that the numbers begin with.
abbrev pub OfRows : List ℕ → ℕ → (List Row → Type 0) → Type 0
OfRows rows end P = (l : List Row) → RowsAt rows 0 l → end ≤ length l → P l

-- The matches of a walk so far: none while `after` is 0.
abbrev pub matched : ℕ → ℕ → Option Bounds
matched first after = cond (eqb after 0) nothing (some (record { start = first; end = after }))
