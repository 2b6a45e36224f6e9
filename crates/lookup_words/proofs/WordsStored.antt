-- What the lookups of a word find, by the numbers of the top node and of its rows.
-- Assumes nothing.
use mathlib.Core.Path.{◌≡◌, sym, ap, ap₂, ◌∙◌}
use Prim.Native.Nat.{ℕ, ◌+◌, ◌-◌, ◌*◌, ◌≤◌, ◌<◌}
use native.Mathlib.Omega.{arith}
use mathlib.Core.Bool.{true}
use mathlib.Core.Option.{some}
use mathlib.Core.List.{List}
use lib.ListN.{length, get_or}
use Rattle.record.specs.Tree.{Encoding}
use Rattle.record.specs.Flat.{row_width}
use Rattle.record.specs.Read.{read, is_one}
use Rattle.record.specs.Standing.{One}
use Rattle.record.proofs.One.{one_there, one_rows_long}
use Rattle.lookup_ranges.specs.First.{part}
use Rattle.lookup_ranges.specs.Ranges.{sequence_range}
use Rattle.record.specs.declared.Bounds.{Bounds}
use Rattle.lookup_ranges.proofs.Ranges.{range_within}
use Rattle.lookup_search.proofs.Stored.{one_begins, stored_offset_start, stored_offset_end}
use Rattle.lookup_search.specs.Promises.{OfOne, at_offset_start, at_offset_end}
use Rattle.lookup_words.proofs.WordLaws.{words_found, chars_found}
use Rattle.lookup_search.specs.Searches.{word_rows}
use Rattle.lookup_words.specs.Words.{word_to_tokens, word_to_chars}

pub word_in : (E : Encoding) (word id : ℕ) (b : Bounds) → b ≡ sequence_range E id → word_rows word b.start (part b.start b.end E.rows) ≡ word_to_tokens E word id
unfolding word_to_tokens
word_in E word id b e = ap (λ (b : Bounds). word_rows word b.start (part b.start b.end E.rows)) e

-- ---- The characters of a found word

module _ (nodes rows : List ℕ) (e : is_one (read nodes rows) ≡ true) (word id : ℕ) (b : Bounds) (f : OfOne nodes rows (λ E. word_to_tokens E word id ≡ some b)) where
  pub word_ordered : b.start < b.end
  word_ordered = let (E, one) = one_there nodes rows e in (words_found one id word b (f E one)).ordered

  pub first_inside : b.start * row_width + row_width ≤ length rows
  first_inside =
      let (E, one) = one_there nodes rows e in
      let found = words_found one id word b (f E one) in
      omega (arith, found.ordered, found.to, (range_within one id).1, one_rows_long one)

  pub last_inside : (b.end - 1) * row_width + row_width ≤ length rows
  last_inside =
      let (E, one) = one_there nodes rows e in
      let found = words_found one id word b (f E one) in
      omega (arith, found.ordered, found.to, (range_within one id).1, one_rows_long one)

pub word_chars_stored : {nodes rows : List ℕ} {E : Encoding} → One nodes rows E → (id word : ℕ) (b : Bounds) → word_to_tokens E word id ≡ some b → word_to_chars E word id ≡ some (record { start = get_or rows (b.start * row_width + at_offset_start) 0; end = get_or rows ((b.end - 1) * row_width + at_offset_end) 0 })
word_chars_stored one id word b e =
    let found = words_found one id word b e in
    let within = (range_within one id).1 in
    chars_found one id word b e
    ∙ ap₂ (λ (a b : ℕ). some (record { start = a; end = b })) (sym (stored_offset_start (one_begins one) b.start (omega (arith, found.ordered, found.to)))) (sym (stored_offset_end (one_begins one) (b.end - 1) (omega (arith, found.ordered, found.to))))
