-- What `word_to_tokens` finds: rows of the range asked, at least one, of which the first and the last have the word; so
-- `word_to_chars` finds the word's characters exactly if it has rows.
-- Assumes nothing.
use mathlib.Core.Path.{◌≡◌, refl, sym, ap, ◌∙◌}
use Prim.Native.Nat.{ℕ, ◌+◌, ◌-◌, ◌≤◌, ◌<◌}
use native.Mathlib.Omega.{arith}
use mathlib.Core.Bool.{Bool, true, false, false≢true}
use mathlib.Core.Option.{Option, none as nothing, some, bind, none-ne-some, some-injective}
use mathlib.Core.List.{List}
use lib.Dec.{leb}
use lib.ListN.{length, get_or}
use borrow.Author.Tests.{leb-true, leb-false}
use Rattle.record.specs.Tree.{Encoding}
use Rattle.record.specs.Standing.{One}
use Rattle.lookup_ranges.specs.First.{until}
use Rattle.lookup_ranges.specs.Ranges.{sequence_range}
use Rattle.record.specs.declared.Bounds.{Bounds}
use Rattle.lookup_ranges.proofs.First.{first_found, last_found}
use Rattle.lookup_ranges.proofs.Ranges.{range_within}
use Rattle.lookup_words.specs.Words.{word_to_tokens, offsets_from, word_to_chars}
use Rattle.lookup_search.specs.Searches.{above_word, is_word, from_to, in_range, word_rows}
use Rattle.lookup_search.proofs.Stored.{no_row}
use Rattle.lookup_search.proofs.Parts.{there, length_until, until_at}
use Rattle.lookup_search.proofs.InRange.{the_row, length_in_range, at}

-- The rows from b.start up to b.end are in the range of the sequence, there is one, and the first and the last of them
-- have the word.
pub record TokensFound (E : Encoding) (word id : ℕ) (b : Bounds) : Type 0 where
  pub from : (sequence_range E id).start ≤ b.start
  pub ordered : b.start < b.end
  pub to : b.end ≤ (sequence_range E id).end
  pub first : is_word word (the_row E b.start) ≡ true
  pub last : is_word word (the_row E (b.end - 1)) ≡ true

pub from_to_lem : (x y : Option ℕ) (b : Bounds) → from_to x y ≡ some b → (x ≡ some b.start) × (y ≡ some (b.end - 1)) × (0 < b.end)
from_to_lem nothing y b e = absurd (none-ne-some b e)
from_to_lem (some m) nothing b e = absurd (none-ne-some b e)
from_to_lem (some m) (some n) b e =
    let z = some-injective _ _ e in
    let k : n + 1 ≡ b.end = ap (λ (b : Bounds). b.end) z in
    (ap (λ (b : Bounds). some b.start) z, ap some (omega arith), omega arith)

module _ {nodes rows : List ℕ} {E : Encoding} (one : One nodes rows E) (id : ℕ) where
  pub words_found : (word : ℕ) (b : Bounds) → word_to_tokens E word id ≡ some b → TokensFound E word id b
  unfolding word_to_tokens word_rows
  words_found word b e =
      let s = (sequence_range E id).start in
      let looked = until (above_word word) (in_range E id) in
      let p = from_to_lem _ _ b e in
      let f = first_found (is_word word) no_row s looked b.start p.0 in
      let g = last_found (is_word word) no_row s looked (b.end - 1) p.1 in
      let few = length_until (above_word word) (in_range E id) in
      let to : b.end ≤ (sequence_range E id).end = omega (arith, p.2, f.from, g.from, g.inside, few, length_in_range one id) in
      let row : (k : ℕ) → s ≤ k → k < s + length looked → get_or looked (k - s) no_row ≡ the_row E k = λ k a h. until_at (above_word word) (in_range E id) (k - s) no_row (omega arith) ∙ at one id k a (omega (arith, few, length_in_range one id)) in
      let order : b.start ≤ b.end - 1 = ordered b.start (b.end - 1) (λ h. false≢true (sym (f.none_before (b.end - 1 - s) (omega (arith, f.from, g.from))) ∙ g.holds)) in
      record {
        from = f.from;
        ordered = omega (arith, p.2);
        to = to;
        first = ap (is_word word) (sym (row b.start f.from f.inside)) ∙ f.holds;
        last = ap (is_word word) (sym (row (b.end - 1) g.from g.inside)) ∙ g.holds;
      }
    where
      ordered : (m n : ℕ) → (n < m → ⊥) → m ≤ n
      ordered m n never = go (leb m n) refl
        where
          go : (b : Bool) → leb m n ≡ b → m ≤ n
          go true t = leb-true m n t
          go false t = absurd (never (leb-false m n t))

  -- "the Rust also says none if that end row is 0": a found word ends at row 1 or later
  pub found_end : (word : ℕ) (b : Bounds) → word_to_tokens E word id ≡ some b → 1 ≤ b.end
  found_end word b e = omega (arith, (words_found word b e).ordered)

  pub chars_found : (word : ℕ) (b : Bounds) → word_to_tokens E word id ≡ some b → word_to_chars E word id ≡ some (record { start = (the_row E b.start).offset_start; end = (the_row E (b.end - 1)).offset_end })
  unfolding word_to_chars offsets_from bind
  chars_found word b e =
      let f = words_found word b e in
      let within = (range_within one id).1 in
      rw (e, there E.rows b.start no_row (omega (arith, f.ordered, f.to)), there E.rows (b.end - 1) no_row (omega (arith, f.ordered, f.to)))

  -- so it has no characters exactly if it has no rows
  pub chars_nothing : (word : ℕ) → word_to_tokens E word id ≡ nothing → word_to_chars E word id ≡ nothing
  unfolding word_to_chars bind
  chars_nothing word e = rw e

  pub tokens_nothing : (word : ℕ) → word_to_chars E word id ≡ nothing → word_to_tokens E word id ≡ nothing
  tokens_nothing word e = go (word_to_tokens E word id) refl
    where
      go : (o : Option Bounds) → word_to_tokens E word id ≡ o → word_to_tokens E word id ≡ nothing
      go nothing t = t
      go (some b) t = absurd (none-ne-some _ (sym e ∙ chars_found word b t))
