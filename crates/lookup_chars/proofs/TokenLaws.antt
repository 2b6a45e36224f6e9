-- What `token_to_chars` finds, and how it agrees with `char_to_token`: the row found for a place has characters that hold it;
-- and a place among a row's characters leads back to the row, where no earlier row of the range holds it. Likewise
-- `token_to_word` gives the word of the rows that `word_to_tokens` finds for it.
-- Assumes nothing.
use mathlib.Core.Path.{◌≡◌, refl, ap, ap₂}
use Prim.Native.Nat.{ℕ, ◌-◌, ◌≤◌, ◌<◌}
use native.Mathlib.Omega.{arith}
use mathlib.Core.Bool.{Bool, true, false, ◌&&◌, false≢true}
use mathlib.Core.Option.{Option, some, some-injective}
use mathlib.Core.List.{List}
use lib.Dec.{leb, ltb, eqb}
use lib.ListN.{length}
use borrow.Author.Tests.{leb-true, ltb-true, le-leb, lt-ltb, eqb-true}
use Rattle.record.specs.Tree.{Row, Encoding}
use Rattle.record.specs.Standing.{One}
use Rattle.lookup_ranges.specs.Ranges.{sequence_range}
use Rattle.record.specs.declared.Bounds.{Bounds}
use Rattle.lookup_ranges.proofs.Ranges.{range_within}
use Rattle.lookup_holding.specs.Holding.{Placed, token_to_sequence}
use Rattle.lookup_holding.proofs.Placed.{placed_in_sequence}
use Rattle.lookup_search.specs.Searches.{holds_place, is_word}
use Rattle.lookup_tokens.specs.Tokens.{token_to_chars, word_of, token_to_word}
use Rattle.lookup_chars.specs.Chars.{char_to_token}
use Rattle.lookup_words.specs.Words.{word_to_tokens}
use Rattle.lookup_words.proofs.WordLaws.{words_found}
use Rattle.lookup_chars.proofs.CharLaws.{char_found, char_is}
use Rattle.lookup_tokens.proofs.Handed.{on_hand, handed_on}
use Rattle.lookup_search.proofs.InRange.{the_row}

-- Row k has the sequence and the place p and the characters from b.start up to b.end.
pub record CharsFound (E : Encoding) (k : ℕ) (p : Placed) (b : Bounds) : Type 0 where
  pub placed : token_to_sequence E k ≡ some p
  pub inside : k < length E.rows
  pub starts : (the_row E k).offset_start ≡ b.start
  pub ends : (the_row E k).offset_end ≡ b.end

abbrev offsets : Row → Option Bounds
offsets r = some (record { start = r.offset_start; end = r.offset_end })

pub row_chars : (E : Encoding) (k : ℕ) (p : Placed) (b : Bounds) → CharsFound E k p b → token_to_chars E k ≡ some (p, b)
unfolding token_to_chars
row_chars E k p b f = on_hand E k offsets p b (record { placed = f.placed; inside = f.inside; said = ap₂ (λ (m n : ℕ). some (record { start = m; end = n })) f.starts f.ends })

pub row_chars_found : (E : Encoding) (k : ℕ) (p : Placed) (b : Bounds) → token_to_chars E k ≡ some (p, b) → CharsFound E k p b
unfolding token_to_chars
row_chars_found E k p b e =
    let h = handed_on E k offsets p b e in
    let z = some-injective _ _ h.said in
    record { placed = h.placed; inside = h.inside; starts = ap (λ (c : Bounds). c.start) z; ends = ap (λ (c : Bounds). c.end) z }

holds_both : (place : ℕ) (r : Row) → holds_place place r ≡ true → (r.offset_start ≤ place) × (place < r.offset_end)
holds_both place r e = go (leb r.offset_start place) refl e
  where
    go : (b : Bool) → leb r.offset_start place ≡ b → (b && ltb place r.offset_end) ≡ true → (r.offset_start ≤ place) × (place < r.offset_end)
    go true t e = (leb-true _ _ t, ltb-true _ _ e)
    go false t e = absurd (false≢true e)

both_hold : (place : ℕ) (r : Row) → r.offset_start ≤ place → place < r.offset_end → holds_place place r ≡ true
both_hold place r a b = rw (le-leb _ _ a, lt-ltb _ _ b)

module _ {nodes rows : List ℕ} {E : Encoding} (one : One nodes rows E) where
  -- the row found for a place has characters that hold it, if it has a sequence
  pub chars_hold : (id place k : ℕ) (p : Placed) → char_to_token E place id ≡ some k → token_to_sequence E k ≡ some p → (b : Bounds) × ((token_to_chars E k ≡ some (p, b)) × (b.start ≤ place) × (place < b.end))
  chars_hold id place k p e t =
      let f = char_found one id place k e in
      let h = holds_both place (the_row E k) f.holds in
      (record { start = (the_row E k).offset_start; end = (the_row E k).offset_end }, (row_chars E k p _ (record { placed = t; inside = omega (arith, f.to, (range_within one id).1); starts = refl; ends = refl }), h.0, h.1))

  -- a place among the characters of row k leads back to k, in a range that has the row and no earlier one that holds it
  pub chars_back : (id place k : ℕ) (p : Placed) (b : Bounds) → token_to_chars E k ≡ some (p, b) → b.start ≤ place → place < b.end → (sequence_range E id).start ≤ k → k < (sequence_range E id).end → ((j : ℕ) → (sequence_range E id).start ≤ j → j < k → holds_place place (the_row E j) ≡ false) → char_to_token E place id ≡ some k
  chars_back id place k p b e a o from to before =
      let f = row_chars_found E k p b e in
      char_is one id place k (record { from = from; to = to; holds = both_hold place (the_row E k) (omega (arith, f.starts)) (omega (arith, f.ends)); none_before = before })

  -- so it leads back to k in the row's own sequence, where no earlier row of the sequence holds it
  pub chars_back_own : (place k : ℕ) (p : Placed) (b : Bounds) → token_to_chars E k ≡ some (p, b) → b.start ≤ place → place < b.end → ((j : ℕ) → (sequence_range E p.sequence).start ≤ j → j < k → holds_place place (the_row E j) ≡ false) → char_to_token E place p.sequence ≡ some k
  chars_back_own place k p b e a o before =
      let f = row_chars_found E k p b e in
      let s = placed_in_sequence E k p f.placed in
      chars_back p.sequence place k p b e a o (omega (arith, s.counted)) (s.inside f.inside) before

-- ---- A row's word

is_both : (word : ℕ) (r : Row) → is_word word r ≡ true → (eqb r.word_mark 1 ≡ true) × (r.word ≡ word)
is_both word r e = go (eqb r.word_mark 1) refl e
  where
    go : (b : Bool) → eqb r.word_mark 1 ≡ b → (b && eqb r.word word) ≡ true → (eqb r.word_mark 1 ≡ true) × (r.word ≡ word)
    go true t e = (t, eqb-true _ _ e)
    go false t e = absurd (false≢true e)

pub row_word : (E : Encoding) (k : ℕ) (p : Placed) (word : ℕ) → token_to_sequence E k ≡ some p → k < length E.rows → is_word word (the_row E k) ≡ true → token_to_word E k ≡ some (p, word)
unfolding token_to_word
row_word E k p word e h w =
    let t = is_both word (the_row E k) w in
    on_hand E k word_of p word (record { placed = e; inside = h; said = rw t.0 (ap some t.1) })

-- the first and the last row found for a word have it, if they have a sequence
module _ {nodes rows : List ℕ} {E : Encoding} (one : One nodes rows E) where
  pub words_back : (id word : ℕ) (b : Bounds) (p : Placed) → word_to_tokens E word id ≡ some b → token_to_sequence E b.start ≡ some p → token_to_word E b.start ≡ some (p, word)
  words_back id word b p e t =
      let f = words_found one id word b e in
      row_word E b.start p word t (omega (arith, f.ordered, f.to, (range_within one id).1)) f.first

  pub words_back_last : (id word : ℕ) (b : Bounds) (p : Placed) → word_to_tokens E word id ≡ some b → token_to_sequence E (b.end - 1) ≡ some p → token_to_word E (b.end - 1) ≡ some (p, word)
  words_back_last id word b p e t =
      let f = words_found one id word b e in
      row_word E (b.end - 1) p word t (omega (arith, f.ordered, f.to, (range_within one id).1)) f.last
