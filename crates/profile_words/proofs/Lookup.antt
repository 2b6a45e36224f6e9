-- The theorem of request 08 on words: in a record that passes the profile, looking up a word under an id with a range, or in a
-- record without ranges, finds nothing exactly if no row there carries it, and otherwise spans every row that does.
-- Assumes nothing.
use mathlib.Core.Path.{◌≡◌, refl, sym, ◌∙◌}
use mathlib.Core.Bool.{true, false≢true}
use mathlib.Core.Option.{Option, none as nothing, some, some-ne-none}
use Prim.Native.Nat.{ℕ, ◌-◌, ◌≤◌, ◌<◌}
use native.Mathlib.Omega.{arith}
use mathlib.Core.List.{List}
use lib.ListN.{length, get_or}
use Rattle.record.specs.Tree.{Row, Encoding}
use Rattle.record.specs.Read.{read}
use Rattle.record.specs.Standing.{One}
use Rattle.record.specs.declared.Bounds.{Bounds}
use Rattle.lookup_ranges.specs.First.{first_from, last_from, until}
use Rattle.lookup_ranges.specs.Ranges.{sequence_range}
use Rattle.lookup_ranges.proofs.First.{first_found, first_nothing, last_found, last_nothing}
use Rattle.lookup_ranges.proofs.Ranges.{range_within}
use Rattle.lookup_search.specs.Searches.{above_word, is_word, from_to, in_range, word_rows}
use Rattle.lookup_search.proofs.Stored.{no_row}
use Rattle.lookup_search.proofs.Parts.{there, until_at}
use Rattle.lookup_search.proofs.InRange.{the_row, length_in_range, at}
use Rattle.lookup_words.specs.Words.{word_to_tokens}
use Rattle.lookup_words.proofs.WordLaws.{from_to_lem, words_found}
use Rattle.profile_trees.specs.Profile.{profile_answer}
use Rattle.std.specs.Prelude.{Ok, None}
use Rattle.profile_words.specs.Lookup.{Asked, Carries, FindsWord}
use Rattle.profile_words.proofs.Falls.{words_never_fall}
use Rattle.profile_words.proofs.Until.{carried_before}

module _ {nodes rows : List ℕ} {E : Encoding} (one : One nodes rows E) (word id : ℕ) where
  abbrev start : ℕ
  start = (sequence_range E id).start

  -- the rows that the search looks at
  abbrev looked : List Row
  looked = until (above_word word) (in_range E id)

  -- ---- Rows that carry the word

  carries : (row : ℕ) → start ≤ row → row < (sequence_range E id).end → is_word word (the_row E row) ≡ true → Carries E word id row
  carries row a b e = record { from = omega arith; to = omega (arith, (range_within one id).1); carried = rw (there E.rows row no_row (omega (arith, (range_within one id).1))) e }

  the_row_carries : {row : ℕ} → Carries E word id row → is_word word (the_row E row) ≡ true
  the_row_carries {row} c = rw (there E.rows row no_row (omega (arith, c.to, (range_within one id).1))) at c.carried

  -- ---- What the search finds

  both_found : (b : Bounds) → word_to_tokens E word id ≡ some b → (first_from (is_word word) start looked ≡ some b.start) × (last_from (is_word word) start looked ≡ some (b.end - 1)) × (0 < b.end)
  unfolding word_to_tokens word_rows
  both_found b e = from_to_lem (first_from (is_word word) start looked) (last_from (is_word word) start looked) b e

  -- it looks at the row, and finds the word there
  record Seen (row : ℕ) : Type 0 where
    pub inside : row - start < length looked
    pub holds : is_word word (get_or looked (row - start) no_row) ≡ true

  module _ (passes : profile_answer (read nodes rows) ≡ Ok None) (asked : Asked E id) where
    seen : {row : ℕ} → Carries E word id row → Seen row
    seen {row} c =
        let j : ℕ = row - start in
        let in-range : is_word word (get_or (in_range E id) j no_row) ≡ true = rw (at one id row c.from c.to) (the_row_carries c) in
        let inside : j < length looked = carried_before (in_range E id) (words_never_fall one passes id asked) word j (omega (arith, c.from, c.to, length_in_range one id)) in-range in
        record { inside = inside; holds = rw (until_at (above_word word) (in_range E id) j no_row inside) in-range }

    -- ---- "finds nothing exactly if no row there carries it"

    nothing_carried : word_to_tokens E word id ≡ nothing → (row : ℕ) → Carries E word id row → ⊥
    unfolding word_to_tokens word_rows
    nothing_carried e row c = go (first_from (is_word word) start looked) refl (last_from (is_word word) start looked) refl e
      where
        s : Seen row
        s = seen c

        go : (x : Option ℕ) → first_from (is_word word) start looked ≡ x → (y : Option ℕ) → last_from (is_word word) start looked ≡ y → from_to x y ≡ nothing → ⊥
        go nothing f y g e = false≢true (sym (first_nothing (is_word word) no_row start looked f (row - start) s.inside) ∙ s.holds)
        go (some x) f nothing g e = false≢true (sym (last_nothing (is_word word) no_row start looked g (row - start) s.inside) ∙ s.holds)
        go (some x) f (some y) g e = some-ne-none _ e

    -- ---- "and otherwise spans every row that does"

    module _ (b : Bounds) (e : word_to_tokens E word id ≡ some b) {row : ℕ} (c : Carries E word id row) where
      not_before : row < b.start → ⊥
      not_before h =
          let f = first_found (is_word word) no_row start looked b.start (both_found b e).0 in
          false≢true (sym (f.none_before (row - start) (omega (arith, c.from))) ∙ (seen c).holds)

      not_after : b.end ≤ row → ⊥
      not_after h =
          let p = both_found b e in
          let l = last_found (is_word word) no_row start looked (b.end - 1) p.1 in
          false≢true (sym (l.none_after (row - start) (omega (arith, p.2, l.from)) (seen c).inside) ∙ (seen c).holds)

  -- ---- The span begins and ends with such a row

  in_span : (b : Bounds) → word_to_tokens E word id ≡ some b → (row : ℕ) → b.start ≤ row → row < b.end → is_word word (the_row E row) ≡ true → Carries E word id row
  in_span b e row a h w =
      let f = words_found one id word b e in
      carries row (omega (arith, f.from)) (omega (arith, f.to)) w

  carried_nothing : ((row : ℕ) → Carries E word id row → ⊥) → word_to_tokens E word id ≡ nothing
  carried_nothing none = go (word_to_tokens E word id) refl
    where
      go : (o : Option Bounds) → word_to_tokens E word id ≡ o → word_to_tokens E word id ≡ nothing
      go nothing e = e
      go (some b) e =
          let f = words_found one id word b e in
          absurd (none b.start (in_span b e b.start (omega arith) f.ordered f.first))

-- "For records that pass, show that looking up a word under an id with a range, or in a record without ranges, finds nothing
-- exactly if no row there carries it, and otherwise spans every row that does."
pub finds_word : {nodes rows : List ℕ} {E : Encoding} → One nodes rows E → profile_answer (read nodes rows) ≡ Ok None → (word id : ℕ) → Asked E id → FindsWord E word id
finds_word one passes word id asked =
    record {
      nothing_carried = nothing_carried one word id passes asked;
      carried_nothing = carried_nothing one word id;
      spans = λ b e row c. (omega (arith, not_before one word id passes asked b e c), omega (arith, not_after one word id passes asked b e c));
      first = λ b e.
          let f = words_found one id word b e in
          in_span one word id b e _ (omega arith) (omega (arith, f.ordered)) f.first;
      last = λ b e.
          let f = words_found one id word b e in
          (omega (arith, f.ordered), in_span one word id b e _ (omega (arith, f.ordered)) (omega (arith, f.ordered)) f.last);
    }
