-- What the lookups of a row find, by the numbers of the top node and of its rows.
-- Assumes nothing.
use mathlib.Core.Path.{◌≡◌, refl, sym, ap, ap₂, ◌∙◌}
use Prim.Native.Nat.{ℕ, ◌+◌, ◌*◌, ◌≤◌, ◌<◌}
use native.Mathlib.Omega.{arith}
use mathlib.Core.Bool.{true}
use mathlib.Core.Option.{Option, none as nothing, some, bind, map}
use mathlib.Core.List.{List}
use lib.ListN.{length, get_or}
use borrow.Author.Tests.{eq-eqb, ne_eqb}
use Rattle.record.specs.Tree.{Row, Encoding}
use Rattle.record.specs.Flat.{row_width}
use Rattle.record.specs.Read.{read, is_one}
use Rattle.record.specs.Standing.{One}
use Rattle.record.proofs.One.{one_there, one_size, one_rows_long}
use Rattle.lookup_holding.specs.Holding.{Placed, token_to_sequence}
use Rattle.lookup_search.specs.Promises.{at_word_mark, at_word, at_offset_start, at_offset_end}
use Rattle.lookup_search.proofs.Stored.{no_row, one_begins, stored_word_mark, stored_word, stored_offset_start, stored_offset_end}
use Rattle.lookup_search.proofs.Parts.{there, not_there}
use Rattle.lookup_tokens.specs.Tokens.{of_token, token_to_chars, token_to_word, word_of}

pub row_inside_lem : (nodes rows : List ℕ) (row : ℕ) → is_one (read nodes rows) ≡ true → row < get_or nodes 0 0 → row * row_width + row_width ≤ length rows
row_inside_lem nodes rows row e h =
    let (E, one) = one_there nodes rows e in
    omega (arith, one_size one, one_rows_long one)

module _ {A : Type 0} {nodes rows : List ℕ} {E : Encoding} (one : One nodes rows E) (row : ℕ) (k : Row → Option A) where
  -- past the last row
  pub of_past : get_or nodes 0 0 ≤ row → of_token E row k ≡ nothing
  unfolding of_token bind
  of_past h = rw (not_there E.rows row (omega (arith, one_size one))) (go (token_to_sequence E row))
    where
      go : (o : Option Placed) → bind {B = Placed × A} o (λ p. nothing) ≡ nothing
      go nothing = refl
      go (some p) = refl

  -- in no sequence
  pub of_unplaced : token_to_sequence E row ≡ nothing → of_token E row k ≡ nothing
  unfolding of_token bind
  of_unplaced e = rw e

  pub of_row_lem : (p : Placed) → row < get_or nodes 0 0 → token_to_sequence E row ≡ some p → of_token E row k ≡ map (λ v. (p, v)) (k (get_or E.rows row no_row))
  unfolding of_token bind
  of_row_lem p h e = rw (e, there E.rows row no_row (omega (arith, one_size one)))

  -- a row of which k says nothing
  pub of_nothing : row < get_or nodes 0 0 → k (get_or E.rows row no_row) ≡ nothing → of_token E row k ≡ nothing
  of_nothing h e = go (token_to_sequence E row) refl
    where
      go : (o : Option Placed) → token_to_sequence E row ≡ o → of_token E row k ≡ nothing
      go nothing s = of_unplaced s
      go (some p) s = of_row_lem p h s ∙ ap (map (λ v. (p, v))) e

module _ {nodes rows : List ℕ} {E : Encoding} (one : One nodes rows E) (row : ℕ) (h : row < get_or nodes 0 0) where
  inside : row < length E.rows
  inside = omega (arith, one_size one)

  pub chars_stored : (p : Placed) → token_to_sequence E row ≡ some p → token_to_chars E row ≡ some (p, record { start = get_or rows (row * row_width + at_offset_start) 0; end = get_or rows (row * row_width + at_offset_end) 0 })
  unfolding token_to_chars
  chars_stored p e = of_row_lem one row _ p h e ∙ ap₂ (λ (a b : ℕ). some (p, record { start = a; end = b })) (sym (stored_offset_start (one_begins one) row inside)) (sym (stored_offset_end (one_begins one) row inside))

  pub word_unmarked : (get_or rows (row * row_width + at_word_mark) 0 ≡ 1 → ⊥) → token_to_word E row ≡ nothing
  unfolding token_to_word
  word_unmarked m = of_nothing one row word_of h (rw (ne_eqb (get_or E.rows row no_row).word_mark 1 (λ e. m (stored_word_mark (one_begins one) row inside ∙ e))))

  pub word_stored : (p : Placed) → get_or rows (row * row_width + at_word_mark) 0 ≡ 1 → token_to_sequence E row ≡ some p → token_to_word E row ≡ some (p, get_or rows (row * row_width + at_word) 0)
  unfolding token_to_word
  word_stored p m e =
      of_row_lem one row word_of p h e
      ∙ rw (eq-eqb (get_or E.rows row no_row).word_mark 1 (sym (stored_word_mark (one_begins one) row inside) ∙ m)) (ap (λ (w : ℕ). some (p, w)) (sym (stored_word (one_begins one) row inside)))
