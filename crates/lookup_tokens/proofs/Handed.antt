-- What is told of a row is told with its sequence and its place there, as `token_to_sequence` has them: the lookups from row
-- to characters and from row to word hand them on, and tell nothing of a row that has none.
-- Assumes nothing.
use mathlib.Core.Path.{◌≡◌, refl, ap, ◌∙◌}
use Prim.Native.Nat.{ℕ, ◌<◌}
use mathlib.Core.Option.{Option, none as nothing, some, bind, map, none-ne-some, some-injective}
use lib.ListN.{length, get_elem?}
use Rattle.record.specs.Tree.{Row, Encoding}
use Rattle.lookup_holding.specs.Holding.{Placed, token_to_sequence}
use Rattle.lookup_search.proofs.Stored.{no_row}
use Rattle.lookup_search.proofs.Parts.{there, get_d_there, inside_there}
use Rattle.lookup_search.proofs.InRange.{the_row}
use Rattle.lookup_tokens.specs.Tokens.{of_token, word_of, token_to_word}

-- The row is there and has the sequence and the place p, and v is what k says of it.
pub record Handed {A : Type 0} (E : Encoding) (row : ℕ) (k : Row → Option A) (p : Placed) (v : A) : Type 0 where
  pub placed : token_to_sequence E row ≡ some p
  pub inside : row < length E.rows
  pub said : k (the_row E row) ≡ some v

module _ {A : Type 0} (E : Encoding) (row : ℕ) (k : Row → Option A) (p : Placed) (v : A) where
  pub on_hand : Handed E row k p v → of_token E row k ≡ some (p, v)
  unfolding of_token bind
  on_hand h = rw (h.placed, there E.rows row no_row h.inside, h.said)

  pub handed_on : of_token E row k ≡ some (p, v) → Handed E row k p v
  unfolding of_token bind
  handed_on e = go (token_to_sequence E row) refl e
    where
      both : (o : Option A) (q : Placed) → map {B = Placed × A} (λ w. (q, w)) o ≡ some (p, v) → (q ≡ p) × (o ≡ some v)
      both nothing q e = absurd (none-ne-some _ e)
      both (some w) q e =
          let z = some-injective _ _ e in
          (ap (λ (f : Placed × A). f.0) z, ap (λ (f : Placed × A). some f.1) z)

      went : (o : Option Row) (q : Placed) → get_elem? E.rows row ≡ o → token_to_sequence E row ≡ some q → bind {B = Placed × A} o (λ r. map {B = Placed × A} (λ w. (q, w)) (k r)) ≡ some (p, v) → Handed E row k p v
      went nothing q t u e = absurd (none-ne-some _ e)
      went (some r) q t u e =
          let b = both (k r) q e in
          record { placed = u ∙ ap some b.0; inside = inside_there E.rows row r t; said = ap k (get_d_there E.rows row no_row r t) ∙ b.1 }

      go : (o : Option Placed) → token_to_sequence E row ≡ o → bind {B = Placed × A} o (λ q. bind {B = Placed × A} (get_elem? E.rows row) (λ r. map {B = Placed × A} (λ w. (q, w)) (k r))) ≡ some (p, v) → Handed E row k p v
      go nothing u e = absurd (none-ne-some _ e)
      go (some q) u e = went (get_elem? E.rows row) q refl u e

pub word_handed_on : (E : Encoding) (row : ℕ) (p : Placed) (word : ℕ) → token_to_word E row ≡ some (p, word) → Handed E row word_of p word
unfolding token_to_word
word_handed_on E row p word e = handed_on E row word_of p word e
