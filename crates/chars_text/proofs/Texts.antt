-- What is said of a text: its characters put together are the text, and no others are; every place is at a character or inside
-- one; the number of characters before a place and the place of a character lead to each other; both are counted by
-- bytes that are no tails. Assumes nothing.
use mathlib.Core.Path.{◌≡◌, refl, ap, sym, ◌∙◌}
use mathlib.Core.Logic.{⊎_elim}
use mathlib.Core.Bool.{true, false, not, false≢true}
use Prim.Native.Nat.{ℕ, zero, suc, ◌≤◌, ◌<◌}
use native.Mathlib.Omega.{arith}
use mathlib.Core.List.{List, [], ◌∷◌, ◌++◌, append-nil, append_assoc, flatten}
use lib.ListN.{length, get_or, take, drop, length-append, take-append-drop}
use lib.Seq.{take_all, take-length}
use borrow.Author.Tests.{eqb-true}
use Rattle.lists.specs.Lists.{All}
use Rattle.lists.proofs.Numbers.{either}
use Rattle.chars_text.specs.Utf8.{tail, character}
use Rattle.chars_text.specs.Characters.{characters_in, characters, well_formed, chars_before, place_of, is_start, starts}
use Rattle.chars_text.proofs.Led.{Led, character_led}
use Rattle.chars_text.proofs.Reading.{in_none, in_step}
use Rattle.chars_text.proofs.Places.{Within, begun_few, place_begun, begun_place, between_place, begun_starts, between_byte, between_past, within_one}

-- ---- The characters of a text

pub in_led : (most : ℕ) (text : List ℕ) → All Led (characters_in most text)
unfolding characters_in
in_led zero text = tt
in_led (suc most) text = go (in_led most) (character text) refl
  where
    go : ((left : List ℕ) → All Led (characters_in most left)) → (n : ℕ) → character text ≡ n → All Led (characters_in (suc most) text)
    go after zero e = rw (in_none (suc most) text e) tt
    go after (suc n) e = rw (in_step most text n e) (character_led text n e, after (drop (suc n) text))

-- each is a byte that is no tail, and then tails
pub characters_led : (text : List ℕ) → All Led (characters text)
characters_led text = in_led (length text) text

-- the bytes that the characters leave
rest_in_lem : (most : ℕ) (text : List ℕ) → (rest : List ℕ) × (flatten (characters_in most text) ++ rest ≡ text)
unfolding characters_in flatten
rest_in_lem zero text = (text, refl)
rest_in_lem (suc most) text = go (rest_in_lem most) (character text) refl
  where
    go : ((left : List ℕ) → (rest : List ℕ) × (flatten (characters_in most left) ++ rest ≡ left)) → (n : ℕ) → character text ≡ n
        → (rest : List ℕ) × (flatten (characters_in (suc most) text) ++ rest ≡ text)
    go after zero e = rw (in_none (suc most) text e) (text, refl)
    go after (suc n) e =
        let left = after (drop (suc n) text) in
        rw (in_step most text n e) (
          left.0,
          append_assoc (take (suc n) text) (flatten (characters_in most (drop (suc n) text))) left.0
              ∙ ap (◌++◌ (take (suc n) text)) left.1
              ∙ take-append-drop (suc n) text,
        )

-- put together they are the text
pub characters_whole : (text : List ℕ) → well_formed text ≡ true → flatten (characters text) ≡ text
characters_whole text well = go (rest_in_lem (length text) text).0 (rest_in_lem (length text) text).1
  where
    go : (rest : List ℕ) → flatten (characters text) ++ rest ≡ text → flatten (characters text) ≡ text
    go [] e = sym (append-nil (flatten (characters text))) ∙ e
    go (b ∷ rest) e =
        absurd
        (omega (arith, eqb-true (length (flatten (characters text))) (length text) well, ap length e, length-append (flatten (characters text)) (b ∷ rest)))

-- ---- Places

module _ (text : List ℕ) where
  -- from a character on to its place and back
  pub before_place : (count : ℕ) → count ≤ length (characters text) → chars_before text (place_of text count) ≡ count
  before_place count h = begun_place (characters text) count (characters_led text) h

  -- from a place on to the characters before it and back
  pub place_before : (place : ℕ) → is_start text place ≡ true → place_of text (chars_before text place) ≡ place
  place_before place e = place_begun (characters text) place e

  pub before_few : (place : ℕ) → chars_before text place ≤ length (characters text)
  before_few place = begun_few (characters text) place

  pub place_start : (count : ℕ) → count ≤ length (characters text) → is_start text (place_of text count) ≡ true
  place_start count h = between_place (characters text) count (characters_led text) h

  module _ (well : well_formed text ≡ true) where
    -- the place of one character more than there are is the end of the text
    pub place_end : place_of text (length (characters text)) ≡ length text
    place_end = ap (λ (cs : List (List ℕ)). length (flatten cs)) (take_all (length (characters text)) (characters text) (omega arith)) ∙ ap length (characters_whole text well)

    pub start_end : is_start text (length text) ≡ true
    start_end = ap (is_start text) (sym place_end) ∙ place_start (length (characters text)) (omega arith)

    pub start_past : (place : ℕ) → length text < place → is_start text place ≡ false
    start_past place h = between_past (characters text) place (omega (arith, ap length (characters_whole text well)))

    pub place_inside : (count : ℕ) → count ≤ length (characters text) → place_of text count ≤ length text
    place_inside count h =
        ⊎_elim
        (λ (inside : place_of text count ≤ length text). inside)
        (λ (past : length text < place_of text count). absurd (false≢true (sym (start_past (place_of text count) past) ∙ place_start count h)))
        (either (place_of text count) (length text))

    -- a place is that of a character just if its byte is no tail
    pub start_byte : (place : ℕ) → place < length text → is_start text place ≡ not (tail (get_or text place 0))
    start_byte place h =
        between_byte (characters text) place (characters_led text) (omega (arith, ap length (characters_whole text well)))
        ∙ ap (λ (t : List ℕ). not (tail (get_or t place 0))) (characters_whole text well)

    -- characters are counted by the bytes that are no tails
    pub before_starts : (place : ℕ) → chars_before text place ≡ starts (take place text)
    before_starts place =
        begun_starts (characters text) place (characters_led text)
        ∙ ap (λ (t : List ℕ). starts (take place t)) (characters_whole text well)

    -- every place of the text is at a character or inside one
    pub place_within : (place : ℕ) → place < length text → (k : ℕ) × Within (characters text) k place
    place_within place h = within_one (characters text) place (omega (arith, ap length (characters_whole text well)))

    -- and so are all of them
    pub characters_starts : length (characters text) ≡ starts text
    characters_starts =
        sym (before_place (length (characters text)) (omega arith))
        ∙ ap (chars_before text) place_end
        ∙ before_starts (length text)
        ∙ ap starts (take-length text)
