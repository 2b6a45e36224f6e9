-- "UTF8-octets = *( UTF8-char )", both ways: the characters of a text are characters by themselves; and characters put one after
-- another are a well-formed text, whose characters are these and no others. Assumes nothing.
use mathlib.Core.Path.{◌≡◌, refl, ap, ap₂, sym, ◌∙◌}
use mathlib.Core.Bool.{Bool, true, false, cond, ◌&&◌, false≢true}
use Prim.Native.Nat.{ℕ, zero, suc, ◌<◌}
use native.Mathlib.Omega.{arith}
use mathlib.Core.List.{List, [], ◌∷◌, ◌++◌, flatten}
use lib.ListN.{length, take, drop, replicate, length-replicate}
use lib.Seq.{length-take-le, take_at, drop_at}
use borrow.Author.Tests.{eq-eqb}
use Rattle.lists.specs.Lists.{All}
use Rattle.chars_text.specs.Utf8.{Ranges, octets, tail, begins, character}
use Rattle.chars_text.specs.Characters.{characters_in, characters, well_formed}
use Rattle.chars_text.specs.Promises.{width_by, low_by, high_by, sized}
use Rattle.chars_text.proofs.Grammar.{by_first}
use Rattle.chars_text.proofs.Led.{character_inside}
use Rattle.chars_text.proofs.Reading.{character_nothing, in_none, in_step, characters_step}

-- "UTF8-char": bytes that are one character and nothing else
abbrev pub Char : List ℕ → Type 0
Char c = (0 < length c) × (character c ≡ length c)

-- ---- What follows a character does not matter

begins_before : (row : Ranges) (text more : List ℕ) → begins row text ≡ true → begins row (text ++ more) ≡ true
begins_before [] text more e = refl
begins_before (range ∷ row) [] more e = absurd (false≢true e)
begins_before (range ∷ row) (b ∷ text) more e = go (range b) e (begins_before row text more)
  where
    go : (t : Bool) → t && begins row text ≡ true → (begins row text ≡ true → begins row (text ++ more) ≡ true) → t && begins row (text ++ more) ≡ true
    go true e after = after e
    go false e after = absurd (false≢true e)

begins_alone : (row : Ranges) (text : List ℕ) → begins row text ≡ true → begins row (take (length row) text) ≡ true
begins_alone [] text e = refl
begins_alone (range ∷ row) [] e = absurd (false≢true e)
begins_alone (range ∷ row) (b ∷ text) e = go (range b) e (begins_alone row text)
  where
    go : (t : Bool) → t && begins row text ≡ true → (begins row text ≡ true → begins row (take (length row) text) ≡ true) → t && begins row (take (length row) text) ≡ true
    go true e after = after e
    go false e after = absurd (false≢true e)

module _ (low high : ℕ) (text : List ℕ) (n : ℕ) where
  sized_before : (width : ℕ) (more : List ℕ) → sized width low high text ≡ suc n → sized width low high (text ++ more) ≡ suc n
  sized_before zero more e = absurd (omega arith)
  sized_before (suc zero) more e = e
  sized_before (suc (suc wide)) more e = go (begins (octets low high ∷ replicate wide tail) text) refl e
    where
      go : (t : Bool) → begins (octets low high ∷ replicate wide tail) text ≡ t → cond t (suc (suc wide)) 0 ≡ suc n
          → cond (begins (octets low high ∷ replicate wide tail) (text ++ more)) (suc (suc wide)) 0 ≡ suc n
      go true b e = rw (begins_before (octets low high ∷ replicate wide tail) text more b) e
      go false b e = absurd (omega arith)

  sized_alone : (width : ℕ) → sized width low high text ≡ suc n → sized width low high (take n text) ≡ suc n
  sized_alone zero e = absurd (omega arith)
  sized_alone (suc zero) e = e
  sized_alone (suc (suc wide)) e = go (begins (octets low high ∷ replicate wide tail) text) refl e
    where
      go : (t : Bool) → begins (octets low high ∷ replicate wide tail) text ≡ t → cond t (suc (suc wide)) 0 ≡ suc n
          → cond (begins (octets low high ∷ replicate wide tail) (take n text)) (suc (suc wide)) 0 ≡ suc n
      go true b e =
          let row : suc (length (replicate wide tail)) ≡ n = omega (arith, length-replicate wide tail, e) in
          rw (← row, begins_alone (octets low high ∷ replicate wide tail) text b) (e ∙ ap suc (sym row))
      go false b e = absurd (omega arith)

pub character_before : (text more : List ℕ) (n : ℕ) → character text ≡ suc n → character (text ++ more) ≡ suc n
character_before [] more n e = absurd (omega (arith, character_nothing, e))
character_before (first ∷ text) more n e =
    by_first first (text ++ more)
    ∙ sized_before (low_by first) (high_by first) text n (width_by first) more (sym (by_first first text) ∙ e)

pub character_alone : (text : List ℕ) (n : ℕ) → character text ≡ suc n → character (take (suc n) text) ≡ suc n
character_alone [] n e = absurd (omega (arith, character_nothing, e))
character_alone (first ∷ text) n e =
    by_first first (take n text)
    ∙ sized_alone (low_by first) (high_by first) text n (width_by first) (sym (by_first first text) ∙ e)

-- ---- From a text to its characters

in_chars : (most : ℕ) (text : List ℕ) → All Char (characters_in most text)
unfolding characters_in
in_chars zero text = tt
in_chars (suc most) text = go (in_chars most) (character text) refl
  where
    go : ((left : List ℕ) → All Char (characters_in most left)) → (n : ℕ) → character text ≡ n → All Char (characters_in (suc most) text)
    go after zero e = rw (in_none (suc most) text e) tt
    go after (suc n) e =
        let long : length (take (suc n) text) ≡ suc n = length-take-le (suc n) text (omega (arith, e, character_inside text)) in
        rw (in_step most text n e) ((omega (arith, long), character_alone text n e ∙ sym long), after (drop (suc n) text))

pub characters_chars : (text : List ℕ) → All Char (characters text)
characters_chars text = in_chars (length text) text

-- ---- And back

pub characters_only : (cs : List (List ℕ)) → All Char cs → characters (flatten cs) ≡ cs
unfolding flatten characters_in
characters_only [] all = refl
characters_only (c ∷ cs) all = go (length c) refl (characters_only cs all.1)
  where
    go : (n : ℕ) → length c ≡ n → characters (flatten cs) ≡ cs → characters (c ++ flatten cs) ≡ c ∷ cs
    go zero e rest = absurd (omega (arith, all.0.0, e))
    go (suc n) e rest =
        characters_step (c ++ flatten cs) n (character_before c (flatten cs) n (all.0.1 ∙ e))
        ∙ ap₂ (λ (one : List ℕ) (left : List ℕ). one ∷ characters left) (take_at c (flatten cs) (suc n) e) (drop_at c (flatten cs) (suc n) e)
        ∙ ap (◌∷◌ c) rest

pub octets_well_formed : (cs : List (List ℕ)) → All Char cs → well_formed (flatten cs) ≡ true
octets_well_formed cs all =
    eq-eqb (length (flatten (characters (flatten cs)))) (length (flatten cs)) (ap (λ (read : List (List ℕ)). length (flatten read)) (characters_only cs all))
