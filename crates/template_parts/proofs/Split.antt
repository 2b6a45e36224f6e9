-- What splitting is: the parts joined by single separators give the text back, no part holds a separator, and no other
-- parts do both. And the first part, with what is left after it, and how many there are at most.
-- Assumes nothing.
use mathlib.Core.Path.{◌≡◌, refl, ap, sym, ◌∙◌}
use mathlib.Core.Bool.{Bool, true, false, cond}
use Prim.Native.Nat.{ℕ, zero, suc, ◌≤◌}
use native.Mathlib.Omega.{arith}
use mathlib.Core.List.{List, [], ◌∷◌, ◌++◌, append-nil}
use lib.Dec.{eqb}
use lib.ListN.{length, take, drop}
use borrow.Author.Tests.{eqb-true, eqb-false, eq-eqb, ne_eqb}
use Rattle.lists.specs.Lists.{All}
use Rattle.template_parts.specs.Split.{led, split, joined_by, Without}
use Rattle.template_parts.specs.Parts.{length_to}

-- ---- The first part

-- the parts of what follows the first: none at the end, else those after the separator
abbrev pub after : ℕ → List ℕ → List (List ℕ)
after separator [] = []
after separator (byte ∷ text) = split separator text

-- the first part reaches up to the first separator, or the end
pub split_first : (separator : ℕ) (text : List ℕ) → split separator text ≡ take (length_to separator text) text ∷ after separator (drop (length_to separator text) text)
unfolding split length_to
split_first separator [] = refl
split_first separator (byte ∷ text) = go (eqb byte separator) (split_first separator text)
  where
    go : (here : Bool) → split separator text ≡ take (length_to separator text) text ∷ after separator (drop (length_to separator text) text) → cond here ([] ∷ split separator text) (led byte (split separator text)) ≡ take (cond here 0 (suc (length_to separator text))) (byte ∷ text) ∷ after separator (drop (cond here 0 (suc (length_to separator text))) (byte ∷ text))
    go true rest = refl
    go false rest = ap (led byte) rest

-- ---- How many parts

led_few : (byte : ℕ) (parts : List (List ℕ)) → length (led byte parts) ≤ suc (length parts)
led_few byte [] = omega arith
led_few byte (part ∷ parts) = omega arith

-- at most one more than the text has bytes
pub split_few : (separator : ℕ) (text : List ℕ) → length (split separator text) ≤ suc (length text)
unfolding split
split_few separator [] = omega arith
split_few separator (byte ∷ text) = go (eqb byte separator) (split_few separator text)
  where
    go : (here : Bool) → length (split separator text) ≤ suc (length text) → length (cond here ([] ∷ split separator text) (led byte (split separator text))) ≤ suc (suc (length text))
    go true few = omega arith
    go false few = omega (arith, led_few byte (split separator text))

led_many : (byte : ℕ) (parts : List (List ℕ)) → length parts ≤ length (led byte parts)
led_many byte [] = omega arith
led_many byte (part ∷ parts) = omega arith

-- from a place on there are no more
pub split_drop : (separator : ℕ) (text : List ℕ) (i : ℕ) → length (split separator (drop i text)) ≤ length (split separator text)
unfolding split
split_drop separator text zero = omega arith
split_drop separator [] (suc i) = omega arith
split_drop separator (byte ∷ text) (suc i) = go (eqb byte separator) (split_drop separator text i)
  where
    go : (here : Bool) → length (split separator (drop i text)) ≤ length (split separator text) → length (split separator (drop i text)) ≤ length (cond here ([] ∷ split separator text) (led byte (split separator text)))
    go true less = omega arith
    go false less = omega (arith, led_many byte (split separator text))

-- ---- The parts determine the text

module _ (separator : ℕ) where
  joined_led : (byte : ℕ) (text : List ℕ) → joined_by separator (led byte (split separator text)) ≡ byte ∷ joined_by separator (split separator text)
  unfolding joined_by
  joined_led byte text = rw (split_first separator text) (go (after separator (drop (length_to separator text) text)))
    where
      go : (rest : List (List ℕ)) → joined_by separator ((byte ∷ take (length_to separator text) text) ∷ rest) ≡ byte ∷ joined_by separator (take (length_to separator text) text ∷ rest)
      go [] = refl
      go (next ∷ rest) = refl

  joined_next : (text : List ℕ) → joined_by separator ([] ∷ split separator text) ≡ separator ∷ joined_by separator (split separator text)
  unfolding joined_by
  joined_next text = rw (split_first separator text)

  -- the parts joined by single separators give the text back
  pub split_joined : (text : List ℕ) → joined_by separator (split separator text) ≡ text
  unfolding split joined_by
  split_joined [] = refl
  split_joined (byte ∷ text) = go (eqb byte separator) refl (split_joined text)
    where
      go : (here : Bool) → eqb byte separator ≡ here → joined_by separator (split separator text) ≡ text → joined_by separator (cond here ([] ∷ split separator text) (led byte (split separator text))) ≡ byte ∷ text
      go true e rest = joined_next text ∙ ap (◌∷◌ separator) rest ∙ ap (λ (b : ℕ). b ∷ text) (sym (eqb-true byte separator e))
      go false e rest = joined_led byte text ∙ ap (◌∷◌ byte) rest

  -- no part holds a separator
  pub split_without : (text : List ℕ) → All (Without separator) (split separator text)
  unfolding split
  split_without [] = (tt, tt)
  split_without (byte ∷ text) = go (eqb byte separator) refl (split_without text)
    where
      leads : (parts : List (List ℕ)) → (byte ≡ separator → ⊥) → All (Without separator) parts → All (Without separator) (led byte parts)
      leads [] h all = ((h, tt), tt)
      leads (part ∷ parts) h all = ((h, all.0), all.1)

      go : (here : Bool) → eqb byte separator ≡ here → All (Without separator) (split separator text) → All (Without separator) (cond here ([] ∷ split separator text) (led byte (split separator text)))
      go true e all = (tt, all)
      go false e all = leads (split separator text) (eqb-false byte separator e) all

  -- ---- And the text its parts

  split_leads : (part text : List ℕ) → Without separator part → (rest : List (List ℕ)) → split separator text ≡ [] ∷ rest → split separator (part ++ text) ≡ part ∷ rest
  unfolding split
  split_leads [] text without rest e = e
  split_leads (byte ∷ part) text without rest e = rw (ne_eqb byte separator without.0, split_leads part text without.1 rest e)

  -- parts that hold no separator are those of the text that they are joined to
  pub split_only : (part : List ℕ) (parts : List (List ℕ)) → All (Without separator) (part ∷ parts) → split separator (joined_by separator (part ∷ parts)) ≡ part ∷ parts
  unfolding split joined_by
  split_only part [] all = ap (split separator) (sym (append-nil part)) ∙ split_leads part [] all.0 [] refl
  split_only part (next ∷ parts) all =
      split_leads part (separator ∷ joined_by separator (next ∷ parts)) all.0 (next ∷ parts)
      (rw (eq-eqb separator separator refl, split_only next parts all.1))
