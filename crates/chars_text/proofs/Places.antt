-- Places in a row of characters: the place of a character and the number of characters before a place lead to each other;
-- the bytes that are no tails are where characters begin. Assumes nothing.
use mathlib.Core.Path.{◌≡◌, refl, ap, sym, ◌∙◌}
use mathlib.Core.Logic.{⊎_elim}
use mathlib.Core.Bool.{Bool, true, false, cond, not, false≢true}
use Prim.Native.Nat.{ℕ, zero, suc, ◌+◌, ◌-◌, ◌≤◌, ◌<◌}
use native.Mathlib.Omega.{arith}
use mathlib.Core.List.{List, [], ◌∷◌, ◌++◌, flatten}
use lib.Dec.{leb}
use lib.ListN.{length, get_or, take, length-append, get_or-append}
use lib.Seq.{take-append-le, take-append-add, take-length, get_or-append-add}
use borrow.Author.Tests.{leb-true, le-leb, lt-leb, eqb-true, ne_eqb}
use Rattle.lists.specs.Lists.{All}
use Rattle.lists.proofs.All.{all_at}
use Rattle.lists.proofs.Numbers.{either}
use Rattle.chars_text.specs.Utf8.{tail}
use Rattle.chars_text.specs.Characters.{begun, at_character, starts}
use Rattle.chars_text.proofs.Led.{Led}
use Rattle.chars_text.proofs.Starts.{starts_append, starts_led}

-- how many bytes there are
abbrev pub size : List (List ℕ) → ℕ
size cs = length (flatten cs)

size_first : (c : List ℕ) (cs : List (List ℕ)) → size (c ∷ cs) ≡ length c + size cs
unfolding flatten
size_first c cs = length-append c (flatten cs)

led_some : (c : List ℕ) → Led c → 0 < length c
led_some [] led = absurd led
led_some (first ∷ rest) led = omega arith

begun_none : (cs : List (List ℕ)) → begun cs 0 ≡ 0
unfolding begun
begun_none [] = refl
begun_none (c ∷ cs) = refl

begun_first : (c : List ℕ) (cs : List (List ℕ)) (place : ℕ) → 0 < place → begun (c ∷ cs) place ≡ suc (begun cs (place - length c))
unfolding begun
begun_first c cs zero h = absurd (omega arith)
begun_first c cs (suc before) h = refl

-- no more than there are
pub begun_few : (cs : List (List ℕ)) (place : ℕ) → begun cs place ≤ length cs
unfolding begun
begun_few [] place = omega arith
begun_few (c ∷ cs) zero = omega arith
begun_few (c ∷ cs) (suc before) = omega (arith, begun_few cs (suc before - length c))

-- ---- There and back

pub place_begun : (cs : List (List ℕ)) (place : ℕ) → at_character cs place ≡ true → size (take (begun cs place) cs) ≡ place
unfolding begun at_character flatten
place_begun [] place e = sym (eqb-true place 0 e)
place_begun (c ∷ cs) zero e = refl
place_begun (c ∷ cs) (suc before) e = go (leb (length c) (suc before)) refl e (place_begun cs (suc before - length c))
  where
    go : (t : Bool) → leb (length c) (suc before) ≡ t → cond t (at_character cs (suc before - length c)) false ≡ true
        → (at_character cs (suc before - length c) ≡ true → size (take (begun cs (suc before - length c)) cs) ≡ suc before - length c)
        → size (c ∷ take (begun cs (suc before - length c)) cs) ≡ suc before
    go true t e after = omega (arith, size_first c (take (begun cs (suc before - length c)) cs), after e, leb-true (length c) (suc before) t)
    go false t e after = absurd (false≢true e)

pub begun_place : (cs : List (List ℕ)) (count : ℕ) → All Led cs → count ≤ length cs → begun cs (size (take count cs)) ≡ count
unfolding flatten
begun_place cs zero led h = begun_none cs
begun_place [] (suc count) led h = absurd (omega arith)
begun_place (c ∷ cs) (suc count) led h =
    begun_first c cs (size (c ∷ take count cs)) (omega (arith, size_first c (take count cs), led_some c led.0))
    ∙ ap (λ (place : ℕ). suc (begun cs place)) (omega (arith, size_first c (take count cs)))
    ∙ ap suc (begun_place cs count led.1 (omega arith))

pub between_place : (cs : List (List ℕ)) (count : ℕ) → All Led cs → count ≤ length cs → at_character cs (size (take count cs)) ≡ true
unfolding at_character flatten
between_place [] zero led h = refl
between_place (c ∷ cs) zero led h = refl
between_place [] (suc count) led h = absurd (omega arith)
between_place (c ∷ cs) (suc count) led h =
    between_first c cs (size (c ∷ take count cs)) (omega (arith, size_first c (take count cs), led_some c led.0)) (omega (arith, size_first c (take count cs)))
    ∙ ap (at_character cs) (omega (arith, size_first c (take count cs)))
    ∙ between_place cs count led.1 (omega arith)
  where
    between_first : (c : List ℕ) (cs : List (List ℕ)) (place : ℕ) → 0 < place → length c ≤ place → at_character (c ∷ cs) place ≡ at_character cs (place - length c)
    between_first c cs zero h l = absurd (omega arith)
    between_first c cs (suc before) h l = rw (le-leb (length c) (suc before) l)

-- ---- Where characters begin

-- the bytes that are no tails are as many as the characters that begin before a place
pub begun_starts : (cs : List (List ℕ)) (place : ℕ) → All Led cs → begun cs place ≡ starts (take place (flatten cs))
unfolding begun flatten starts
begun_starts [] zero led = refl
begun_starts [] (suc before) led = refl
begun_starts (c ∷ cs) zero led = refl
begun_starts (c ∷ cs) (suc before) led =
    ⊎_elim
    (λ inside.
    rw (take-append-le (suc before) c (flatten cs) inside)
    (ap suc (ap (begun cs) (omega arith) ∙ begun_none cs) ∙ sym (starts_led c before led.0)))
    (λ past.
    let whole : suc before ≡ length c + (suc before - length c) = omega arith in
    ap suc (begun_starts cs (suc before - length c) led.1)
    ∙ sym
    (ap (λ (n : ℕ). starts (take n (c ++ flatten cs))) whole
    ∙ ap starts (take-append-add c (flatten cs) (suc before - length c))
    ∙ starts_append c (take (suc before - length c) (flatten cs))
    ∙ ap (λ (n : ℕ). n + starts (take (suc before - length c) (flatten cs))) (starts_whole c led.0)
    ∙ omega arith))
    (either (suc before) (length c))
  where
    starts_whole : (c : List ℕ) → Led c → starts c ≡ 1
    starts_whole [] led = absurd led
    starts_whole (first ∷ rest) led = ap starts (sym (take-length (first ∷ rest))) ∙ starts_led (first ∷ rest) (length rest) led

-- a place below the end is that of a character just if its byte is no tail
pub between_byte : (cs : List (List ℕ)) (place : ℕ) → All Led cs → place < size cs → at_character cs place ≡ not (tail (get_or (flatten cs) place 0))
unfolding at_character flatten
between_byte [] place led h = absurd (omega arith)
between_byte ([] ∷ cs) zero led h = absurd led.0
between_byte ((first ∷ rest) ∷ cs) zero led h = rw led.0.0
between_byte (c ∷ cs) (suc before) led h =
    ⊎_elim
    (λ past.
    rw (le-leb (length c) (suc before) past)
    (between_byte cs (suc before - length c) led.1 (omega (arith, size_first c cs))
    ∙ ap (λ (byte : ℕ). not (tail byte))
    (sym (get_or-append-add c (flatten cs) (suc before - length c) 0) ∙ ap (λ (n : ℕ). get_or (c ++ flatten cs) n 0) (omega arith))))
    (λ inside.
    rw (lt-leb (length c) (suc before) inside, get_or-append c (flatten cs) 0 (suc before) inside, led_tail c before led.0 inside))
    (either (length c) (suc before))
  where
    led_tail : (c : List ℕ) (before : ℕ) → Led c → suc before < length c → tail (get_or c (suc before) 0) ≡ true
    led_tail [] before led h = absurd led
    led_tail (first ∷ rest) before led h = all_at (λ (byte : ℕ). tail byte ≡ true) rest before 0 (omega arith) led.1

-- there is no character past the end
pub between_past : (cs : List (List ℕ)) (place : ℕ) → size cs < place → at_character cs place ≡ false
unfolding at_character flatten
between_past [] place h = ne_eqb place 0 (λ e. omega arith)
between_past (c ∷ cs) zero h = absurd (omega arith)
between_past (c ∷ cs) (suc before) h =
    rw (le-leb (length c) (suc before) (omega (arith, size_first c cs)))
    (between_past cs (suc before - length c) (omega (arith, size_first c cs)))

-- ---- At a character or inside one

-- The place is that of the k-th character or inside it.
pub record Within (cs : List (List ℕ)) (k place : ℕ) : Type 0 where
  pub one : k < length cs
  pub from : size (take k cs) ≤ place
  pub to : place < size (take (suc k) cs)

pub within_one : (cs : List (List ℕ)) (place : ℕ) → place < size cs → (k : ℕ) × Within cs k place
unfolding flatten
within_one [] place h = absurd (omega arith)
within_one (c ∷ cs) place h =
    ⊎_elim
    (λ past.
    let later = within_one cs (place - length c) (omega (arith, size_first c cs)) in (
      suc later.0,
      record {
        one = omega (arith, later.1.one);
        from = omega (arith, later.1.from, size_first c (take later.0 cs));
        to = omega (arith, later.1.to, size_first c (take (suc later.0) cs));
      },
    ))
    (λ inside. (0, record { one = omega arith; from = omega arith; to = omega (arith, size_first c []) }))
    (either (length c) place)
