-- The piece that a name is, by its bytes: the sequence after a dollar sign, or a special id.
-- Assumes nothing.
use mathlib.Core.Path.{◌≡◌, refl, ap, sym}
use mathlib.Core.Bool.{◌||◌, cond, and-true, and-false}
use mathlib.Core.Option.{Option, some, map}
use Prim.Native.Nat.{ℕ, ◌-◌, ◌≤◌, ◌<◌}
use native.Mathlib.Omega.{arith}
use mathlib.Core.List.{List, [], ◌∷◌}
use lib.Dec.{eqb}
use lib.ListN.{length, get_or, take, drop, length-drop}
use lib.Seq.{take_all}
use borrow.Author.Tests.{eq-eqb, ne_eqb}
use Rattle.template_numbers.specs.Number.{read_number}
use Rattle.template_pieces.specs.Piece.{Piece, sequence_a, sequence_b, special, dollar, upper_a, lower_a, upper_b, lower_b, same, sequence_of, named}

-- what is lent of a list from a place on
pub take_rest : (n : ℕ) (l : List ℕ) → take (length l - n) (drop n l) ≡ drop n l
take_rest n l = take_all (length l - n) (drop n l) (omega (arith, length-drop n l))

-- ---- A sequence

pub names_nothing : (name : List ℕ) → length name ≡ 0 → sequence_of name ≡ some (sequence_a 0)
unfolding sequence_of same
names_nothing [] e = refl
names_nothing (a ∷ name) e = absurd (omega arith)

-- a name of one letter is A, B, or a number
abbrev pub of_letter : ℕ → Option Piece → Option Piece
of_letter a number = cond (eqb a upper_a || eqb a lower_a) (some (sequence_a 0)) (cond (eqb a upper_b || eqb a lower_b) (some (sequence_b 0)) number)

pub names_letter : (name : List ℕ) → length name ≡ 1 → sequence_of name ≡ of_letter (get_or name 0 0) (map sequence_a (read_number name))
unfolding sequence_of same
names_letter [] e = absurd (omega arith)
names_letter (a ∷ []) e = simp and-true
names_letter (a ∷ b ∷ name) e = absurd (omega arith)

pub names_number : (name : List ℕ) → 1 < length name → sequence_of name ≡ map sequence_a (read_number name)
unfolding sequence_of same
names_number [] h = absurd (omega arith)
names_number (a ∷ []) h = absurd (omega arith)
names_number (a ∷ b ∷ name) h = simp and-false

-- ---- A name

pub names_empty : (start : ℕ) (id : List ℕ) → length id ≤ 0 → named start id ≡ some (special start id 0)
unfolding named
names_empty start [] h = refl
names_empty start (a ∷ id) h = absurd (omega arith)

pub names_special : (start : ℕ) (id : List ℕ) → 0 < length id → (get_or id 0 0 ≡ dollar → ⊥) → named start id ≡ some (special start id 0)
unfolding named
names_special start [] h e = absurd (omega arith)
names_special start (a ∷ id) h e = rw (ne_eqb a dollar e)

pub names_sequence : (start : ℕ) (id : List ℕ) → 0 < length id → get_or id 0 0 ≡ dollar → named start id ≡ sequence_of (take (length id - 1) (drop 1 id))
unfolding named
names_sequence start [] h e = absurd (omega arith)
names_sequence start (a ∷ id) h e = rw (eq-eqb a dollar e) (ap sequence_of (sym (take_rest 1 (a ∷ id))))
