-- The name of a piece that was read: what stands before the colon of its part. Only a special piece keeps it.
-- Assumes nothing.
use mathlib.Core.Path.{◌≡◌, refl}
use mathlib.Core.Bool.{Bool, true, false, ◌||◌, cond}
use mathlib.Core.Option.{Option, none as nothing, some, map}
use Prim.Native.Nat.{ℕ}
use mathlib.Core.List.{List, [], ◌∷◌}
use lib.Dec.{eqb}
use lib.ListN.{take, drop}
use Rattle.template_parts.specs.Parts.{length_to}
use Rattle.template_parts.proofs.Split.{after, split_first}
use Rattle.template_numbers.specs.Number.{read_number}
use Rattle.template_pieces.specs.Piece.{Piece, sequence_a, sequence_b, special, dollar, colon, upper_a, lower_a, upper_b, lower_b, same, sequence_of, named, by_name, PartReading, unreadable, readable, piece_typed, of_colons, read_part}

-- a special piece has this id, at this place
abbrev pub Named : ℕ → List ℕ → Piece → Type 0
Named start id (sequence_a _) = Unit {0}
Named start id (sequence_b _) = Unit {0}
Named start id (special place bytes _) = (place ≡ start) × (bytes ≡ id)

-- every piece that an option holds
abbrev Each : (Piece → Type 0) → Option Piece → Type 0
Each P nothing = Unit {0}
Each P (some piece) = P piece

-- the piece that a part is, if it can be read
abbrev pub Reads : (Piece → Type 0) → PartReading → Type 0
Reads P (unreadable why) = Unit {0}
Reads P (readable piece) = P piece

module _ (start : ℕ) (id : List ℕ) where
  each_sequence : (number : Option ℕ) → Each (Named start id) (map sequence_a number)
  each_sequence nothing = tt
  each_sequence (some n) = tt

  each_cond : (b : Bool) (x y : Option Piece) → Each (Named start id) x → Each (Named start id) y → Each (Named start id) (cond b x y)
  each_cond true x y hx hy = hx
  each_cond false x y hx hy = hy

  sequence_named : (name : List ℕ) → Each (Named start id) (sequence_of name)
  unfolding sequence_of
  sequence_named name =
      each_cond (same name [] || (same name (upper_a ∷ []) || same name (lower_a ∷ []))) _ _ tt
      (each_cond (same name (upper_b ∷ []) || same name (lower_b ∷ [])) _ _ tt (each_sequence (read_number name)))

  by_named : (piece : Option Piece) → Each (Named start id) piece → Reads (Named start id) (by_name piece)
  by_named nothing h = tt
  by_named (some piece) h = h

  typed_named : (number : Option ℕ) (piece : Option Piece) → Each (Named start id) piece → Reads (Named start id) (piece_typed number piece)
  unfolding piece_typed
  typed_named nothing piece h = tt
  typed_named (some t) nothing h = tt
  typed_named (some t) (some (sequence_a u)) h = tt
  typed_named (some t) (some (sequence_b u)) h = tt
  typed_named (some t) (some (special s bytes u)) h = h

name_named : (start : ℕ) (id : List ℕ) → Each (Named start id) (named start id)
unfolding named
name_named start [] = (refl, refl)
name_named start (byte ∷ id) = each_cond start (byte ∷ id) (eqb byte dollar) (sequence_of id) (some (special start (byte ∷ id) 0)) (sequence_named start (byte ∷ id) id) (refl, refl)

-- a part's name is what stands before its colon
pub part_named : (start : ℕ) (part : List ℕ) → Reads (Named start (take (length_to colon part) part)) (read_part start part)
unfolding read_part
part_named start part = rw (split_first colon part) (go (take (length_to colon part) part) (after colon (drop (length_to colon part) part)))
  where
    go : (id : List ℕ) (rest : List (List ℕ)) → Reads (Named start id) (of_colons start (id ∷ rest))
    go id [] = by_named start id (named start id) (name_named start id)
    go id (number ∷ []) = typed_named start id (read_number number) (named start id) (name_named start id)
    go id (number ∷ more ∷ rest) = tt
