-- A piece that was read: the id of a special piece lies in the text where its numbers say.
-- Assumes nothing.
use mathlib.Core.Path.{◌≡◌, refl, ap, ◌∙◌, subst}
use Prim.Native.Nat.{ℕ, ◌+◌, ◌-◌, ◌≤◌}
use native.Mathlib.Nat.{add-sub_cancel_left}
use native.Mathlib.Omega.{arith}
use mathlib.Core.List.{List}
use lib.ListN.{length, take, drop, length-drop}
use lib.Seq.{take-take, length-take-le}
use Rattle.template_parts.specs.Parts.{length_to}
use Rattle.template_parts.proofs.Finding.{length_to_most}
use Rattle.template_pieces.specs.Piece.{Piece, sequence_a, sequence_b, special, colon, PartReading, readable, read_part, piece_told}
use Rattle.template_pieces.specs.declared.Name.TheVariants.{A, B, Special}
use Rattle.template_pieces.specs.declared.Piece.{Piece as PieceRead}
use Rattle.template_pieces.proofs.Names.{Named, Reads, part_named}

-- the id of a special piece lies in the text at its place
abbrev pub Lies : List ℕ → Piece → Type 0
Lies text (sequence_a _) = Unit {0}
Lies text (sequence_b _) = Unit {0}
Lies text (special start id _) = (start + length id ≤ length text) × (take (length id) (drop start text) ≡ id)

-- ---- Where it lies

-- a text with this name at a place within it
lies : (text : List ℕ) (start size : ℕ) → start + size ≤ length text → (piece : Piece) → Named start (take size (drop start text)) piece → Lies text piece
lies text start size h (sequence_a t) n = tt
lies text start size h (sequence_b t) n = tt
lies text start size h (special place id t) n =
    let long : length (take size (drop start text)) ≡ size = length-take-le size (drop start text) (omega (arith, length-drop start text)) in
    rw (n.0, n.1, long) (h, refl)

-- what is said of the piece that a part is
reads_some : (P : Piece → Type 0) (o : PartReading) {piece : Piece} → Reads P o → o ≡ readable piece → P piece
reads_some P o {piece} h e = subst (Reads P) e h

module _ (text : List ℕ) (start size : ℕ) (h : start + size ≤ length text) where
  abbrev part : List ℕ
  part = take size (drop start text)

  pub part_lies : {piece : Piece} → read_part start part ≡ readable piece → Lies text piece
  part_lies {piece} e =
      let long : length part ≡ size = length-take-le size (drop start text) (omega (arith, length-drop start text)) in
      let few : length_to colon part ≤ size = omega (arith, length_to_most colon part) in
      let name : take (length_to colon part) part ≡ take (length_to colon part) (drop start text) = take-take (length_to colon part) size (drop start text) few in
      lies text start (length_to colon part) (omega arith) piece
      (subst (λ (id : List ℕ). Named start id piece) name (reads_some (Named start (take (length_to colon part) part)) (read_part start part) (part_named start part) e))

-- ---- What an answer says of a piece

-- A piece is what was told, and its id lies in the text.
pub record PieceIs (text : List ℕ) (told : PieceRead) (piece : Piece) : Type 0 where
  pub same : piece_told piece ≡ told
  pub lies_there : Lies text piece

-- ---- What the answer says

module _ {text : List ℕ} {told : PieceRead} {start size : ℕ} where
  -- a special piece has its id in the text where the answer says
  id_told : (piece : Piece) → PieceIs text told piece → told.name ≡ Special start size → piece ≡ special start (take size (drop start text)) told.type_id
  id_told (sequence_a t) is e = let named : A ≡ Special start size = ap (λ (p : PieceRead). p.name) is.same ∙ e in cc
  id_told (sequence_b t) is e = let named : B ≡ Special start size = ap (λ (p : PieceRead). p.name) is.same ∙ e in cc
  id_told (special s id t) is e =
      let named : Special s (length id) ≡ Special start size = ap (λ (p : PieceRead). p.name) is.same ∙ e in
      let type_is : t ≡ told.type_id = ap (λ (p : PieceRead). p.type_id) is.same in
      let start_is : s ≡ start = cc in
      let size_is : length id ≡ size = cc in
      let id_is : take (length id) (drop s text) ≡ id = is.lies_there.1 in
      let bytes : take size (drop start text) ≡ id = rw (size_is, start_is) at id_is in
      rw (bytes, type_is, start_is)

  -- an id does not pass the text
  pub piece_within : (piece : Piece) → PieceIs text told piece → told.name ≡ Special start size → start + size ≤ length text
  piece_within (sequence_a t) is e = let named : A ≡ Special start size = ap (λ (p : PieceRead). p.name) is.same ∙ e in cc
  piece_within (sequence_b t) is e = let named : B ≡ Special start size = ap (λ (p : PieceRead). p.name) is.same ∙ e in cc
  piece_within (special s id t) is e =
      let named : Special s (length id) ≡ Special start size = ap (λ (p : PieceRead). p.name) is.same ∙ e in
      let start_is : s ≡ start = cc in
      let size_is : length id ≡ size = cc in
      omega (arith, is.lies_there.0)

  -- a special piece, whose id is the part of the text that the answer gives
  pub kind_special : (piece : Piece) → PieceIs text told piece → told.name ≡ Special start size → piece ≡ special start (take (start + size - start) (drop start text)) told.type_id
  kind_special piece is e = rw add-sub_cancel_left (id_told piece is e)
