-- The pieces of a template that was read, by their numbers: what stands at each place of the answer, and that the id of each
-- special piece lies in the text.
-- Assumes nothing.
use mathlib.Core.Path.{◌≡◌, refl, ap, ◌∙◌}
use Prim.Native.Nat.{ℕ, zero, suc, ◌+◌, ◌*◌, ◌≤◌, ◌<◌}
use native.Mathlib.Omega.{arith}
use mathlib.Core.List.{List, [], ◌∷◌, ◌++◌, flat_map, append_assoc}
use lib.ListN.{length, get_or, drop, replicate, get_or-append}
use lib.Seq.{get_or-append-add}
use borrow.Author.Tests.{le-leb}
use Rattle.lists.specs.Lists.{All}
use Rattle.template_parts.specs.Parts.{parts, parts_from}
use Rattle.template_parts.proofs.Parts.{Leads, part_leads}
use Rattle.template_pieces.specs.Piece.{Piece, sequence_a, sequence_b, special, PartReading, unreadable, readable, read_part, piece_numbers}
use Rattle.template_pieces.proofs.Lies.{Lies, part_lies}
use Rattle.template_text.specs.Template.{most_parts, piece_width, TemplateReading, unread, reads, follows, read_parts, read_template, pieces_of}
use Rattle.template_text.proofs.Answers.{template_holds}
use Rattle.template_text.proofs.Gathering.{piece_long}

-- ---- Every special id lies in the text

module _ (text : List ℕ) where
  lie_from : (left : List (List ℕ)) (number at : ℕ) → parts_from text at ≡ left → {ps : List Piece} → read_parts number at left ≡ reads ps → All (Lies text) ps
  unfolding read_parts
  lie_from [] number at e {ps} r = let none : ps ≡ [] = cc in rw none tt
  lie_from (part ∷ rest) number at e {ps} r =
      go (read_part at part) (read_parts (number + 1) (at + length part + 1) rest) refl (λ qs q. lie_from rest (number + 1) (at + length part + 1) leads.next {ps = qs} q) r
    where
      leads : Leads text at part rest
      leads = part_leads text at e

      go : (p : PartReading) (more : TemplateReading) → read_part at part ≡ p → ((qs : List Piece) → more ≡ reads qs → All (Lies text) qs) → follows number at p more ≡ reads ps → All (Lies text) ps
      go (unreadable why) more a h f = let z : ◌≡◌ {A = ℕ} 0 1 = cc in absurd (omega arith)
      go (readable p) (unread k) a h f = let z : ◌≡◌ {A = ℕ} 0 1 = cc in absurd (omega arith)
      go (readable p) (reads qs) a h f =
          let all : ps ≡ p ∷ qs = cc in
          rw all (part_lies text at (length part) leads.inside (ap (read_part at) leads.stands ∙ a), h qs refl)

  pub pieces_lie : {ps : List Piece} → read_template text ≡ reads ps → All (Lies text) ps
  unfolding parts_from
  pieces_lie {ps} e = lie_from (parts text) 0 0 (rw (le-leb 0 (length text) (omega arith))) (template_holds text e)

  lie_at : (ps : List Piece) (i : ℕ) (d : Piece) → i < length ps → All (Lies text) ps → Lies text (get_or ps i d)
  lie_at [] i d h all = absurd (omega arith)
  lie_at (p ∷ ps) zero d h all = all.0
  lie_at (p ∷ ps) (suc i) d h all = lie_at ps i d (omega arith) all.1

-- ---- What stands at each place

pub piece_number : (ps : List Piece) (l : List ℕ) (i j : ℕ) (d : Piece) → i < length ps → j < piece_width → get_or (flat_map piece_numbers ps ++ l) (i * piece_width + j) 0 ≡ get_or (piece_numbers (get_or ps i d)) j 0
unfolding flat_map
piece_number [] l i j d h k = absurd (omega arith)
piece_number (p ∷ ps) l zero j d h k =
    let e : zero * piece_width + j ≡ j = omega arith in
    rw (e, append_assoc) (get_or-append (piece_numbers p) (flat_map piece_numbers ps ++ l) 0 j (omega (arith, piece_long p)))
piece_number (p ∷ ps) l (suc i) j d h k =
    let e : suc i * piece_width + j ≡ length (piece_numbers p) + (i * piece_width + j) = omega (arith, piece_long p) in
    rw (e, append_assoc) (get_or-append-add (piece_numbers p) (flat_map piece_numbers ps ++ l) (i * piece_width + j) 0 ∙ piece_number ps l i j d (omega arith) k)

four : (p : Piece) → piece_numbers p ≡ get_or (piece_numbers p) 0 0 ∷ get_or (piece_numbers p) 1 0 ∷ get_or (piece_numbers p) 2 0 ∷ get_or (piece_numbers p) 3 0 ∷ []
four (sequence_a t) = refl
four (sequence_b t) = refl
four (special s id t) = refl

-- A piece has these numbers, and its id lies in the text.
pub record PieceAt (text : List ℕ) (kind type start size : ℕ) (piece : Piece) : Type 0 where
  pub numbers : piece_numbers piece ≡ kind ∷ type ∷ start ∷ size ∷ []
  pub lies_there : Lies text piece

-- a piece's id does not pass the text, by its numbers
pub piece_within : {text : List ℕ} {kind type start size : ℕ} (piece : Piece) → PieceAt text kind type start size piece → start + size ≤ length text
piece_within {text} {kind} {type} {start} {size} (sequence_a t) p =
    let s : 0 ≡ start = ap (λ (l : List ℕ). get_or l 2 0) p.numbers in
    let n : 0 ≡ size = ap (λ (l : List ℕ). get_or l 3 0) p.numbers in
    omega arith
piece_within {text} {kind} {type} {start} {size} (sequence_b t) p =
    let s : 0 ≡ start = ap (λ (l : List ℕ). get_or l 2 0) p.numbers in
    let n : 0 ≡ size = ap (λ (l : List ℕ). get_or l 3 0) p.numbers in
    omega arith
piece_within {text} {kind} {type} {start} {size} (special a id t) p =
    let s : a ≡ start = ap (λ (l : List ℕ). get_or l 2 0) p.numbers in
    let n : length id ≡ size = ap (λ (l : List ℕ). get_or l 3 0) p.numbers in
    omega (arith, p.lies_there.0)

module _ (text : List ℕ) {ps : List Piece} (e : read_template text ≡ reads ps) (i : ℕ) (d : Piece) (h : i < length ps) where
  -- number j of piece i, as the answer has it
  abbrev number : ℕ → ℕ
  number j = get_or (pieces_of (read_template text)) (i * piece_width + j) 0

  number_is : (j : ℕ) → j < piece_width → number j ≡ get_or (piece_numbers (get_or ps i d)) j 0
  number_is j k = rw e (piece_number ps (drop (length (flat_map piece_numbers ps)) (replicate (most_parts * piece_width) 0)) i j d h k)

  pub piece_at : PieceAt text (number 0) (number 1) (number 2) (number 3) (get_or ps i d)
  piece_at =
      record {
        numbers = four (get_or ps i d) ∙ rw (number_is 0 (omega arith), number_is 1 (omega arith), number_is 2 (omega arith), number_is 3 (omega arith));
        lies_there = lie_at text ps i d h (pieces_lie text e);
      }
