-- What comes at a place of a text, for a walk that has passed the pieces before it: at the end they are all; a part that cannot
-- be read is the first such; a piece is passed, and the place moves on.
-- Assumes nothing.
use mathlib.Core.Path.{◌≡◌, refl, ap, sym, subst, ◌∙◌}
use Prim.Native.Nat.{ℕ, ◌+◌, ◌-◌, ◌≤◌, ◌<◌}
use native.Mathlib.Omega.{arith}
use mathlib.Core.List.{List, [], ◌∷◌, ◌++◌}
use lib.ListN.{length, take, drop}
use Rattle.record.specs.declared.Why.{Why}
use Rattle.record.specs.declared.Fault.{Fault}
use Rattle.record.specs.declared.Refusal.{Refusal}
use borrow.Author.Tests.{le-leb}
use Rattle.template_parts.specs.Parts.{space, parts, parts_from, part_step_at}
use Rattle.std.specs.Prelude.{Option, Some, None, Ok, Err}
use Rattle.template_parts.specs.declared.Part.{Part}
use Rattle.template_parts.proofs.Split.{split_drop}
use Rattle.template_parts.proofs.Parts.{part_found}
use Rattle.template_pieces.specs.Piece.{Piece, PartReading, unreadable, readable, read_part, piece_told, piece_answer}
use Rattle.template_pieces.specs.declared.Name.TheVariants.{Special}
use Rattle.template_pieces.specs.declared.Piece.{Piece as PieceRead}
use Rattle.template_pieces.proofs.Lies.{PieceIs, part_lies, piece_within}
use Rattle.template_pieces.proofs.ByName.{take_rest}
use Rattle.template_text.specs.Comes.{fault_in, Coming, end_comes, fault_comes, piece_comes, with_next, of_part, comes_at}
use Rattle.template_text.specs.Template.{unread, reads, fault_at, read_parts}
use Rattle.template_text.specs.declared.PieceStep.{PieceStep}
use Rattle.template_text.proofs.Walked.{Walked, walked_end, walked_bad, walked_on, walked_moves, walked_few}

-- ---- The fault of a part

module _ (text : List ℕ) (place : ℕ) where
  -- the parts from a place on, as they are lent
  abbrev rest : List ℕ
  rest = take (length text - place) (drop place text)

  pub parts_fewer : length (parts rest) ≤ length (parts text)
  parts_fewer = rw (take_rest place text) (split_drop space text place)

  pub fault_is : place ≤ length text → (why : Why) → fault_at (length (parts text) - length (parts rest)) place why ≡ fault_in text place why
  unfolding fault_in parts_from
  fault_is h why = rw (take_rest place text, le-leb place (length text) h)

-- ---- What comes, by the part and the piece that it is

module _ (text : List ℕ) (at : ℕ) where
  -- the place after a part
  abbrev after : ℕ
  after = (part_step_at text at).next

  pub at_end : (part_step_at text at).answer ≡ None → end_comes ≡ comes_at text at
  unfolding comes_at
  at_end e = sym (ap (of_part text after) e)

  module _ {found : Part} (e : (part_step_at text at).answer ≡ Some found) where
    abbrev part : List ℕ
    part = take found.length (drop found.start text)

    pub at_bad : {why : Why} → piece_answer (read_part found.start part) ≡ Err why → {fault : Fault} → fault ≡ fault_in text found.start why → fault_comes fault ≡ comes_at text at
    unfolding comes_at
    at_bad bad f = ap fault_comes f ∙ sym (ap (of_part text after) e ∙ ap (with_next text found.start after) bad)

    pub at_piece : {piece : PieceRead} → piece_answer (read_part found.start part) ≡ Ok piece → {next : ℕ} → next ≡ after → piece_comes piece next ≡ comes_at text at
    unfolding comes_at
    at_piece {piece} read {next} n = ap (piece_comes piece) n ∙ sym (ap (of_part text after) e ∙ ap (with_next text found.start after) read)

-- ---- And the other way round: what holds at the end, of each part that cannot be read and of each piece holds of what comes

-- what is to be shown of a part, by what it is
module _ (P : Coming → Type 0) (text : List ℕ) (start size next : ℕ) (inside : start + size ≤ length text) where
  by_part : ((why : Why) → read_part start (take size (drop start text)) ≡ unreadable why → P (fault_comes (fault_in text start why)))
      → ((p : Piece) → read_part start (take size (drop start text)) ≡ readable p → PieceIs text (piece_told p) p → P (piece_comes (piece_told p) next))
      → (r : PartReading) → read_part start (take size (drop start text)) ≡ r → P (with_next text start next (piece_answer r))
  unfolding piece_answer
  by_part bad good (unreadable why) e = bad why e
  by_part bad good (readable p) e = good p e (record { same = refl; lies_there = part_lies text start size inside e })

module _ (P : Coming → Type 0) (text : List ℕ) (at : ℕ) where
  by_cases : ((part_step_at text at).answer ≡ None → P end_comes)
      → ((found : Part) → (part_step_at text at).answer ≡ Some found → (why : Why) → read_part found.start (take found.length (drop found.start text)) ≡ unreadable why → P (fault_comes (fault_in text found.start why)))
      → ((found : Part) → (part_step_at text at).answer ≡ Some found → (p : Piece) → read_part found.start (take found.length (drop found.start text)) ≡ readable p → PieceIs text (piece_told p) p → P (piece_comes (piece_told p) (part_step_at text at).next))
      → (step : Coming) → comes_at text at ≡ step → P step
  unfolding comes_at
  by_cases end bad good step e = subst P e (go (part_step_at text at).answer refl)
    where
      go : (a : Option Part) → (part_step_at text at).answer ≡ a → P (of_part text (part_step_at text at).next a)
      go None is = end is
      go (Some found) is = by_part P text found.start found.length (part_step_at text at).next (part_found text at is).inside (bad found is) (good found is) (read_part found.start (take found.length (drop found.start text))) refl

-- neither a piece nor a fault: the end
pub no_more : (coming : Coming) → ((step : PieceStep) → coming ≡ Ok (Some step) → ⊥) → ((why : Refusal) → coming ≡ Err why → ⊥) → coming ≡ Ok None
no_more (Err why) h k = absurd (k why refl)
no_more (Ok None) h k = refl
no_more (Ok (Some step)) h k = absurd (h step refl)

-- ---- At any place

-- the id of a special piece lies in the text
abbrev pub IdWithin : List ℕ → PieceRead → Type 0
IdWithin text piece = (start size : ℕ) → piece.name ≡ Special start size → start + size ≤ length text

abbrev Within : List ℕ → Coming → Type 0
Within text (Err k) = Unit {0}
Within text (Ok None) = Unit {0}
Within text (Ok (Some step)) = IdWithin text step.piece

pub come_within : (text : List ℕ) (at : ℕ) {step : PieceStep} → comes_at text at ≡ Ok (Some step) → IdWithin text step.piece
come_within text at e = by_cases (Within text) text at (λ _. tt) (λ _ _ _ _. tt) (λ _ _ p _ is _ _ names. piece_within p is names) _ e

-- ---- On a walk

-- A piece comes after those passed, as the step says.
pub record Passing (text : List ℕ) (at : ℕ) (passed : List Piece) (step : PieceStep) : Type 0 where
  pub piece : Piece
  pub is : PieceIs text step.piece piece
  pub within : IdWithin text step.piece
  pub walked : Walked text step.next (passed ++ (piece ∷ []))
  pub less : length text + 1 - step.next < length text + 1 - at
  pub few : length passed < length (parts text)

abbrev pub Comes : List ℕ → ℕ → List Piece → Coming → Type 0
Comes text at passed (Err k) = read_parts 0 0 (parts text) ≡ unread k
Comes text at passed (Ok None) = read_parts 0 0 (parts text) ≡ reads passed
Comes text at passed (Ok (Some step)) = Passing text at passed step

-- the law of every walk
pub comes : {text : List ℕ} {at : ℕ} {passed : List Piece} → Walked text at passed → {step : Coming} → comes_at text at ≡ step → Comes text at passed step
comes {text} {at} {passed} w {step} =
    by_cases (Comes text at passed) text at (walked_end w) (λ _ e _ bad. walked_bad w e bad)
    (λ _ e p good is.
    let moves = walked_moves w e in
    record {
      piece = p;
      is = is;
      within = λ _ _ names. piece_within p is names;
      walked = walked_on w e good;
      less = omega (arith, moves.0, moves.1);
      few = walked_few w e;
    }) step
