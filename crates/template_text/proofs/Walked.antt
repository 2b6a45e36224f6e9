-- A walk from part to part of a text: the pieces passed so far and those that are left are the pieces of the text. What holds
-- at the start, after each part, and at each way out.
-- Assumes nothing.
use mathlib.Core.Path.{◌≡◌, refl, ap, sym, ◌∙◌}
use Prim.Native.Nat.{ℕ, ◌+◌, ◌≤◌, ◌<◌}
use native.Mathlib.Omega.{arith}
use mathlib.Core.List.{List, [], ◌∷◌, ◌++◌, append-nil}
use lib.ListN.{length, take, drop, length-append, length-drop}
use lib.Seq.{append_snoc, length-take-le}
use borrow.Author.Tests.{le-leb}
use Rattle.record.specs.declared.Why.{Why}
use Rattle.record.specs.declared.Refusal.TheVariants.{PartUnreadable}
use Rattle.template_parts.specs.Parts.{parts, parts_from, part_step_at}
use Rattle.std.specs.Prelude.{Some, None}
use Rattle.template_parts.specs.declared.Part.{Part}
use Rattle.template_parts.proofs.Parts.{Here, part_found, part_none}
use Rattle.template_pieces.specs.Piece.{Piece, unreadable, readable, read_part}
use Rattle.template_text.specs.Template.{TemplateReading, unread, reads, fault_at, follows, read_parts}
use Rattle.template_text.specs.Comes.{number_at, fault_in}

-- pieces, and then those of a reading
abbrev before : List Piece → TemplateReading → TemplateReading
before passed (unread k) = unread k
before passed (reads pieces) = reads (passed ++ pieces)

-- `passed` are the pieces of the parts before the place `at`.
pub record Walked (text : List ℕ) (at : ℕ) (passed : List Piece) : Type 0 where
  pub reach : at ≤ length text + 1
  pub number : length passed + length (parts_from text at) ≡ length (parts text)
  pub pieces_are : read_parts 0 0 (parts text) ≡ before passed (read_parts (length passed) at (parts_from text at))

nothing_before : (r : TemplateReading) → r ≡ before [] r
nothing_before (unread k) = refl
nothing_before (reads ps) = refl

pub walked_start : (text : List ℕ) → Walked text 0 []
unfolding parts_from
walked_start text =
    let all : parts_from text 0 ≡ parts text = rw (le-leb 0 (length text) (omega arith)) in
    record { reach = omega arith; number = omega (arith, ap length all); pieces_are = rw all (nothing_before (read_parts 0 0 (parts text))) }

one_more : (passed : List Piece) (piece : Piece) (part place : ℕ) (r : TemplateReading) → before passed (follows part place (readable piece) r) ≡ before (passed ++ (piece ∷ [])) r
one_more passed piece part place (unread k) = refl
one_more passed piece part place (reads ps) = ap reads (sym (append_snoc passed piece ps))

module _ {text : List ℕ} {at : ℕ} {passed : List Piece} (w : Walked text at passed) where
  -- the pieces passed are the first of all
  pub walked_first : {pieces : List Piece} → read_parts 0 0 (parts text) ≡ reads pieces → (rest : List Piece) × (pieces ≡ passed ++ rest)
  walked_first {pieces} e = go (read_parts (length passed) at (parts_from text at)) (sym w.pieces_are ∙ e)
    where
      go : (r : TemplateReading) → before passed r ≡ reads pieces → (rest : List Piece) × (pieces ≡ passed ++ rest)
      go (unread k) e = let z : ◌≡◌ {A = ℕ} 0 1 = cc in absurd (omega arith)
      go (reads rest) e = (rest, cc)

  -- the end: the pieces passed are all
  pub walked_end : (part_step_at text at).answer ≡ None → read_parts 0 0 (parts text) ≡ reads passed
  unfolding read_parts
  walked_end e = w.pieces_are ∙ rw (part_none text at e) (ap reads (append-nil passed))

  module _ {found : Part} (e : (part_step_at text at).answer ≡ Some found) where
    abbrev start : ℕ
    start = found.start

    abbrev size : ℕ
    size = found.length

    here : Here text at start size
    here = part_found text at e

    -- the place moves on from where it was
    pub walked_moves : (at < (part_step_at text at).next) × (at ≤ length text)
    walked_moves = (omega (arith, here.next, here.place), omega (arith, here.inside, here.place))

    abbrev part : List ℕ
    part = take size (drop start text)

    part_size : length part ≡ size
    part_size = length-take-le size (drop start text) (omega (arith, here.inside, length-drop start text))

    step : read_parts (length passed) at (parts_from text at) ≡ follows (length passed) start (read_part start part) (read_parts (length passed + 1) (start + size + 1) (parts_from text (start + size + 1)))
    unfolding read_parts
    step = rw (here.left, part_size, here.place)

    -- its number: as many as were passed
    number_is : length passed ≡ number_at text start
    number_is = let left : parts_from text start ≡ parts_from text at = ap (parts_from text) here.place in omega (arith, w.number, ap length left)

    -- a part that cannot be read
    pub walked_bad : {why : Why} → read_part start part ≡ unreadable why → read_parts 0 0 (parts text) ≡ unread (PartUnreadable (fault_in text start why))
    unfolding fault_in
    walked_bad {why} bad = w.pieces_are ∙ rw (step, bad) (ap (λ (n : ℕ). unread (PartUnreadable (fault_at n start why))) number_is)

    -- a part that can be read is passed
    pub walked_on : {piece : Piece} → read_part start part ≡ readable piece → Walked text (part_step_at text at).next (passed ++ (piece ∷ []))
    walked_on {piece} good =
        rw here.next
        (record {
          reach = omega (arith, here.inside);
          number = omega (arith, w.number, ap length here.left, length-append passed (piece ∷ []));
          pieces_are = w.pieces_are ∙ rw (step, good, length-append passed (piece ∷ [])) (one_more passed piece (length passed) start (read_parts (length passed + 1) (start + size + 1) (parts_from text (start + size + 1))));
        })

    -- and there is room for it
    pub walked_few : length passed < length (parts text)
    walked_few = omega (arith, w.number, ap length here.left)
