-- The pieces of a text as they are gathered: what holds after each part, and at each way out.
-- Assumes nothing.
use mathlib.Core.Path.{◌≡◌, refl, ap, sym, ◌∙◌}
use mathlib.Core.Bool.{true}
use Prim.Native.Nat.{ℕ, suc, ◌+◌, ◌*◌, ◌≤◌, ◌<◌}
use native.Mathlib.Omega.{arith}
use mathlib.Core.List.{List, [], ◌∷◌, ◌++◌, flat_map, append-nil}
use lib.ListN.{length, replicate, length-append}
use lib.Seq.{sets, length-sets, take_all}
use Rattle.lists.proofs.FlatMap.{flat_map_append}
use Rattle.lists.proofs.Sets.{sets_append, sets_over}
use Rattle.record.specs.declared.Refusal.{Refusal}
use Rattle.template_parts.specs.Parts.{parts}
use Rattle.template_pieces.specs.Piece.{Piece, sequence_a, sequence_b, special, PartReading, unreadable, readable, read_part, piece_numbers, piece_told}
use Rattle.template_text.specs.Template.{most_parts, piece_width, TemplateReading, unread, reads, follows, read_parts, short, read_template, template_answer, template_of}
use Rattle.template_text.specs.Promises.{RoomFor, Gathered, SmallId, name_numbers, told_numbers}
use Rattle.std.specs.Prelude.{Some, None, Result, Ok, Err, take, drop}
use Rattle.template_pieces.specs.declared.Name.{Name}
use Rattle.template_pieces.specs.declared.Name.TheVariants.{A, B, Special}
use Rattle.template_pieces.specs.declared.Piece.{Piece as PieceRead}
use Rattle.template_text.proofs.Answers.{short_is, template_short}
use Rattle.template_text.proofs.Walked.{Walked, walked_start}
use Rattle.template_text.specs.Comes.{comes_at}
use Rattle.template_text.specs.declared.PieceStep.{PieceStep}
use Rattle.template_text.proofs.Coming.{Passing, comes}

-- ---- The numbers of pieces

pub piece_long : (piece : Piece) → length (piece_numbers piece) ≡ piece_width
piece_long (sequence_a t) = refl
piece_long (sequence_b t) = refl
piece_long (special s id t) = refl

pub length_pieces : (ps : List Piece) → length (flat_map piece_numbers ps) ≡ length ps * piece_width
unfolding flat_map
length_pieces [] = refl
length_pieces (p ∷ ps) = omega (arith, length-append (piece_numbers p) (flat_map piece_numbers ps), piece_long p, length_pieces ps)

-- as they are told
told_same : (piece : Piece) → piece_numbers piece ≡ told_numbers (piece_told piece)
told_same (sequence_a t) = refl
told_same (sequence_b t) = refl
told_same (special s id t) = refl

pub told_long : (piece : PieceRead) → length (told_numbers piece) ≡ piece_width
told_long piece = go piece.name
  where
    go : (name : Name) → length (name_numbers name piece.type_id) ≡ piece_width
    go A = refl
    go B = refl
    go (Special start size) = refl

pub told_whole : (piece : PieceRead) → take piece_width (drop 0 (told_numbers piece)) ≡ told_numbers piece
told_whole piece = take_all piece_width (told_numbers piece) (omega (arith, told_long piece))

sets_after : (l xs ys : List ℕ) (k : ℕ) → 0 + length xs ≡ k → sets (sets l 0 xs) k ys ≡ sets l 0 (xs ++ ys)
sets_after l xs ys k e = ap (λ (j : ℕ). sets (sets l 0 xs) j ys) (sym e) ∙ sets_append l 0 xs ys

pieces_more : (ps : List Piece) (p : Piece) {numbers : List ℕ} → piece_numbers p ≡ numbers → flat_map piece_numbers (ps ++ (p ∷ [])) ≡ flat_map piece_numbers ps ++ numbers
unfolding flat_map
pieces_more ps p e = flat_map_append piece_numbers ps (p ∷ []) ∙ ap (◌++◌ (flat_map piece_numbers ps)) (append-nil (piece_numbers p) ∙ e)

-- ---- Gathering

pub record Gathering (text numbers : List ℕ) (at count : ℕ) (numbers' : List ℕ) : Type 0 where
  pub passed : List Piece
  pub walked : Walked text at passed
  pub counted : count ≡ length passed
  pub written : numbers' ≡ sets numbers 0 (flat_map piece_numbers passed)

pub gather_start : (text numbers : List ℕ) → Gathering text numbers 0 0 numbers
unfolding flat_map
gather_start text numbers = record { passed = []; walked = walked_start text; counted = refl; written = refl }

module _ {text numbers : List ℕ} {at count : ℕ} {numbers' : List ℕ} (g : Gathering text numbers at count numbers') where
  pub kept : length numbers' ≡ length numbers
  kept = ap length g.written ∙ length-sets numbers 0 (flat_map piece_numbers g.passed)

  pub gather_end : comes_at text at ≡ Ok None → Gathered text numbers (Ok count) numbers'
  gather_end e =
      let all : read_parts 0 0 (parts text) ≡ reads g.passed = comes g.walked e in
      record { answers = rw all (ap Ok g.counted); kept = kept; written = λ ps is. let same : g.passed ≡ ps = cc in rw (← same) g.written }

  pub gather_bad : {k : Refusal} → comes_at text at ≡ Err k → Gathered text numbers (Err k) numbers'
  gather_bad {k} e =
      let none : read_parts 0 0 (parts text) ≡ unread k = comes g.walked e in
      record { answers = rw none; kept = kept; written = λ ps is. let z : ◌≡◌ {A = ℕ} 0 1 = cc in absurd (omega arith) }

  module _ {step : PieceStep} (e : comes_at text at ≡ Ok (Some step)) where
    pub gather_passing : Passing text at g.passed step
    gather_passing = comes g.walked e

    pub gather_few : RoomFor text numbers → count < most_parts
    gather_few room = omega (arith, g.counted, gather_passing.few, (short_is text room.is_short).1)

    -- the numbers of its place fit a u32
    pub gather_small : RoomFor text numbers → SmallId step.piece.name
    gather_small room = go step.piece.name gather_passing.within
      where
        go : (name : Name) → ((start size : ℕ) → name ≡ Special start size → start + size ≤ length text) → SmallId name
        go A within = tt
        go B within = tt
        go (Special start size) within = omega (arith, within start size refl, (short_is text room.is_short).0)

    pub gather_room : RoomFor text numbers → count * piece_width + piece_width ≤ length numbers'
    gather_room room = omega (arith, kept, room.room, gather_few room)

    pub gather_on : {numbers'' : List ℕ} → numbers'' ≡ sets numbers' (count * piece_width) (told_numbers step.piece) → Gathering text numbers step.next (count + 1) numbers''
    gather_on {numbers''} w =
        let counted : 0 + length (flat_map piece_numbers g.passed) ≡ count * piece_width = omega (arith, length_pieces g.passed, g.counted) in
        let piece = gather_passing.piece in
        record {
          passed = g.passed ++ (piece ∷ []);
          walked = gather_passing.walked;
          counted = omega (arith, g.counted, length-append g.passed (piece ∷ []));
          written =
              w
              ∙ ap (λ (l : List ℕ). sets l (count * piece_width) (told_numbers step.piece)) g.written
              ∙ sets_after numbers (flat_map piece_numbers g.passed) (told_numbers step.piece) (count * piece_width) counted
              ∙ ap (sets numbers 0) (sym (pieces_more g.passed piece (told_same piece ∙ ap told_numbers gather_passing.is.same)));
        }

-- ---- The whole answer

-- as many pieces as parts
pub pieces_number : (part place : ℕ) (left : List (List ℕ)) {ps : List Piece} → read_parts part place left ≡ reads ps → length ps ≡ length left
unfolding read_parts
pieces_number part place [] {ps} e = let none : ps ≡ [] = cc in ap length none
pieces_number part place (text ∷ rest) {ps} e = go (read_part place text) (read_parts (part + 1) (place + length text + 1) rest) (λ qs q. pieces_number (part + 1) (place + length text + 1) rest {ps = qs} q) e
  where
    go : (piece : PartReading) (pieces : TemplateReading) → ((qs : List Piece) → pieces ≡ reads qs → length qs ≡ length rest) → follows part place piece pieces ≡ reads ps → length ps ≡ suc (length rest)
    go (unreadable why) pieces more e = let z : ◌≡◌ {A = ℕ} 0 1 = cc in absurd (omega arith)
    go (readable p) (unread k) more e = let z : ◌≡◌ {A = ℕ} 0 1 = cc in absurd (omega arith)
    go (readable p) (reads qs) more e = let all : ps ≡ p ∷ qs = cc in ap length all ∙ ap suc (more qs refl)

abbrev zeros : List ℕ
zeros = replicate (most_parts * piece_width) 0

module _ {text : List ℕ} {answer : Result ℕ Refusal} {numbers : List ℕ} (is_short : short text ≡ true) (g : Gathered text zeros answer numbers) where
  pub gathered_none : {why : Refusal} → answer ≡ Err why → read_template text ≡ unread why
  gathered_none {why} e = template_short text is_short ∙ go (read_parts 0 0 (parts text)) (sym g.answers ∙ e)
    where
      go : (r : TemplateReading) → template_answer r ≡ Err why → r ≡ unread why
      go (unread k) e = cc
      go (reads ps) e = let z : ◌≡◌ {A = ℕ} 0 1 = cc in absurd (omega arith)

  pub gathered_some : {count : ℕ} → answer ≡ Ok count → Ok (record { count = count; pieces = numbers }) ≡ template_of (read_template text)
  unfolding template_of
  gathered_some {count} e = rw (template_short text is_short) (go (read_parts 0 0 (parts text)) (sym e ∙ g.answers) g.written (λ ps q. pieces_number 0 0 (parts text) {ps = ps} q))
    where
      go : (r : TemplateReading) → Ok count ≡ template_answer r → ((ps : List Piece) → r ≡ reads ps → numbers ≡ sets zeros 0 (flat_map piece_numbers ps))
          → ((ps : List Piece) → r ≡ reads ps → length ps ≡ length (parts text))
          → Ok (record { count = count; pieces = numbers }) ≡ template_of r
      go (unread k) a w n = let z : ◌≡◌ {A = ℕ} 0 1 = cc in absurd (omega arith)
      go (reads ps) a w n =
          let room : length (flat_map piece_numbers ps) ≤ length zeros = omega (arith, length_pieces ps, n ps refl, (short_is text is_short).1) in
          let counted : count ≡ length ps = cc in
          λ i. Ok (record { count = counted i; pieces = (w ps refl ∙ sets_over zeros (flat_map piece_numbers ps) room) i })
