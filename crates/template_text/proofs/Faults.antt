-- The fault that reading a template tells is that of its first part that cannot be read: of this number among the parts and at this
-- place in the text, for this reason, after parts that can all be read.
-- Assumes nothing.
use mathlib.Core.Path.{◌≡◌, refl, ap}
use mathlib.Core.Bool.{Bool, true, false, cond}
use Prim.Native.Nat.{ℕ, ◌+◌}
use native.Mathlib.Omega.{arith}
use mathlib.Core.List.{List, [], ◌∷◌, ◌++◌}
use lib.ListN.{length}
use borrow.Author.Tests.{le-leb}
use Rattle.record.specs.declared.Fault.{Fault}
use Rattle.record.specs.declared.Refusal.TheVariants.{PartUnreadable, TemplateTooLong}
use Rattle.template_parts.specs.Parts.{parts, parts_from}
use Rattle.template_parts.proofs.Parts.{part_leads}
use Rattle.template_pieces.specs.Piece.{Piece, PartReading, unreadable, readable, read_part}
use Rattle.template_text.specs.Template.{TemplateReading, unread, reads, fault_at, follows, read_parts, short, read_template}

-- Of the parts `left`, the first of which has a number and stands at a place of the text: the first that cannot be read.
pub record FirstFault (text : List ℕ) (number at : ℕ) (left : List (List ℕ)) (fault : Fault) : Type 0 where
  pub before : List (List ℕ)
  pub part : List ℕ
  pub after : List (List ℕ)
  pub parts_are : left ≡ before ++ (part ∷ after)
  pub number_is : fault.part ≡ number + length before
  pub stands : parts_from text fault.place ≡ part ∷ after
  pub why_is : read_part fault.place part ≡ unreadable fault.why
  pub pieces : List Piece
  pub reads_before : read_parts number at before ≡ reads pieces

module _ (text : List ℕ) where
  first_from_lem : (left : List (List ℕ)) (number at : ℕ) → parts_from text at ≡ left → {fault : Fault} → read_parts number at left ≡ unread (PartUnreadable fault) → FirstFault text number at left fault
  unfolding read_parts
  first_from_lem [] number at e r = let z : ◌≡◌ {A = ℕ} 0 1 = cc in absurd (omega arith)
  first_from_lem (part ∷ rest) number at e {fault} r =
      go (read_part at part) (read_parts (number + 1) (at + length part + 1) rest) refl (λ f q. first_from_lem rest (number + 1) (at + length part + 1) (part_leads text at e).next {fault = f} q) r
    where
      go : (p : PartReading) (more : TemplateReading) → read_part at part ≡ p → ((f : Fault) → more ≡ unread (PartUnreadable f) → FirstFault text (number + 1) (at + length part + 1) rest f) → follows number at p more ≡ unread (PartUnreadable fault)
          → FirstFault text number at (part ∷ rest) fault
      go (unreadable why) more a h f =
          let same : fault ≡ fault_at number at why = cc in
          rw same (record { before = []; part = part; after = rest; parts_are = refl; number_is = omega arith; stands = e; why_is = a; pieces = []; reads_before = refl })
      go (readable p) (unread k) a h f =
          let same : k ≡ PartUnreadable fault = cc in
          let later = h fault (ap unread same) in
          record {
            before = part ∷ later.before;
            part = later.part;
            after = later.after;
            parts_are = ap (◌∷◌ part) later.parts_are;
            number_is = omega (arith, later.number_is);
            stands = later.stands;
            why_is = later.why_is;
            pieces = p ∷ later.pieces;
            reads_before = rw (a, later.reads_before) refl;
          }
      go (readable p) (reads ps) a h f = let z : ◌≡◌ {A = ℕ} 0 1 = cc in absurd (omega arith)

  pub fault_first : {fault : Fault} → read_template text ≡ unread (PartUnreadable fault) → FirstFault text 0 0 (parts text) fault
  unfolding read_template parts_from
  fault_first {fault} e = go (short text) e
    where
      go : (b : Bool) → cond b (read_parts 0 0 (parts text)) (unread TemplateTooLong) ≡ unread (PartUnreadable fault) → FirstFault text 0 0 (parts text) fault
      go true e = first_from_lem (parts text) 0 0 (rw (le-leb 0 (length text) (omega arith))) e
      go false e = let z : ◌≡◌ {A = ℕ} 0 1 = cc in absurd (omega arith)
