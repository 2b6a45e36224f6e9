-- Whether the special ids of a template are known: what holds after each part, and the answer at each way out, of every table
-- with these entries. Assumes nothing.
use mathlib.Core.Path.{◌≡◌, refl, sym, ◌∙◌, ap}
use mathlib.Core.Bool.{Bool, true, false, ◌&&◌, and-false, and_assoc}
use mathlib.Core.Option.{none as nothing}
use Prim.Native.Nat.{ℕ, ◌+◌, ◌-◌, ◌/◌, ◌≤◌, ◌<◌}
use native.Mathlib.Omega.{arith}
use mathlib.Core.List.{List, [], ◌∷◌, ◌++◌}
use lib.ListN.{length, get_or, take, drop}
use borrow.Author.Count.{below_more}
use Rattle.record.specs.Read.{all_ok}
use Rattle.record.specs.declared.Refusal.TheVariants.{SpecialIdUnknown}
use Rattle.lookup_ranges.specs.First.{last_from}
use Rattle.lookup_ranges.proofs.First.{nothing_last}
use Rattle.template_parts.specs.Parts.{parts}
use Rattle.template_pieces.specs.Piece.{Piece, sequence_a, sequence_b, special}
use Rattle.template_pieces.proofs.Lies.{kind_special, PieceIs}
use Rattle.template_text.specs.Template.{unread, reads, read_parts}
use Rattle.template_text.proofs.Walked.{Walked, walked_start, walked_first}
use Rattle.template_text.proofs.Answers.{template_holds}
use Rattle.template_entries.specs.Table.{Special, entry_width, no_entry, entries_in, sound, read_table}
use Rattle.template_find.specs.Promises.{entry_has_id}
use Rattle.template_entries.proofs.Entries.{entries_number}
use Rattle.template_entries.proofs.Sound.{table_holds}
use Rattle.template_find.proofs.Found.{missing, present}
use Rattle.template_known.specs.Known.{known, known_answer}
use Rattle.template_known.specs.Promises.{KnownIn}
use Rattle.std.specs.Prelude.{Some, None, Ok, Err}
use Rattle.record.specs.declared.Refusal.{Refusal}
use Rattle.template_pieces.specs.declared.Name.TheVariants.{Special as Named}
use Rattle.template_pieces.specs.declared.Piece.{Piece as PieceRead}
use Rattle.template_text.specs.Comes.{comes_at}
use Rattle.template_text.specs.declared.PieceStep.{PieceStep}
use Rattle.template_text.proofs.Coming.{Passing, comes}

-- a piece that is not special is known
module _ {text : List ℕ} {told : PieceRead} where
  pub other_known : (table : List Special) (p : Piece) → PieceIs text told p → ((start size : ℕ) → told.name ≡ Named start size → ⊥) → known table p ≡ true
  unfolding known
  other_known table (sequence_a t) is h = refl
  other_known table (sequence_b t) is h = refl
  other_known table (special s id t) is h = absurd (h s (length id) (sym (ap (λ (r : PieceRead). r.name) is.same)))

all_ok_append : (t : Piece → Bool) (ps qs : List Piece) → all_ok t (ps ++ qs) ≡ (all_ok t ps && all_ok t qs)
all_ok_append t [] qs = refl
all_ok_append t (p ∷ ps) qs = rw (all_ok_append t ps qs) (sym (and_assoc (t p) (all_ok t ps) (all_ok t qs)))

all_ok_more : (t : Piece → Bool) (ps : List Piece) (p : Piece) → all_ok t ps ≡ true → t p ≡ true → all_ok t (ps ++ (p ∷ [])) ≡ true
all_ok_more t ps p a b = all_ok_append t ps (p ∷ []) ∙ rw (a, b)

-- ---- The entries of one id

-- No entry before place i has the id.
pub record Seeking (entries numbers id : List ℕ) (i : ℕ) : Type 0 where
  pub inside : i ≤ length entries / entry_width
  pub none_before : (j : ℕ) → j < i → entry_has_id numbers id (get_or (entries_in entries) j no_entry) ≡ false

module _ {entries numbers id : List ℕ} where
  pub seek_start : Seeking entries numbers id 0
  seek_start = record { inside = omega arith; none_before = λ j h. absurd (omega arith) }

  module _ {i : ℕ} (s : Seeking entries numbers id i) where
    pub seek_on : i < length entries / entry_width → entry_has_id numbers id (get_or (entries_in entries) i no_entry) ≡ false → Seeking entries numbers id (i + 1)
    seek_on h e = record { inside = omega arith; none_before = below_more _ i s.none_before e }

    pub seek_end : length entries / entry_width ≤ i → last_from (entry_has_id numbers id) 0 (entries_in entries) ≡ nothing
    seek_end h = nothing_last (entry_has_id numbers id) no_entry 0 (entries_in entries) (λ j l. s.none_before j (omega (arith, entries_number entries)))

-- ---- The pieces passed

pub record Knowing (text entries numbers : List ℕ) (at : ℕ) : Type 0 where
  pub passed : List Piece
  pub walked : Walked text at passed
  pub all_known : (members : List ℕ) (table : List Special) → read_table entries members numbers ≡ sound table → all_ok (known table) passed ≡ true

pub know_start : (text entries numbers : List ℕ) → Knowing text entries numbers 0
know_start text entries numbers = record { passed = []; walked = walked_start text; all_known = λ members table t. refl }

module _ {text entries numbers : List ℕ} {at : ℕ} (k : Knowing text entries numbers at) where
  pub know_end : comes_at text at ≡ Ok None → KnownIn text entries numbers (Ok tt)
  unfolding known_answer
  know_end e =
      record {
        says =
            λ members table pieces t r.
            let all : read_parts 0 0 (parts text) ≡ reads k.passed = comes k.walked e in
            let whole : read_parts 0 0 (parts text) ≡ reads pieces = template_holds text r in
            let same : pieces ≡ k.passed = cc in
            rw (same, k.all_known members table t);
      }

  pub know_bad : {why : Refusal} → comes_at text at ≡ Err why → KnownIn text entries numbers (Err why)
  know_bad {why} e =
      record {
        says =
            λ members table pieces t r.
            let none : read_parts 0 0 (parts text) ≡ unread why = comes k.walked e in
            let whole : read_parts 0 0 (parts text) ≡ reads pieces = template_holds text r in
            let z : ◌≡◌ {A = ℕ} 0 1 = cc in
            absurd (omega arith);
      }

  module _ {step : PieceStep} (e : comes_at text at ≡ Ok (Some step)) where
    pub know_passing : Passing text at k.passed step
    know_passing = comes k.walked e

    abbrev piece : Piece
    piece = know_passing.piece

    on : ((members : List ℕ) (table : List Special) → read_table entries members numbers ≡ sound table → known table piece ≡ true) → Knowing text entries numbers step.next
    on h =
        record {
          passed = k.passed ++ (piece ∷ []);
          walked = know_passing.walked;
          all_known = λ members table t. all_ok_more (known table) k.passed piece (k.all_known members table t) (h members table t);
        }

    pub know_other : ((start size : ℕ) → step.piece.name ≡ Named start size → ⊥) → Knowing text entries numbers step.next
    know_other other = on (λ members table t. other_known table piece know_passing.is other)

    module _ {place long : ℕ} (is_special : step.piece.name ≡ Named place long) where
      abbrev id : List ℕ
      id = take (place + long - place) (drop place text)

      -- an entry has the id
      pub know_found : {i : ℕ} → i < length entries / entry_width → entry_has_id numbers id (get_or (entries_in entries) i no_entry) ≡ true → Knowing text entries numbers step.next
      unfolding known
      know_found {i} among has =
          on (λ members table t. rw (kind_special piece know_passing.is is_special, (present (table_holds entries members numbers t) id i among has).1))

      -- none has
      pub know_missing : last_from (entry_has_id numbers id) 0 (entries_in entries) ≡ nothing → KnownIn text entries numbers (Err SpecialIdUnknown)
      unfolding known known_answer
      know_missing none =
          record {
            says =
                λ members table pieces t q.
                let unknown : known table piece ≡ false = rw (kind_special piece know_passing.is is_special, missing (table_holds entries members numbers t) id none) in
                let first = walked_first know_passing.walked (template_holds text q) in
                rw (first.1, all_ok_append (known table) (k.passed ++ (piece ∷ [])) first.0, all_ok_append (known table) k.passed (piece ∷ []), unknown, and-false);
          }
