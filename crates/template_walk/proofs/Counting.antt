-- What a template adds: what holds after each part, and the answer at each way out. The sum is that of every table with these
-- entries. Assumes nothing.
use mathlib.Core.Path.{◌≡◌, refl, ap, sym, ◌∙◌}
use mathlib.Core.Bool.{true, false}
use Prim.Native.Nat.{ℕ, ◌+◌, ◌-◌, ◌*◌, ◌≤◌, ◌<◌}
use native.Mathlib.Omega.{arith}
use mathlib.Core.List.{List, [], ◌∷◌, ◌++◌}
use lib.ListN.{length, take, drop, length-append}
use Rattle.record.specs.declared.Refusal.TheVariants.{TemplateTooLong}
use Rattle.lookup_ranges.specs.First.{last_from}
use Rattle.template_pieces.specs.Piece.{Piece, sequence_a, sequence_b, special}
use Rattle.template_pieces.proofs.Lies.{kind_special, PieceIs}
use Rattle.template_text.specs.Template.{most_parts, short}
use Rattle.template_text.proofs.Walked.{Walked, walked_start}
use Rattle.template_text.proofs.Answers.{short_is, template_long, walk_end, walk_bad}
use Rattle.template_entries.specs.Table.{Special, entries_in, sound, read_table}
use Rattle.template_entries.specs.Rows.{members_of}
use Rattle.template_entries.proofs.EntryMembers.{members_many, members_there, members_special}
use Rattle.template_find.specs.Promises.{entry_has_id, entry_answer}
use Rattle.template_find.specs.Last.{last_with}
use Rattle.std.specs.Prelude.{Some, None, Ok, Err}
use Rattle.record.specs.declared.Refusal.{Refusal}
use Rattle.template_pieces.specs.declared.Name.TheVariants.{Special as Named}
use Rattle.template_pieces.specs.declared.Piece.{Piece as PieceRead}
use Rattle.template_entries.proofs.Sound.{table_holds}
use Rattle.template_find.proofs.Found.{unknown_is, found_is, found_among}
use Rattle.template_walk.specs.Counting.{member_count, added, added_by, added_answer}
use Rattle.template_walk.specs.Promises.{CountedIn, IdsOf}
use Rattle.template_text.specs.Comes.{comes_at}
use Rattle.template_text.specs.declared.PieceStep.{PieceStep}
use Rattle.template_text.proofs.Coming.{Passing, comes}

-- ---- The ids of one entry

module _ (entries numbers id : List ℕ) where
  pub ids_unknown : entry_answer (last_from (entry_has_id numbers id) 0 (entries_in entries)) ≡ None → IdsOf entries numbers id 0
  ids_unknown e = record { small = omega arith; says = λ members table t. sym (ap member_count (unknown_is (table_holds entries members numbers t) id e)) }

  pub ids_found : {k count : ℕ} → entry_answer (last_from (entry_has_id numbers id) 0 (entries_in entries)) ≡ Some k → count ≡ (members_of entries k).count → count < 4294967296 → IdsOf entries numbers id count
  ids_found {k} {count} e is small =
      record {
        small = small;
        says =
            λ members table t.
            let h = table_holds entries members numbers t in
            is ∙ sym (ap member_count (found_is h id e) ∙ ap length (members_special h k) ∙ members_many (members_there h k (found_among entries numbers id e)));
      }

-- ---- The sum

-- a piece that is not special adds nothing
module _ {text : List ℕ} {told : PieceRead} where
  pub other_adds : (table : List Special) (p : Piece) → PieceIs text told p → ((start size : ℕ) → told.name ≡ Named start size → ⊥) → added table p ≡ 0
  unfolding added
  other_adds table (sequence_a t) is h = refl
  other_adds table (sequence_b t) is h = refl
  other_adds table (special s id t) is h = absurd (h s (length id) (sym (ap (λ (r : PieceRead). r.name) is.same)))

added_more : (table : List Special) (ps : List Piece) (p : Piece) → added_by table (ps ++ (p ∷ [])) ≡ added_by table ps + added table p
unfolding added_by
added_more table [] p = omega arith
added_more table (q ∷ ps) p = omega (arith, added_more table ps p)

pub record Counting (text entries numbers : List ℕ) (at sum : ℕ) : Type 0 where
  pub passed : List Piece
  pub walked : Walked text at passed
  pub small : sum ≤ length passed * 4294967295
  pub sum_is : (members : List ℕ) (table : List Special) → read_table entries members numbers ≡ sound table → sum ≡ added_by table passed

pub count_start : (text entries numbers : List ℕ) → Counting text entries numbers 0 0
unfolding added_by
count_start text entries numbers = record { passed = []; walked = walked_start text; small = omega arith; sum_is = λ members table t. refl }

pub count_long : (text entries numbers : List ℕ) → short text ≡ false → CountedIn text entries numbers (Err TemplateTooLong)
unfolding added_answer
count_long text entries numbers e = record { says = λ members table t. rw (template_long text e) }

module _ {text entries numbers : List ℕ} {at sum : ℕ} (c : Counting text entries numbers at sum) (s : short text ≡ true) where
  pub count_end : comes_at text at ≡ Ok None → CountedIn text entries numbers (Ok sum)
  unfolding added_answer
  count_end e = record { says = λ members table t. rw (walk_end c.walked s e) (ap Ok (c.sum_is members table t)) }

  pub count_bad : {k : Refusal} → comes_at text at ≡ Err k → CountedIn text entries numbers (Err k)
  unfolding added_answer
  count_bad e = record { says = λ members table t. rw (walk_bad c.walked s e) }

  module _ {step : PieceStep} (e : comes_at text at ≡ Ok (Some step)) where
    pub count_passing : Passing text at c.passed step
    count_passing = comes c.walked e

    abbrev piece : Piece
    piece = count_passing.piece

    pub count_few : length c.passed < most_parts
    count_few = omega (arith, count_passing.few, (short_is text s).1)

    pub count_other : ((start size : ℕ) → step.piece.name ≡ Named start size → ⊥) → Counting text entries numbers step.next sum
    count_other other =
        record {
          passed = c.passed ++ (piece ∷ []);
          walked = count_passing.walked;
          small = omega (arith, c.small, length-append c.passed (piece ∷ []));
          sum_is = λ members table t. omega (arith, c.sum_is members table t, added_more table c.passed piece, other_adds table piece count_passing.is other);
        }

    pub count_special : {place long : ℕ} → step.piece.name ≡ Named place long → {count : ℕ} → IdsOf entries numbers (take (place + long - place) (drop place text)) count → Counting text entries numbers step.next (sum + count)
    unfolding added
    count_special {place} {long} is_special {count} ids =
        record {
          passed = c.passed ++ (piece ∷ []);
          walked = count_passing.walked;
          small = omega (arith, c.small, ids.small, length-append c.passed (piece ∷ []));
          sum_is =
              λ members table t.
              let adds : added table piece ≡ member_count (last_with (take (place + long - place) (drop place text)) table) = ap (added table) (kind_special piece count_passing.is is_special) in
              omega (arith, c.sum_is members table t, added_more table c.passed piece, ids.says members table t);
        }
