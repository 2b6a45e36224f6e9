-- No refusal but 6 changes a buffer, and neither a template nor a table is refused with 6.
-- Assumes nothing.
use mathlib.Core.Path.{◌≡◌, refl}
use mathlib.Core.Bool.{Bool, true, false, cond}
use mathlib.Core.List.{List, [], ◌∷◌, map}
use Prim.Native.Nat.{ℕ, ◌+◌}
use native.Mathlib.Omega.{arith}
use lib.Dec.{eqb}
use lib.ListN.{length}
use Rattle.record.specs.Read.{all_ok}
use Rattle.record.specs.Refusals.{why_number, number_of}
use Rattle.record.specs.declared.Why.{Why}
use Rattle.record.specs.declared.Why.TheVariants.{MoreThanOneColon, BadTypeNumber, UnknownSequenceName}
use Rattle.record.specs.declared.Refusal.{Refusal}
use Rattle.record.specs.declared.Refusal.TheVariants.{PartUnreadable, TemplateTooLong, IdsAndTextsDiffer, MalformedTable}
use Rattle.template_parts.specs.Parts.{parts}
use Rattle.template_pieces.specs.Piece.{PartReading, unreadable, readable, read_part}
use Rattle.template_text.specs.Template.{TemplateReading, unread, reads, fault_at, follows, short, read_parts, read_template}
use Rattle.template_entries.specs.Table.{Special, faulty, sound, well_made, agrees, entries_in, special_of, members_in, read_table}

why_not_six : (why : Why) → eqb (why_number why) 6 ≡ false
why_not_six MoreThanOneColon = refl
why_not_six BadTypeNumber = refl
why_not_six UnknownSequenceName = refl

parts_not_six : (part place : ℕ) (left : List (List ℕ)) {k : Refusal} → read_parts part place left ≡ unread k → eqb (number_of k) 6 ≡ false
unfolding read_parts
parts_not_six part place [] e = let z : ◌≡◌ {A = ℕ} 0 1 = cc in absurd (omega arith)
parts_not_six part place (text ∷ rest) {k} e = go (read_part place text) (read_parts (part + 1) (place + length text + 1) rest) (λ j q. parts_not_six (part + 1) (place + length text + 1) rest {k = j} q) e
  where
    go : (piece : PartReading) (pieces : TemplateReading) → ((j : Refusal) → pieces ≡ unread j → eqb (number_of j) 6 ≡ false) → follows part place piece pieces ≡ unread k → eqb (number_of k) 6 ≡ false
    go (unreadable why) pieces more e = let same : k ≡ PartUnreadable (fault_at part place why) = cc in rw same (why_not_six why)
    go (readable p) (unread j) more e = let same : j ≡ k = cc in rw (← same) (more j refl)
    go (readable p) (reads ps) more e = let z : ◌≡◌ {A = ℕ} 0 1 = cc in absurd (omega arith)

pub template_not_six : (text : List ℕ) {k : Refusal} → read_template text ≡ unread k → eqb (number_of k) 6 ≡ false
unfolding read_template
template_not_six text {k} e = go (short text) e
  where
    go : (b : Bool) → cond b (read_parts 0 0 (parts text)) (unread TemplateTooLong) ≡ unread k → eqb (number_of k) 6 ≡ false
    go true e = parts_not_six 0 0 (parts text) e
    go false e = let same : k ≡ TemplateTooLong = cc in rw same refl

pub table_not_six : (entries members added : List ℕ) {k : Refusal} → read_table entries members added ≡ faulty k → eqb (number_of k) 6 ≡ false
unfolding read_table
table_not_six entries members added {k} e = go (well_made entries members (length added)) (all_ok agrees (entries_in entries)) (map (special_of (members_in members) added) (entries_in entries)) e
  where
    go : (b c : Bool) (t : List Special) → cond b (cond c (sound t) (faulty IdsAndTextsDiffer)) (faulty MalformedTable) ≡ faulty k → eqb (number_of k) 6 ≡ false
    go true true t e = absurd (let z : ◌≡◌ {A = ℕ} 0 1 = cc in omega arith)
    go true false t e = let same : k ≡ IdsAndTextsDiffer = cc in rw same refl
    go false c t e = let same : k ≡ MalformedTable = cc in rw same refl
