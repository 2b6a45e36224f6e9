-- The answer of the whole, by the answers of its parts. Assumes nothing.
use mathlib.Core.Path.{◌≡◌, refl, ap, sym, ◌∙◌, subst}
use mathlib.Core.Bool.{Bool, true, false, not, ◌&&◌, and-false}
use Prim.Native.Nat.{ℕ}
use mathlib.Core.List.{List}
use Rattle.record.specs.Refusals.{fault_of, fault_answer}
use Rattle.record.specs.declared.Fault.{Fault}
use Rattle.record.specs.declared.Refusal.{Refusal}
use Rattle.record.specs.declared.Refusal.TheVariants.{PairLacksAOrB}
use Rattle.record.proofs.Faults.{fault_none, fault_some}
use Rattle.template_text.specs.Template.{TemplateReading, unread, reads, read_template}
use Rattle.template_pieces.specs.Piece.{Piece}
use Rattle.template_entries.specs.Table.{Table, faulty, sound, read_table}
use Rattle.template_find.specs.Promises.{IdsInside}
use Rattle.template_table.specs.Check.{table_answer}
use Rattle.template_entries.proofs.Sound.{table_holds}
use Rattle.template_table.proofs.Table.{answer_sound}
use Rattle.template_find.proofs.Found.{ids_inside}
use Rattle.template_text.specs.Used.{text_used}
use Rattle.template_validate.specs.Validation.{at_fault, refused_in, of_validity, validity}
use Rattle.template_walk.specs.Counting.{added_answer}
use Rattle.template_walk.specs.Sequences.{is_a, is_b, some_ok, sequences_answer}
use Rattle.template_walk.specs.Promises.{CountedIn}
use Rattle.template_known.specs.Promises.{KnownBoth}
use Rattle.template_text.specs.declared.Which.{Which}
use Rattle.template_text.specs.declared.Which.TheVariants.{Single, Pair}
use Rattle.std.specs.Prelude.{Some, None, Result, Ok, Err}
use Rattle.template_validate.specs.declared.Invalid.TheVariants.{Refused, Unreadable}
use Rattle.template_walk.specs.declared.Named.{Named}

-- of the same texts
pub known_used : {single single' pair pair' : List ℕ} (entries added : List ℕ) {answer : Result (Unit {0}) Refusal} → single' ≡ single → pair' ≡ pair → KnownBoth single' pair' entries added answer → KnownBoth single pair entries added answer
known_used {single} {single'} {pair} {pair'} entries added {answer} es ep k = subst (λ (p : List ℕ). KnownBoth single p entries added answer) ep (subst (λ (s : List ℕ). KnownBoth s pair' entries added answer) es k)

-- ---- The table

pub sound_inside : (entries members added : List ℕ) → table_answer (read_table entries members added) ≡ Ok tt → IdsInside entries added
sound_inside entries members added e = ids_inside (table_holds entries members added (answer_sound (read_table entries members added) e).1)

pub decide_table : (t : Table) (s p : TemplateReading) {why : Refusal} → table_answer t ≡ Err why → Err (Refused why) ≡ validity t s p
unfolding table_answer validity
decide_table (faulty k) s p e = cc
decide_table (sound table) s p e = cc

-- ---- The templates

module _ (which : Which) (k : Refusal) where
  pub refused_other : fault_answer (fault_of k) ≡ None → Refused k ≡ refused_in which k
  unfolding refused_in
  refused_other e = ap (at_fault which k) (sym (fault_none (fault_of k) e))

  pub refused_part : {fault : Fault} → fault_answer (fault_of k) ≡ Some fault → Unreadable which fault ≡ refused_in which k
  unfolding refused_in
  refused_part e = ap (at_fault which k) (sym (fault_some (fault_of k) e))

pub decide_single : (t : Table) (s p : TemplateReading) {why : Refusal} → table_answer t ≡ Ok tt → sequences_answer s ≡ Err why → Err (refused_in Single why) ≡ validity t s p
unfolding table_answer sequences_answer validity
decide_single (faulty k) s p {why} a e = cc
decide_single (sound table) (unread k) p {why} a e = let same : why ≡ k = cc in ap (λ (w : Refusal). Err (refused_in Single w)) same
decide_single (sound table) (reads ps) p {why} a e = cc

pub decide_pair : (t : Table) (s p : TemplateReading) {n : Named} {why : Refusal} → table_answer t ≡ Ok tt → sequences_answer s ≡ Ok n → sequences_answer p ≡ Err why → Err (refused_in Pair why) ≡ validity t s p
unfolding table_answer sequences_answer validity
decide_pair (faulty k) s p h n e = cc
decide_pair (sound table) (unread k) p h n e = cc
decide_pair (sound table) (reads ps) (unread k) {n} {why} h m e = let same : why ≡ k = cc in ap (λ (w : Refusal). Err (refused_in Pair w)) same
decide_pair (sound table) (reads ps) (reads qs) h n e = cc

-- what a test of a negation says
not_true : (x : Bool) → not x ≡ true → x ≡ false
not_true true e = sym e
not_true false e = refl

not_false : (x : Bool) → not x ≡ false → x ≡ true
not_false true e = refl
not_false false e = sym e

-- what the answer says of the pieces
names_of : (ps : List Piece) {n : Named} → sequences_answer (reads ps) ≡ Ok n → (some_ok is_a ps ≡ n.a) × (some_ok is_b ps ≡ n.b)
unfolding sequences_answer
names_of ps {n} e =
    let same : ◌≡◌ {A = Named} (record { a = some_ok is_a ps; b = some_ok is_b ps }) n = cc in
    (ap (λ (x : Named). x.a) same, ap (λ (x : Named). x.b) same)

-- the pair lacks A, or B
decide_lacks : (t : Table) (s p : TemplateReading) {n m : Named} → table_answer t ≡ Ok tt → sequences_answer s ≡ Ok n → sequences_answer p ≡ Ok m → (m.a && m.b) ≡ false → Err (Refused PairLacksAOrB) ≡ validity t s p
unfolding table_answer sequences_answer validity
decide_lacks (faulty k) s p h n e l = cc
decide_lacks (sound table) (unread k) p h n e l = cc
decide_lacks (sound table) (reads ps) (unread k) h n e l = cc
decide_lacks (sound table) (reads ps) (reads qs) h n e l =
    let has = names_of qs e in
    rw (has.0, has.1, l)

module _ (t : Table) (s p : TemplateReading) {n m : Named} (h : table_answer t ≡ Ok tt) (a : sequences_answer s ≡ Ok n) (e : sequences_answer p ≡ Ok m) where
  pub decide_lacks_a : not m.a ≡ true → Err (Refused PairLacksAOrB) ≡ validity t s p
  decide_lacks_a l = decide_lacks t s p h a e (ap (λ (x : Bool). x && m.b) (not_true m.a l))

  pub decide_lacks_b : not m.b ≡ true → Err (Refused PairLacksAOrB) ≡ validity t s p
  decide_lacks_b l = decide_lacks t s p h a e (ap (λ (x : Bool). m.a && x) (not_true m.b l) ∙ and-false m.a)

pub decide_known : (entries members added single pair : List ℕ) {n m : Named} {answer : Result (Unit {0}) Refusal} → table_answer (read_table entries members added) ≡ Ok tt → sequences_answer (read_template single) ≡ Ok n
    → sequences_answer (read_template pair) ≡ Ok m → not m.a ≡ false → not m.b ≡ false → KnownBoth single pair entries added answer → of_validity answer ≡ validity (read_table entries members added) (read_template single) (read_template pair)
unfolding table_answer sequences_answer validity
decide_known entries members added single pair {n} {m} {answer} h a e has_a has_b k = go (read_table entries members added) (read_template single) (read_template pair) refl refl refl h a e
  where
    go : (t : Table) (s p : TemplateReading) → read_table entries members added ≡ t → read_template single ≡ s → read_template pair ≡ p → table_answer t ≡ Ok tt → sequences_answer s ≡ Ok n → sequences_answer p ≡ Ok m → of_validity answer ≡ validity t s p
    go (faulty k) s p et es ep h a e = cc
    go (sound table) (unread k) p et es ep h a e = cc
    go (sound table) (reads ps) (unread k) et es ep h a e = cc
    go (sound table) (reads ps) (reads qs) et es ep h a e =
        let has = names_of qs e in
        rw (has.0, has.1, not_false m.a has_a, not_false m.b has_b) (ap of_validity (k.says members table ps qs et es ep))

-- ---- The count

pub count_table : (t : Table) (r : TemplateReading) {why : Refusal} → table_answer t ≡ Err why → Err why ≡ added_answer t r
unfolding table_answer added_answer
count_table (faulty k) r e = cc
count_table (sound table) r e = cc

count_all : (entries members added text : List ℕ) {answer : Result ℕ Refusal} → table_answer (read_table entries members added) ≡ Ok tt → CountedIn text entries added answer → answer ≡ added_answer (read_table entries members added) (read_template text)
count_all entries members added text h c =
    let t = answer_sound (read_table entries members added) h in
    c.says members t.0 t.1 ∙ ap (λ (x : Table). added_answer x (read_template text)) (sym t.1)

-- the text that is counted is the one used
pub count_used : (entries members added : List ℕ) (set : Bool) (text : List ℕ) {which which' : Which} {used : List ℕ} {answer : Result ℕ Refusal} → table_answer (read_table entries members added) ≡ Ok tt → used ≡ text_used set text which' → which ≡ which'
    → CountedIn used entries added answer → answer ≡ added_answer (read_table entries members added) (read_template (text_used set text which))
count_used entries members added set text {which} {which'} {used} h e w c = count_all entries members added used h c ∙ rw (e, w)
