-- What becomes of a template: each refusal, in document 01's order, and what is left to be done.
-- Assumes nothing.
use mathlib.Core.Path.{◌≡◌, refl, sym, ap, ap₂, ◌∙◌}
use mathlib.Core.Bool.{Bool, true, false, not, ◌&&◌, cond}
use mathlib.Core.Option.{Option, none as nothing, some}
use mathlib.Core.List.{List, flat_map}
use Prim.Native.Nat.{ℕ}
use native.Mathlib.Omega.{arith}
use lib.Dec.{eqb, ltb}
use lib.ListN.{length}
use Rattle.record.specs.Tree.{Encoding}
use Rattle.record.specs.Read.{Reading as Batch, read, is_one_or_two, all_ok}
use Rattle.record.specs.Standing.{OneOrTwo}
use Rattle.record.specs.Refusals.{number_of}
use Rattle.record.specs.Outcome.{Outcome, refused}
use Rattle.record.specs.declared.Refusal.{Refusal}
use Rattle.record.specs.declared.Spot.{Spot}
use Rattle.record.specs.declared.Refusal.TheVariants.{MalformedRecord, SpecialIdUnknown, BWithoutSecond}
use Rattle.record.proofs.OneOrTwo.{one_or_two_of, not_one_or_two}
use Rattle.template_pieces.specs.Piece.{Piece}
use Rattle.template_text.specs.Template.{TemplateReading, unread, reads, read_template}
use Rattle.template_entries.specs.Table.{Special, Table, faulty, sound, read_table}
use Rattle.template_text.specs.declared.Which.{Which}
use Rattle.template_text.specs.declared.Which.TheVariants.{Single, Pair}
use Rattle.template_text.specs.Used.{text_used}
use Rattle.std.specs.Prelude.{Result, Ok, Err}
use Rattle.template_walk.specs.Sequences.{is_b, some_ok}
use Rattle.template_known.specs.Known.{known, known_answer}
use Rattle.process_steps.specs.Applied.{applied, folded_into}
use Rattle.process_steps.specs.Promises.{Inputs}
use Rattle.process_plan.specs.Promises.{Plans}
use Rattle.process_check.specs.Process.{which_for, text_for, apply_into, with_table, process_read}
use Rattle.process_template.specs.Promises.{ChecksTemplate, usability}
use Rattle.process_check.specs.Promises.{RefusedBy, TakenBy, Usable}
use Rattle.process_template.proofs.Inputs.{has_second, second_told, lacks_told}
use Rattle.process_check.proofs.NotSix.{template_not_six}

-- ---- The test of the template, and what it says of the outcome

-- by its three questions: is a second encoding lacking, are special tokens added, are their ids known
abbrev tested : Bool → Bool → Bool → Result (Unit {0}) Refusal
tested lacking add ids = cond lacking (Err BWithoutSecond) (cond add (known_answer ids) (Ok tt))

abbrev becomes : Bool → Bool → Bool → Outcome → Outcome
becomes lacking add ids rest = cond lacking (refused BWithoutSecond) (cond (add && not ids) (refused SpecialIdUnknown) rest)

fails : (lacking add ids : Bool) (rest : Outcome) {k : Refusal} → tested lacking add ids ≡ Err k → (becomes lacking add ids rest ≡ refused k) × (eqb (number_of k) 6 ≡ false)
unfolding known_answer
fails true add ids rest {k} e = let same : k ≡ BWithoutSecond = cc in rw same (refl, refl)
fails false true true rest e = absurd (let z : ◌≡◌ {A = ℕ} 0 1 = cc in omega arith)
fails false true false rest {k} e = let same : k ≡ SpecialIdUnknown = cc in rw same (refl, refl)
fails false false ids rest e = absurd (let z : ◌≡◌ {A = ℕ} 0 1 = cc in omega arith)

passes : (lacking add ids : Bool) (rest : Outcome) → tested lacking add ids ≡ Ok tt → (lacking ≡ false) × (add ≡ true → ids ≡ true) × (becomes lacking add ids rest ≡ rest)
unfolding known_answer
passes true add ids rest e = absurd (let z : ◌≡◌ {A = ℕ} 0 1 = cc in omega arith)
passes false true true rest e = (refl, λ _. refl, refl)
passes false true false rest e = absurd (let z : ◌≡◌ {A = ℕ} 0 1 = cc in omega arith)
passes false false ids rest e = (refl, λ z. absurd (let z : ◌≡◌ {A = ℕ} 0 1 = cc in omega arith), refl)

-- what the test says of the table and the encodings, whose second is told by its place
pub tested_so : (members : List ℕ) {nodes rows entries added text : List ℕ} {s : Spot} {E : Encoding} {second : Option Encoding} {add : Bool} {table : List Special} {answer checked : Result (Unit {0}) Refusal} → Inputs nodes rows s E second → read_table entries members added ≡ sound table → ChecksTemplate text (ltb s.node (length nodes)) add entries added checked → checked ≡ answer → usability table (has_second second) add (read_template text) ≡ answer
tested_so members {text = text} {second = second} {add = add} {table = table} inputs is checks e = ap (λ (b : Bool). usability table b add (read_template text)) (sym (second_told second inputs)) ∙ sym (checks.says _ table is) ∙ e

module _ (E : Encoding) (second : Option Encoding) (table : List Special) (add : Bool) where
  abbrev pub outcome : TemplateReading → List ℕ → List ℕ → List ℕ → List ℕ → Outcome
  outcome r a b c d = with_table (sound table) r (λ specials pieces. apply_into specials add E second pieces a b c d)

  abbrev folded : List Piece → List ℕ → List ℕ → List ℕ → List ℕ → Outcome
  folded pieces a b c d = folded_into (flat_map (applied table add E second) pieces) a b c d

  -- a template that fails is refused
  pub unusable : (text : List ℕ) {k : Refusal} → usability table (has_second second) add (read_template text) ≡ Err k → RefusedBy (outcome (read_template text)) k
  unfolding usability with_table apply_into
  unusable text {k} e = go (read_template text) refl e
    where
      go : (r : TemplateReading) → read_template text ≡ r → usability table (has_second second) add r ≡ Err k → RefusedBy (outcome r) k
      go (unread j) t e = let same : j ≡ k = cc in record { told = λ a b c d. ap refused same; not_six = template_not_six text (t ∙ ap unread same) }
      go (reads pieces) t e =
          record {
            told = λ a b c d. rw (lacks_told second pieces) (fails (not (has_second second) && some_ok is_b pieces) add (all_ok (known table) pieces) (folded pieces a b c d) e).0;
            not_six = (fails (not (has_second second) && some_ok is_b pieces) add (all_ok (known table) pieces) (refused k) e).1;
          }

  -- one that passes can be used, and its pieces are folded
  pub usable : (text : List ℕ) → usability table (has_second second) add (read_template text) ≡ Ok tt → (pieces : List Piece) × Usable text add second table pieces × ((a b c d : List ℕ) → outcome (read_template text) a b c d ≡ folded pieces a b c d)
  unfolding usability with_table apply_into
  usable text e = go (read_template text) refl e
    where
      go : (r : TemplateReading) → read_template text ≡ r → usability table (has_second second) add r ≡ Ok tt → (pieces : List Piece) × Usable text add second table pieces × ((a b c d : List ℕ) → outcome r a b c d ≡ folded pieces a b c d)
      go (unread j) t e = absurd (let z : ◌≡◌ {A = ℕ} 0 1 = cc in omega arith)
      go (reads pieces) t e =
          let (l, i, _) = passes (not (has_second second) && some_ok is_b pieces) add (all_ok (known table) pieces) (refused BWithoutSecond) e in
          (pieces, record { reads = t; has_second = lacks_told second pieces ∙ l; all_known = i }, λ a b c d. rw (lacks_told second pieces) (passes (not (has_second second) && some_ok is_b pieces) add (all_ok (known table) pieces) (folded pieces a b c d) e).2)

  -- and has steps
  pub has_steps : (text entries members added : List ℕ) {numbers : List ℕ} {answer : Result ℕ Refusal} {k : Refusal} {A : Type 0} → usability table (has_second second) add (read_template text) ≡ Ok tt → read_table entries members added ≡ sound table → Plans text add entries added answer numbers → answer ≡ Err k → A
  has_steps text entries members added u is plans none =
      let (pieces, w, _) = usable text u in
      let p = plans members table pieces is w.reads w.all_known in
      absurd (let z : ◌≡◌ {A = ℕ} 0 1 = cc (p.answers, none) in omega arith)

-- ---- The process as a whole, decided

-- the text of the template that is used, as it is chosen
pub text_told : (single_set : Bool) (single : List ℕ) (pair_set : Bool) (pair : List ℕ) (second : Option Encoding) {b : Bool} {text : List ℕ} → text ≡ cond b (text_used pair_set pair Pair) (text_used single_set single Single) → b ≡ has_second second → read_template (text_for single_set single pair_set pair (which_for second)) ≡ read_template text
text_told single_set single pair_set pair nothing t b = sym (ap read_template (rw b at t))
text_told single_set single pair_set pair (some F) t b = sym (ap read_template (rw b at t))

module _ (t : Table) (template : Which → TemplateReading) (add : Bool) where
  pub decide_malformed : (batch : Batch) → is_one_or_two batch ≡ false → RefusedBy (process_read batch t template add) MalformedRecord
  unfolding process_read
  decide_malformed batch e = record { told = λ a b c d. not_one_or_two (refused MalformedRecord) _ batch e; not_six = refl }

  module _ {nodes rows : List ℕ} {E : Encoding} (second : Option Encoding) (h : OneOrTwo nodes rows E second) where
    abbrev after : List ℕ → List ℕ → List ℕ → List ℕ → Encoding → Option Encoding → Table → TemplateReading → Outcome
    after a b c d E second t r = with_table t r (λ specials pieces. apply_into specials add E second pieces a b c d)

    process_of : (a b c d : List ℕ) → process_read (read nodes rows) t template add a b c d ≡ after a b c d E second t (template (which_for second))
    unfolding process_read
    process_of a b c d = one_or_two_of (refused MalformedRecord) (λ E second. after a b c d E second t (template (which_for second))) h

    pub decide_faulty : {k : Refusal} → t ≡ faulty k → eqb (number_of k) 6 ≡ false → RefusedBy (process_read (read nodes rows) t template add) k
    unfolding with_table
    decide_faulty e six = record { told = λ a b c d. process_of a b c d ∙ ap (λ (t : Table). after a b c d E second t (template (which_for second))) e; not_six = six }

    module _ {table : List Special} (text : List ℕ) (e : t ≡ sound table) (r : template (which_for second) ≡ read_template text) where
      comes_to : (a b c d : List ℕ) → process_read (read nodes rows) t template add a b c d ≡ outcome E second table add (read_template text) a b c d
      comes_to a b c d = process_of a b c d ∙ ap₂ (after a b c d E second) e r

      pub decide_unusable : {k : Refusal} → usability table (has_second second) add (read_template text) ≡ Err k → RefusedBy (process_read (read nodes rows) t template add) k
      decide_unusable u = let f = unusable E second table add text u in record { told = λ a b c d. comes_to a b c d ∙ f.told a b c d; not_six = f.not_six }

      module _ (u : usability table (has_second second) add (read_template text) ≡ Ok tt) (entries members added : List ℕ) {numbers : List ℕ} {answer : Result ℕ Refusal} (is : read_table entries members added ≡ sound table) (plans : Plans text add entries added answer numbers) where
        -- the steps fold to what the pieces become
        pub decide_take : {s : Spot} {count : ℕ} → Inputs nodes rows s E second → answer ≡ Ok count → TakenBy (process_read (read nodes rows) t template add) nodes rows entries members numbers s count
        decide_take {s} {count} inputs so =
            let (pieces, w, o) = usable E second table add text u in
            let p = plans members table pieces is w.reads w.all_known in
            let e : length p.planned ≡ count = cc (p.answers, so) in
            record {
              E = E;
              second = second;
              steps = p.planned;
              steps_here = record { inputs = inputs; numbered = p.numbers; counted = e; few = omega (arith, p.few); fine = p.fine second w.has_second };
              folded = λ a b c d. comes_to a b c d ∙ o a b c d ∙ ap (λ (l : List Encoding). folded_into l a b c d) (sym (p.made E second w.has_second));
            }
