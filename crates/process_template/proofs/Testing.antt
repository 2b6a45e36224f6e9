-- The test of a template, question by question.
-- Assumes nothing.
use mathlib.Core.Path.{◌≡◌, refl, ap}
use mathlib.Core.Bool.{Bool, true, false, not, ◌&&◌}
use mathlib.Core.List.{List}
use Rattle.std.specs.Prelude.{Result, Ok, Err}
use Rattle.record.specs.Read.{all_ok}
use Rattle.record.specs.declared.Refusal.{Refusal}
use Rattle.record.specs.declared.Refusal.TheVariants.{BWithoutSecond}
use Rattle.template_pieces.specs.Piece.{Piece}
use Rattle.template_text.specs.Template.{TemplateReading, unread, reads}
use Rattle.template_entries.specs.Table.{Special}
use Rattle.template_walk.specs.declared.Named.{Named}
use Rattle.template_known.specs.Known.{known, known_answer}
use Rattle.template_walk.specs.Sequences.{is_b, some_ok, sequences_answer}
use Rattle.process_template.specs.Promises.{usability}

abbrev b_of : Result Named Refusal → Bool
b_of (Ok named) = named.b
b_of (Err why) = false

module _ (table : List Special) (second add : Bool) where
  -- it cannot be read
  pub check_unread : (r : TemplateReading) {why : Refusal} → sequences_answer r ≡ Err why → Err why ≡ usability table second add r
  unfolding sequences_answer usability
  check_unread (unread k) e = cc
  check_unread (reads pieces) e = cc

  module _ (r : TemplateReading) {named : Named} (n : sequences_answer r ≡ Ok named) where
    -- it names a second encoding that is not there
    pub check_lacking : (not second && named.b) ≡ true → Err BWithoutSecond ≡ usability table second add r
    unfolding sequences_answer usability
    check_lacking l = go r n
      where
        go : (r : TemplateReading) → sequences_answer r ≡ Ok named → Err BWithoutSecond ≡ usability table second add r
        go (unread k) e = cc
        go (reads pieces) e = let is : some_ok is_b pieces ≡ named.b = ap b_of e in rw (is, l) refl

    module _ (l : (not second && named.b) ≡ false) where
      -- no special tokens are added
      pub check_unadded : add ≡ false → Ok tt ≡ usability table second add r
      unfolding sequences_answer usability
      check_unadded f = go r n
        where
          go : (r : TemplateReading) → sequences_answer r ≡ Ok named → Ok tt ≡ usability table second add r
          go (unread k) e = cc
          go (reads pieces) e = let is : some_ok is_b pieces ≡ named.b = ap b_of e in rw (is, l, f) refl

      -- its ids decide
      pub check_known : {answer : Result (Unit {0}) Refusal} → add ≡ true → ((pieces : List Piece) → r ≡ reads pieces → answer ≡ known_answer (all_ok (known table) pieces)) → answer ≡ usability table second add r
      unfolding sequences_answer usability
      check_known {answer} f says = go r n says
        where
          go : (r : TemplateReading) → sequences_answer r ≡ Ok named → ((pieces : List Piece) → r ≡ reads pieces → answer ≡ known_answer (all_ok (known table) pieces)) → answer ≡ usability table second add r
          go (unread k) e says = cc
          go (reads pieces) e says = let is : some_ok is_b pieces ≡ named.b = ap b_of e in rw (is, l, f) (says pieces refl)
