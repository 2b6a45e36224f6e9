-- Which sequences a template names: what holds after each part, and the answer at each way out. Assumes nothing.
use mathlib.Core.Path.{◌≡◌, refl, ap₂, sym, ◌∙◌, ap}
use mathlib.Core.Bool.{Bool, true, false, ◌||◌, or-false, or_assoc}
use Prim.Native.Nat.{ℕ}
use mathlib.Core.List.{List, [], ◌∷◌, ◌++◌}
use lib.ListN.{length}
use Rattle.record.specs.declared.Refusal.TheVariants.{TemplateTooLong}
use Rattle.template_pieces.specs.Piece.{Piece, sequence_a, sequence_b, special}
use Rattle.template_pieces.proofs.Lies.{PieceIs}
use Rattle.template_text.specs.Template.{short, read_template}
use Rattle.template_text.proofs.Walked.{Walked, walked_start}
use Rattle.template_text.proofs.Answers.{template_long, walk_end, walk_bad}
use Rattle.template_walk.specs.Sequences.{is_a, is_b, some_ok, sequences_answer}
use Rattle.std.specs.Prelude.{Some, None, Result, Ok, Err}
use Rattle.record.specs.declared.Refusal.{Refusal}
use Rattle.template_pieces.specs.declared.Name.TheVariants.{A, B, Special}
use Rattle.template_pieces.specs.declared.Piece.{Piece as PieceRead}
use Rattle.template_walk.specs.declared.Named.{Named}
use Rattle.template_text.specs.Comes.{comes_at}
use Rattle.template_text.specs.declared.PieceStep.{PieceStep}
use Rattle.template_text.proofs.Coming.{Passing, comes}

-- what a piece is told to name
module _ {text : List ℕ} {told : PieceRead} where
  told_a : (p : Piece) → PieceIs text told p → told.name ≡ A → (is_a p ≡ true) × (is_b p ≡ false)
  told_a (sequence_a t) is e = (refl, refl)
  told_a (sequence_b t) is e = let names : B ≡ A = ap (λ (r : PieceRead). r.name) is.same ∙ e in cc
  told_a (special s id t) is e = let names : Special s (length id) ≡ A = ap (λ (r : PieceRead). r.name) is.same ∙ e in cc

  told_b : (p : Piece) → PieceIs text told p → told.name ≡ B → (is_a p ≡ false) × (is_b p ≡ true)
  told_b (sequence_a t) is e = let names : A ≡ B = ap (λ (r : PieceRead). r.name) is.same ∙ e in cc
  told_b (sequence_b t) is e = (refl, refl)
  told_b (special s id t) is e = let names : Special s (length id) ≡ B = ap (λ (r : PieceRead). r.name) is.same ∙ e in cc

  told_special : (p : Piece) → PieceIs text told p → {start size : ℕ} → told.name ≡ Special start size → (is_a p ≡ false) × (is_b p ≡ false)
  told_special (sequence_a t) is {start} {size} e = let names : A ≡ Special start size = ap (λ (r : PieceRead). r.name) is.same ∙ e in cc
  told_special (sequence_b t) is {start} {size} e = let names : B ≡ Special start size = ap (λ (r : PieceRead). r.name) is.same ∙ e in cc
  told_special (special s id t) is e = (refl, refl)

seen : (before : Bool) → true ≡ (before || true)
seen true = refl
seen false = refl

some_more : (t : Piece → Bool) (ps : List Piece) (p : Piece) → some_ok t (ps ++ (p ∷ [])) ≡ (some_ok t ps || t p)
some_more t [] p = or-false (t p)
some_more t (q ∷ ps) p = rw (some_more t ps p) (sym (or_assoc (t q) (some_ok t ps) (t p)))

pub record Naming (text : List ℕ) (at : ℕ) (a b : Bool) : Type 0 where
  pub passed : List Piece
  pub walked : Walked text at passed
  pub a_is : a ≡ some_ok is_a passed
  pub b_is : b ≡ some_ok is_b passed

abbrev answered : Bool → Bool → Result Named Refusal
answered x y = Ok (record { a = x; b = y })

pub name_start : (text : List ℕ) → Naming text 0 false false
name_start text = record { passed = []; walked = walked_start text; a_is = refl; b_is = refl }

pub name_long : (text : List ℕ) → short text ≡ false → Err TemplateTooLong ≡ sequences_answer (read_template text)
unfolding sequences_answer
name_long text e = rw (template_long text e)

module _ {text : List ℕ} {at : ℕ} {a b : Bool} (n : Naming text at a b) where
  pub name_end : short text ≡ true → comes_at text at ≡ Ok None → Ok (record { a = a; b = b }) ≡ sequences_answer (read_template text)
  unfolding sequences_answer
  name_end s e = rw (walk_end n.walked s e) (ap₂ (λ (x y : Bool). answered x y) n.a_is n.b_is)

  pub name_bad : {k : Refusal} → short text ≡ true → comes_at text at ≡ Err k → Err k ≡ sequences_answer (read_template text)
  unfolding sequences_answer
  name_bad s e = rw (walk_bad n.walked s e)

  module _ {step : PieceStep} (e : comes_at text at ≡ Ok (Some step)) where
    passing : Passing text at n.passed step
    passing = comes n.walked e

    on : {a' b' : Bool} → a' ≡ (a || is_a passing.piece) → b' ≡ (b || is_b passing.piece) → Naming text step.next a' b'
    on ea eb =
        record {
          passed = n.passed ++ (passing.piece ∷ []);
          walked = passing.walked;
          a_is = ea ∙ ap (λ (x : Bool). x || is_a passing.piece) n.a_is ∙ sym (some_more is_a n.passed passing.piece);
          b_is = eb ∙ ap (λ (x : Bool). x || is_b passing.piece) n.b_is ∙ sym (some_more is_b n.passed passing.piece);
        }

    pub name_a : step.piece.name ≡ A → Naming text step.next true b
    name_a is = let told = told_a passing.piece passing.is is in on (seen a ∙ ap (◌||◌ a) (sym told.0)) (sym (or-false b) ∙ ap (◌||◌ b) (sym told.1))

    pub name_b : step.piece.name ≡ B → Naming text step.next a true
    name_b is = let told = told_b passing.piece passing.is is in on (sym (or-false a) ∙ ap (◌||◌ a) (sym told.0)) (seen b ∙ ap (◌||◌ b) (sym told.1))

    pub name_neither : {start size : ℕ} → step.piece.name ≡ Special start size → Naming text step.next a b
    name_neither is = let told = told_special passing.piece passing.is is in on (sym (or-false a) ∙ ap (◌||◌ a) (sym told.0)) (sym (or-false b) ∙ ap (◌||◌ b) (sym told.1))
