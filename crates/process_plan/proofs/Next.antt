-- What comes at a place to the plan, and what that says to a walk over the pieces.
-- Assumes nothing.
use mathlib.Core.Path.{◌≡◌, refl, subst}
use mathlib.Core.Bool.{Bool}
use mathlib.Core.List.{List, [], ◌∷◌, ◌++◌}
use Prim.Native.Nat.{ℕ, ◌+◌, ◌-◌, ◌<◌}
use lib.ListN.{length}
use Rattle.std.specs.Prelude.{Option as Answer, Some, None, Result, Ok, Err}
use Rattle.record.specs.declared.Refusal.{Refusal}
use Rattle.template_parts.specs.Parts.{parts}
use Rattle.template_pieces.specs.Piece.{Piece}
use Rattle.template_text.specs.Template.{unread, reads, read_parts}
use Rattle.template_text.specs.Comes.{Coming, comes_at}
use Rattle.template_text.specs.declared.PieceStep.{PieceStep}
use Rattle.template_text.proofs.Walked.{Walked}
use Rattle.template_text.proofs.Coming.{Passing, comes}
use Rattle.process_steps.specs.declared.Step.{Step}
use Rattle.process_plan.specs.Promises.{step_of, planned_next, coming_step, next_step}
use Rattle.process_plan.specs.declared.NextStep.{NextStep}
use Rattle.process_plan.proofs.Piece.{listed_answer, steps_of, Unknown, Gives, piece_gives}

-- A piece with these steps comes after those passed, and `next` is the place after it.
pub record Passed (entries added : List ℕ) (add : Bool) (text : List ℕ) (at : ℕ) (passed : List Piece) (steps : List Step) (next : ℕ) : Type 0 where
  pub piece : Piece
  pub steps_are : steps_of entries added add piece ≡ steps
  pub walked : Walked text next (passed ++ (piece ∷ []))
  pub less : length text + 1 - next < length text + 1 - at
  pub few : length passed < length (parts text)

-- A special piece comes whose id is unknown, though it is needed.
pub record NoStep (entries added : List ℕ) (add : Bool) (text : List ℕ) (passed : List Piece) : Type 0 where
  pub piece : Piece
  pub unknown : Unknown entries added add piece
  pub next : ℕ
  pub walked : Walked text next (passed ++ (piece ∷ []))

-- the part there cannot be read, or the piece is such a one
pub data Refused (entries added : List ℕ) (add : Bool) (text : List ℕ) (passed : List Piece) : Type 0 where
  unreadable : {why : Refusal} → read_parts 0 0 (parts text) ≡ unread why → Refused entries added add text passed
  no_step : NoStep entries added add text passed → Refused entries added add text passed

abbrev pub Says : List ℕ → List ℕ → Bool → List ℕ → ℕ → List Piece → Result (Answer NextStep) Refusal → Type 0
Says entries added add text at passed (Err why) = Refused entries added add text passed
Says entries added add text at passed (Ok None) = read_parts 0 0 (parts text) ≡ reads passed
Says entries added add text at passed (Ok (Some coming)) = Passed entries added add text at passed (listed_answer coming.step) coming.next

module _ (entries added : List ℕ) (add : Bool) {text : List ℕ} {at : ℕ} {passed : List Piece} where
  says_piece : {step : PieceStep} (p : Passing text at passed step) (r : Result (Answer Step) Refusal) → Gives entries added add p.piece r → Says entries added add text at passed (planned_next step.next r)
  says_piece {step} p (Err why) u = no_step (record { piece = p.piece; unknown = u; next = step.next; walked = p.walked })
  says_piece p (Ok None) e = record { piece = p.piece; steps_are = e; walked = p.walked; less = p.less; few = p.few }
  says_piece p (Ok (Some s)) e = record { piece = p.piece; steps_are = e; walked = p.walked; less = p.less; few = p.few }

  pub next_says : Walked text at passed → {r : Result (Answer NextStep) Refusal} → next_step entries added add text at ≡ r → Says entries added add text at passed r
  unfolding next_step
  next_says w e = subst (Says entries added add text at passed) e (go (comes_at text at) refl)
    where
      go : (c : Coming) → comes_at text at ≡ c → Says entries added add text at passed (coming_step entries added add text c)
      go (Err why) e = unreadable (comes w e)
      go (Ok None) e = comes w e
      go (Ok (Some step)) e = let p = comes w e in says_piece p (step_of entries added add text step.piece) (piece_gives entries added add p.piece p.is)

  -- a piece, by its step if it has one
  pub says_step : Walked text at passed → {coming : NextStep} {step : Answer Step} → next_step entries added add text at ≡ Ok (Some coming) → coming.step ≡ step → Passed entries added add text at passed (listed_answer step) coming.next
  says_step w {coming} e is = subst (λ (o : Answer Step). Passed entries added add text at passed (listed_answer o) coming.next) is (next_says w e)
