-- Steps on their way: those that are taken, those that are left, and the fold of what was taken, whatever they speak of.
-- Assumes nothing.
use mathlib.Core.Path.{◌≡◌, refl, sym, ap, ◌∙◌, subst}
use mathlib.Core.Bool.{false}
use mathlib.Core.Option.{Option}
use mathlib.Core.List.{List, [], ◌∷◌, ◌++◌, map, append_assoc}
use Prim.Native.Nat.{ℕ, ◌+◌, ◌*◌, ◌≤◌, ◌<◌}
use native.Mathlib.Omega.{arith}
use lib.ListN.{length, length-append}
use Rattle.record.specs.Tree.{Encoding, forest, empty}
use Rattle.lists.specs.Lists.{All}
use Rattle.record.specs.Flat.{node_width}
use Rattle.record.specs.WellFormed.{WellFormed}
use Rattle.record.specs.Standing.{Put}
use Rattle.join_trees.proofs.Sizes.{no_more_fits, join_no_less_right}
use Rattle.record.specs.declared.Spot.{Spot}
use Rattle.template_text.specs.Template.{piece_width}
use Rattle.process_steps.specs.declared.Step.{Step}
use Rattle.process_steps.specs.Steps.{step_at, step_encoding}
use Rattle.process_steps.specs.Promises.{StepsAt, StepFine}
use Rattle.process_steps.proofs.Steps.{step_is, step_inside}
use Rattle.fold_over.proofs.Writing.{put_room, put_room_back}
use Rattle.fold_step.proofs.Folding.{Folding, start_asks, folding_start, folding_lengths, so_far, so_far_here, next_within, next_room, next_working_room, folding_more, folding_end}
use Rattle.process_take.specs.Promises.{AskTake, TakesStep}
use Rattle.process_write.specs.Promises.{Ready, AskWrite, WritesSteps}
use Rattle.process_write.proofs.Encodings.{step_fine}

-- ---- Some encodings of which they speak

-- out, out', working and working' are the four lent lists as the loop finds them, now, now', used and used' as they are.
pub record Along (entries members : List ℕ) (E : Encoding) (second : Option Encoding) (steps : List Step) (out out' working working' now now' used used' : List ℕ) (i : ℕ) : Type 0 where
  pub passed : List Step
  pub left : List Step
  pub split : steps ≡ passed ++ left
  pub place : length passed ≡ i
  pub folding : Folding false (map (step_encoding entries members E second) steps) (map (step_encoding entries members E second) left) out out' working working' now now' used used'

-- The step that is next, where steps are left.
record Next (entries members : List ℕ) (E : Encoding) (second : Option Encoding) (steps : List Step) (out out' working working' now now' used used' : List ℕ) (i : ℕ) : Type 0 where
  passed : List Step
  step : Step
  rest : List Step
  split : steps ≡ passed ++ step ∷ rest
  place : length passed ≡ i
  folding : Folding false (map (step_encoding entries members E second) steps) (step_encoding entries members E second step ∷ map (step_encoding entries members E second) rest) out out' working working' now now' used used'

all_seam : {A : Type 0} (M : A → Type 0) (xs : List A) (y : A) (ys : List A) → All M (xs ++ y ∷ ys) → M y
all_seam M [] y ys (m, ms) = m
all_seam M (x ∷ xs) y ys (m, ms) = all_seam M xs y ys ms

module _ {nodes rows : List ℕ} {s : Spot} {entries members numbers : List ℕ} {count : ℕ} {out out' working working' : List ℕ} {E : Encoding} {second : Option Encoding} {steps : List Step} (ready : Ready nodes rows s entries members numbers count out out' working working' E second steps) where
  module _ {now now' used used' : List ℕ} {i : ℕ} where
    along_next : Along entries members E second steps out out' working working' now now' used used' i → i < count → Next entries members E second steps out out' working working' now now' used used' i
    along_next a l = go a.left a.split a.folding
      where
        go : (left : List Step) → steps ≡ a.passed ++ left → Folding false (map (step_encoding entries members E second) steps) (map (step_encoding entries members E second) left) out out' working working' now now' used used' → Next entries members E second steps out out' working working' now now' used used' i
        go [] e f = absurd (omega (arith, ready.steps_here.counted, ap length e, length-append a.passed [], a.place))
        go (step ∷ rest) e f = record { passed = a.passed; step = step; rest = rest; split = e; place = a.place; folding = f }

    module _ (n : Next entries members E second steps out out' working working' now now' used used' i) where
      numbered : StepsAt numbers (n.passed ++ n.step ∷ n.rest)
      numbered = subst (StepsAt numbers) n.split ready.steps_here.numbered

      -- where it stands, and that it is read there
      next_inside : i * piece_width + piece_width ≤ length numbers
      next_inside = omega (arith, step_inside n.passed n.step n.rest numbered, n.place)

      next_fine : StepFine entries members second n.step
      next_fine = all_seam (StepFine entries members second) n.passed n.step n.rest (subst (All (StepFine entries members second)) n.split ready.steps_here.fine)

      module _ {step : Step} (e : step ≡ step_at numbers (i * piece_width)) where
        next_is : step ≡ n.step
        next_is = e ∙ ap (λ (k : ℕ). step_at numbers (k * piece_width)) (sym n.place) ∙ step_is n.passed n.step n.rest numbered

        next_asks : AskTake nodes rows s entries members step now now' used used'
        next_asks =
            let f = n.folding in
            let ask : AskTake nodes rows s entries members n.step now now' used used' = record { E = E; second = second; inputs = ready.steps_here.inputs; fine = next_fine; S = so_far f; here_s = so_far_here f; within = next_within f; room = next_room f; working_room = next_working_room f } in
            subst (λ (k : Step). AskTake nodes rows s entries members k now now' used used') (sym next_is) ask

        -- it was taken
        along_more : {now₁ now₁' used₁ used₁' : List ℕ} → TakesStep nodes rows s entries members step now now' now₁ now₁' → length used₁ ≡ length used → length used₁' ≡ length used'
            → Along entries members E second steps out out' working working' now₁ now₁' used₁ used₁' (i + 1)
        along_more {now₁} {now₁'} took a b =
            let f = n.folding in
            let P = step_encoding entries members E second n.step in
            let inputs = ready.steps_here.inputs in
            let well : WellFormed (forest (P ∷ [])) = record { fine = step_fine entries members inputs n.step next_fine; fits = no_more_fits (join_no_less_right false (so_far f) P) (next_room f).fits } in
            let put = (subst (λ (k : Step). TakesStep nodes rows s entries members k now now' now₁ now₁') next_is took).joined E second (so_far f) inputs next_fine (so_far_here f) in
            record {
              passed = n.passed ++ n.step ∷ [];
              left = n.rest;
              split = n.split ∙ sym (append_assoc n.passed (n.step ∷ []) n.rest);
              place = omega (arith, length-append n.passed (n.step ∷ []), n.place);
              folding = folding_more f well put a b;
            }

    along_end : Along entries members E second steps out out' working working' now now' used used' i → count ≤ i → Folding false (map (step_encoding entries members E second) steps) [] out out' working working' now now' used used'
    along_end a l = go a.left a.split a.folding
      where
        go : (left : List Step) → steps ≡ a.passed ++ left → Folding false (map (step_encoding entries members E second) steps) (map (step_encoding entries members E second) left) out out' working working' now now' used used' → Folding false (map (step_encoding entries members E second) steps) [] out out' working working' now now' used used'
        go [] e f = f
        go (step ∷ rest) e f = absurd (omega (arith, ready.steps_here.counted, ap length e, length-append a.passed (step ∷ rest), a.place))

-- ---- Whatever they speak of

pub record Going (nodes rows : List ℕ) (s : Spot) (entries members numbers : List ℕ) (count : ℕ) (out out' working working' now now' used used' : List ℕ) (i : ℕ) : Type 0 where
  pub along : (E : Encoding) (second : Option Encoding) (steps : List Step) → Ready nodes rows s entries members numbers count out out' working working' E second steps → Along entries members E second steps out out' working working' now now' used used' i

-- there is room for the empty encoding
pub asks_start : {nodes rows : List ℕ} {s : Spot} {entries members numbers : List ℕ} {count : ℕ} {entry entry' working working' : List ℕ} → AskWrite nodes rows s entries members numbers count entry entry' working working' → node_width ≤ length entry
asks_start {entries = entries} {members = members} a = start_asks false (map (step_encoding entries members a.E a.second) a.steps) a.ready.room

module _ {nodes rows : List ℕ} {s : Spot} {entries members numbers : List ℕ} {count : ℕ} {entry entry' out out' working working' : List ℕ} (p : Put (empty ∷ []) entry 0 entry' 0 out out') where
  -- at first, once the empty encoding is written
  pub going_start : Going nodes rows s entries members numbers count out out' working working' out out' working working' 0
  going_start =
      record {
        along = λ E second steps r. record { passed = []; left = steps; split = refl; place = refl; folding = folding_start false (map (step_encoding entries members E second) steps) (put_room_back p r.room) r.within r.working_room p };
      }

  -- it changes no length, so the fold has the room that it had
  started : {E : Encoding} {second : Option Encoding} {steps : List Step} → Ready nodes rows s entries members numbers count entry entry' working working' E second steps → Ready nodes rows s entries members numbers count out out' working working' E second steps
  started r = record { steps_here = r.steps_here; within = r.within; room = put_room p r.room; working_room = r.working_room }

  module _ {now now' used used' : List ℕ} {i : ℕ} (g : Going nodes rows s entries members numbers count out out' working working' now now' used used' i) where
    -- the steps of which it is known that they are there tell of the place and of the lengths
    module _ (a : AskWrite nodes rows s entries members numbers count entry entry' working working') where
      abbrev ready : Ready nodes rows s entries members numbers count out out' working working' a.E a.second a.steps
      ready = started a.ready

      abbrev along : Along entries members a.E a.second a.steps out out' working working' now now' used used' i
      along = g.along a.E a.second a.steps ready

      pub going_inside : i < count → i * piece_width + piece_width ≤ length numbers
      going_inside l = next_inside ready (along_next ready along l)

      pub going_asks : {step : Step} → i < count → step ≡ step_at numbers (i * piece_width) → AskTake nodes rows s entries members step now now' used used'
      going_asks l e = next_asks ready (along_next ready along l) e

      pub going_lengths : (length now ≡ length out) × (length now' ≡ length out') × (length used ≡ length working) × (length used' ≡ length working')
      going_lengths = let f = along.folding in let l = folding_lengths f in (l.0, l.1, f.used_nodes, f.used_rows)

    -- one more was taken
    pub going_more : {step : Step} {now₁ now₁' used₁ used₁' : List ℕ} → i < count → step ≡ step_at numbers (i * piece_width) → TakesStep nodes rows s entries members step now now' now₁ now₁' → length used₁ ≡ length used → length used₁' ≡ length used'
        → Going nodes rows s entries members numbers count out out' working working' now₁ now₁' used₁ used₁' (i + 1)
    going_more l e took a b = record { along = λ E second steps r. along_more r (along_next r (g.along E second steps r) l) e took a b }

    -- none is left
    pub going_end : count ≤ i → WritesSteps nodes rows s entries members numbers count entry entry' working working' now now'
    going_end l = record { folded = λ E second steps r. let k = started r in folding_end (along_end k (g.along E second steps k) l) p }
