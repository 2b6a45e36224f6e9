-- The steps of a template as they are written: what holds after each part, and at each way out.
-- Assumes nothing.
use mathlib.Core.Path.{◌≡◌, refl, ap, sym, ◌∙◌}
use mathlib.Core.Bool.{Bool, true, false, ◌&&◌}
use mathlib.Core.Option.{none as nothing}
use mathlib.Core.List.{List, [], ◌∷◌, ◌++◌, flat_map, append_assoc, append-nil}
use Prim.Native.Nat.{ℕ, ◌+◌, ◌*◌, ◌≤◌, ◌<◌}
use native.Mathlib.Omega.{arith}
use lib.ListN.{length, drop, length-append}
use lib.Seq.{sets, length-sets}
use Rattle.record.specs.Read.{all_ok}
use Rattle.std.specs.Prelude.{Ok, Err}
use Rattle.record.specs.declared.Refusal.{Refusal}
use Rattle.template_entries.specs.Table.{Special as SpecialId}
use Rattle.lists.proofs.Sets.{sets_append, sets_over}
use Rattle.template_parts.specs.Parts.{parts}
use Rattle.template_pieces.specs.Piece.{Piece, special}
use Rattle.template_text.specs.Template.{most_parts, piece_width, reads, read_parts}
use Rattle.template_text.proofs.Answers.{short_is, template_holds}
use Rattle.template_text.proofs.Walked.{Walked, walked_start, walked_first}
use Rattle.template_find.specs.Last.{last_with}
use Rattle.template_entries.proofs.Sound.{table_holds}
use Rattle.process_plan.proofs.Next.{Passed, Refused, unreadable, no_step}
use Rattle.lists.proofs.FlatMap.{flat_map_append}
use Rattle.template_known.specs.Known.{known}
use Rattle.process_steps.specs.declared.Step.{Step}
use Rattle.process_steps.specs.Steps.{step_numbers}
use Rattle.process_steps.proofs.Steps.{length_steps}
use Rattle.process_plan.specs.Promises.{AskPlan, Plans}
use Rattle.process_plan.proofs.Piece.{steps_of, not_there}
use Rattle.process_plan.proofs.Joined.{steps_few, steps_fine, steps_made}

-- ---- Lists

-- one more element
flat_map_more : {A B : Type 0} (f : A → List B) (xs : List A) (x : A) {ys : List B} → f x ≡ ys → flat_map f (xs ++ (x ∷ [])) ≡ flat_map f xs ++ ys
unfolding flat_map
flat_map_more f xs x e = flat_map_append f xs (x ∷ []) ∙ ap (flat_map f xs ++◌) (append-nil (f x) ∙ e)

-- a test that holds of all holds of each
holds_of : (t : Piece → Bool) (ps : List Piece) (p : Piece) (qs : List Piece) → all_ok t (ps ++ (p ∷ qs)) ≡ true → t p ≡ true
holds_of t [] p qs e = go (t p) e
  where
    go : (b : Bool) → (b && all_ok t qs) ≡ true → b ≡ true
    go true e = refl
    go false e = e
holds_of t (q ∷ ps) p qs e = holds_of t ps p qs (go (t q) e)
  where
    go : (b : Bool) → (b && all_ok t (ps ++ (p ∷ qs))) ≡ true → all_ok t (ps ++ (p ∷ qs)) ≡ true
    go true e = e
    go false e = cc

-- a special piece is not known if its id is unknown
lacking : (table : List SpecialId) {place : ℕ} (id : List ℕ) {type : ℕ} (p : Piece) → p ≡ special place id type → last_with id table ≡ nothing → known table p ≡ true → ⊥
unfolding known
lacking table id p is none e = let not_known : false ≡ true = rw (is, none) at e in let z : ◌≡◌ {A = ℕ} 0 1 = cc in omega arith

-- ---- Planning

-- The steps of the pieces passed have been written.
pub record Planning (text : List ℕ) (add : Bool) (entries added steps : List ℕ) (at count : ℕ) (steps' : List ℕ) : Type 0 where
  pub passed : List Piece
  pub walked : Walked text at passed
  pub counted : count ≡ length (flat_map (steps_of entries added add) passed)
  pub written : steps' ≡ sets steps 0 (flat_map step_numbers (flat_map (steps_of entries added add) passed))

pub plan_start : (text : List ℕ) (add : Bool) (entries added steps : List ℕ) → Planning text add entries added steps 0 0 steps
unfolding flat_map
plan_start text add entries added steps = record { passed = []; walked = walked_start text; counted = refl; written = refl }

module _ {text : List ℕ} {add : Bool} {entries added steps : List ℕ} {at count : ℕ} {steps' : List ℕ} (g : Planning text add entries added steps at count steps') where
  -- the steps so far
  abbrev planned : List Step
  planned = flat_map (steps_of entries added add) g.passed

  pub kept : length steps' ≡ length steps
  kept = ap length g.written ∙ length-sets steps 0 (flat_map step_numbers planned)

  module _ (ask : AskPlan text entries added steps) where
    few : length planned ≤ most_parts
    few = omega (arith, steps_few entries added add g.passed, g.walked.number, (short_is text ask.is_short).1)

    pub plan_end : read_parts 0 0 (parts text) ≡ reads g.passed → Plans text add entries added (Ok count) steps'
    plan_end e members table pieces t r all =
        let h = table_holds entries members added t in
        let whole : read_parts 0 0 (parts text) ≡ reads pieces = template_holds text r in
        let same : pieces ≡ g.passed = cc in
        rw same
        (record {
          planned = planned;
          answers = ap Ok g.counted;
          few = few;
          numbers =
              record {
                rest = drop (length (flat_map step_numbers planned)) steps;
                is = g.written ∙ sets_over steps (flat_map step_numbers planned) (omega (arith, length_steps planned, few, ask.room));
              };
          fine = λ second lacks. steps_fine h second add g.passed lacks;
          made = λ E second lacks. steps_made h second E add g.passed lacks;
        })

  -- a part that cannot be read, or a special id that is unknown
  pub plan_refused : Refused entries added add text g.passed → {why : Refusal} → Plans text add entries added (Err why) steps'
  plan_refused (unreadable none) members table pieces t r all =
      let whole : read_parts 0 0 (parts text) ≡ reads pieces = template_holds text r in
      let z : ◌≡◌ {A = ℕ} 0 1 = cc in
      absurd (omega arith)
  plan_refused (no_step s) members table pieces t q all =
      let u = s.unknown in
      let first = walked_first s.walked (template_holds text q) in
      let known_all : all_ok (known table) (g.passed ++ (s.piece ∷ first.0)) ≡ true = rw (first.1, append_assoc) at (all u.adds) in
      let none : last_with u.id table ≡ nothing = not_there (table_holds entries members added t) u.type u.id u.missing in
      let known_one : known table s.piece ≡ true = holds_of (known table) g.passed s.piece first.0 known_all in
      absurd (lacking table u.id s.piece u.is none known_one)

  module _ {new : List Step} {next : ℕ} (p : Passed entries added add text at g.passed new next) where
    pub plan_few : AskPlan text entries added steps → count < most_parts
    plan_few ask = omega (arith, g.counted, steps_few entries added add g.passed, p.few, (short_is text ask.is_short).1)

    pub plan_room : AskPlan text entries added steps → count * piece_width + piece_width ≤ length steps'
    plan_room ask = omega (arith, kept, ask.room, plan_few ask)

    more : flat_map (steps_of entries added add) (g.passed ++ (p.piece ∷ [])) ≡ planned ++ new
    more = flat_map_more (steps_of entries added add) g.passed p.piece p.steps_are

    -- the piece passed, its steps written
    pub plan_on : {count' : ℕ} {steps'' : List ℕ} → count' ≡ count + length new → steps'' ≡ sets steps' (count * piece_width) (flat_map step_numbers new) → Planning text add entries added steps next count' steps''
    plan_on {count'} {steps''} c w =
        let reach : count * piece_width ≡ 0 + length (flat_map step_numbers planned) = omega (arith, length_steps planned, g.counted) in
        record {
          passed = g.passed ++ (p.piece ∷ []);
          walked = p.walked;
          counted = omega (arith, c, g.counted, ap length more, length-append planned new);
          written =
              w
              ∙ rw (g.written, reach, more) (sets_append steps 0 (flat_map step_numbers planned) (flat_map step_numbers new) ∙ ap (sets steps 0) (sym (flat_map_append step_numbers planned new)));
        }

  -- a special piece that is left out
  pub plan_left : {next : ℕ} → Passed entries added add text at g.passed [] next → Planning text add entries added steps next count steps'
  unfolding flat_map
  plan_left p = plan_on p (omega arith) refl

  -- any other piece, whose step was written
  pub plan_step : {s : Step} {next : ℕ} {steps'' : List ℕ} → Passed entries added add text at g.passed (s ∷ []) next → steps'' ≡ sets steps' (count * piece_width) (step_numbers s) → Planning text add entries added steps next (count + 1) steps''
  unfolding flat_map
  plan_step {s} p w = plan_on p (omega arith) (w ∙ ap (sets steps' (count * piece_width)) (sym (append-nil (step_numbers s))))
