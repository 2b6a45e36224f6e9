-- Steps on their way: those passed, whose fold is known to have a property, and those left.
-- Assumes nothing.
use mathlib.Core.Path.{◌≡◌, refl, ap, sym, ◌∙◌, subst}
use mathlib.Core.Bool.{false}
use mathlib.Core.Option.{Option}
use mathlib.Core.List.{List, [], ◌∷◌, ◌++◌, map, flat_map, append_assoc, append-nil}
use Prim.Native.Nat.{ℕ, ◌+◌, ◌*◌, ◌≤◌, ◌<◌}
use native.Mathlib.Omega.{arith}
use lib.ListN.{length, take, drop, length-append, take-append-drop}
use lib.Seq.{length-take-le}
use Rattle.record.specs.Tree.{Encoding, forest, empty}
use Rattle.lists.specs.Lists.{All}
use Rattle.record.specs.WellFormed.{Fits}
use Rattle.join_trees.specs.Join.{join, fold}
use Rattle.lists.proofs.FlatMap.{map_append}
use Rattle.join_trees.proofs.Folds.{fold_from_append, fold_last}
use Rattle.join_trees.proofs.Sizes.{fold_no_less, no_more_fits}
use Rattle.template_text.specs.Template.{piece_width}
use Rattle.process_steps.specs.declared.Step.{Step}
use Rattle.process_steps.specs.Steps.{step_numbers, step_at}
use Rattle.process_steps.specs.Promises.{StepFine, StepsAt}
use Rattle.process_steps.proofs.Steps.{length_steps, step_is}
use Rattle.process_rows.specs.Promises.{StepsOf}

-- f is what a step joins, Q what is known of the fold of those passed
pub record Walked (f : Step → Encoding) (Q : Encoding → Type 0) (steps : List Step) (i : ℕ) : Type 0 where
  pub passed : List Step
  pub left : List Step
  pub split : steps ≡ passed ++ left
  pub counted : length passed ≡ i
  pub has : Q (fold false (map f passed))

pub walked_start : {f : Step → Encoding} {Q : Encoding → Type 0} (steps : List Step) → Q empty → Walked f Q steps 0
walked_start steps q = record { passed = []; left = steps; split = refl; counted = refl; has = q }

-- any number of them passed, nothing said of their fold
pub walked_any : {f : Step → Encoding} (steps : List Step) (i : ℕ) → i ≤ length steps → Walked f (λ E. Unit {0}) steps i
walked_any steps i l = record { passed = take i steps; left = drop i steps; split = sym (take-append-drop i steps); counted = length-take-le i steps l; has = tt }

-- the numbers of each step are there
pub steps_inside : {nodes : List ℕ} {k : ℕ} {entries numbers : List ℕ} {count : ℕ} {members : List ℕ} {E : Encoding} {second : Option Encoding} {steps : List Step} (i : ℕ) → StepsOf nodes k entries numbers count members E second steps → i < count → i * piece_width + piece_width ≤ length numbers
steps_inside {steps = steps} i h l = let n = h.numbered in omega (arith, h.counted, ap length n.is, length-append (flat_map step_numbers steps) n.rest, length_steps steps)

-- The step that is next, where some are left.
pub record Next (f : Step → Encoding) (Q : Encoding → Type 0) (entries members : List ℕ) (second : Option Encoding) (steps : List Step) (i : ℕ) (s : Step) : Type 0 where
  pub passed : List Step
  pub left : List Step
  pub split : steps ≡ passed ++ s ∷ left
  pub counted : length passed ≡ i
  pub has : Q (fold false (map f passed))
  pub fine : StepFine entries members second s

all_middle : {A : Type 0} (M : A → Type 0) (xs : List A) (y : A) (zs : List A) → All M (xs ++ y ∷ zs) → M y
all_middle M [] y zs (h, hs) = h
all_middle M (x ∷ xs) y zs (h, hs) = all_middle M xs y zs hs

pub next : {f : Step → Encoding} {Q : Encoding → Type 0} {nodes : List ℕ} {k : ℕ} {entries numbers : List ℕ} {count : ℕ} {members : List ℕ} {E : Encoding} {second : Option Encoding} {steps : List Step} {i : ℕ} {s : Step} → StepsOf nodes k entries numbers count members E second steps → Walked f Q steps i → i < count → s ≡ step_at numbers (i * piece_width) → Next f Q entries members second steps i s
next {f} {Q} {entries = entries} {numbers = numbers} {members = members} {second = second} {steps = steps} {i} {s} h w l e = go w.left w.split
  where
    go : (left : List Step) → steps ≡ w.passed ++ left → Next f Q entries members second steps i s
    go [] z = absurd (omega (arith, h.counted, w.counted, ap length (z ∙ append-nil w.passed)))
    go (t ∷ left) z =
        let there : StepsAt numbers (w.passed ++ t ∷ left) = subst (StepsAt numbers) z h.numbered in
        let is : s ≡ t = e ∙ ap (λ (k : ℕ). step_at numbers (k * piece_width)) (sym w.counted) ∙ step_is w.passed t left there in
        record {
          passed = w.passed;
          left = left;
          split = z ∙ ap (λ (u : Step). w.passed ++ u ∷ left) (sym is);
          counted = w.counted;
          has = w.has;
          fine = subst (StepFine entries members second) (sym is) (all_middle (StepFine entries members second) w.passed t left (subst (All (StepFine entries members second)) z h.fine));
        }

module _ {f : Step → Encoding} {Q : Encoding → Type 0} {entries members : List ℕ} {second : Option Encoding} {steps : List Step} {i : ℕ} {s : Step} (n : Next f Q entries members second steps i s) where
  abbrev so_far : Encoding
  so_far = fold false (map f n.passed)

  -- it is joined
  pub walked_more : {R : Encoding → Type 0} → R (join false so_far (f s)) → Walked f R steps (i + 1)
  walked_more {R} r = record {
    passed = n.passed ++ s ∷ [];
    left = n.left;
    split = n.split ∙ sym (append_assoc n.passed (s ∷ []) n.left);
    counted = length-append n.passed (s ∷ []) ∙ ap (◌+ 1) n.counted;
    has = subst R (sym (ap (fold false) (map_append f n.passed (s ∷ [])) ∙ fold_last false (map f n.passed) (f s))) r;
  }

  -- it is joined, and is too large: then so is what all of them give
  pub walked_stop : (Fits (forest (join false so_far (f s) ∷ [])) → ⊥) → Fits (forest (fold false (map f steps) ∷ [])) → ⊥
  walked_stop large h =
      let e : fold false (map f steps) ≡ _ = ap (λ (l : List Step). fold false (map f l)) n.split ∙ ap (fold false) (map_append f n.passed (s ∷ n.left)) ∙ fold_from_append false empty (map f n.passed) (map f (s ∷ n.left)) in
      large (no_more_fits (fold_no_less false (join false so_far (f s)) (map f n.left)) (subst (λ (E : Encoding). Fits (forest (E ∷ []))) e h))

-- None is left.
pub walked_end : {f : Step → Encoding} {Q : Encoding → Type 0} {steps : List Step} {i : ℕ} (count : ℕ) → length steps ≡ count → Walked f Q steps i → count ≤ i → Q (fold false (map f steps))
walked_end {f} {Q} {steps} {i} count c w l = go w.left w.split
  where
    go : (left : List Step) → steps ≡ w.passed ++ left → Q (fold false (map f steps))
    go [] z = subst (λ (l : List Step). Q (fold false (map f l))) (sym (z ∙ append-nil w.passed)) w.has
    go (s ∷ left) z = absurd (omega (arith, w.counted, ap length z, length-append w.passed (s ∷ left)))
