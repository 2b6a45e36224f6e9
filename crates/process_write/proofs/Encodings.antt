-- What steps speak of: the limits aside it is well-formed, and its offsets stay within 32 bits.
-- Assumes nothing.
use mathlib.Core.Path.{◌≡◌, refl, ◌∙◌}
use mathlib.Core.Logic.{inl}
use mathlib.Core.Bool.{true, false}
use mathlib.Core.Option.{Option}
use mathlib.Core.List.{List, [], ◌∷◌, map}
use Prim.Native.Nat.{ℕ, zero, suc, ◌≤◌}
use native.Mathlib.Omega.{arith}
use lib.ListN.{get_or, replicate}
use Rattle.record.specs.Tree.{Encoding, forest, empty, absent, sequences}
use Rattle.lists.specs.Lists.{All}
use Rattle.record.specs.WellFormed.{RangeFine, RowFine, Fine}
use Rattle.record.specs.Standing.{Here}
use Rattle.join_trees.specs.Join.{join}
use Rattle.join_trees.specs.Offsets.{most_offset, fold_fits}
use Rattle.join_trees.proofs.Offsets.{RowFits, OffsetsFit, tells_offsets, join_fits_right, join_fits_still, fold_fits_still}
use Rattle.join_offsets.proofs.Known.{here_fits}
use Rattle.record.specs.declared.Spot.{Spot}
use Rattle.join_view.specs.declared.View.{View}
use Rattle.join_view.specs.declared.View.TheVariants.{Piece}
use Rattle.join_view.specs.View.{seen}
use Rattle.join_view.proofs.Seen.{seen_well}
use Rattle.join_view.proofs.Offsets.{join_fits_seen}
use Rattle.template_entries.specs.Table.{Member}
use Rattle.template_entries.specs.Rows.{special_row, special_encoding, entry_members}
use Rattle.process_steps.specs.declared.Step.{Step}
use Rattle.process_steps.specs.declared.Step.TheVariants.{First, Second, Special}
use Rattle.process_steps.specs.Steps.{second_or, step_encoding}
use Rattle.process_steps.specs.Promises.{StepFine, Inputs}
use Rattle.process_take.proofs.Taking.{second_there}

-- ---- Special rows

special_fine : (t : ℕ) (ms : List Member) → Fine (forest (special_encoding t ms ∷ []))
special_fine t ms = (record { places = refl; ranges_fine = absent_fine _ sequences; rows_fine = rows ms }, tt, tt)
  where
    rows : (ms : List Member) → All RowFine (map (special_row t) ms)
    rows [] = tt
    rows (m ∷ ms) = ((omega arith, inl (refl, refl)), rows ms)

    absent_fine : (n k : ℕ) → All (RangeFine n) (replicate k absent)
    absent_fine n zero = tt
    absent_fine n (suc k) = (inl refl, absent_fine n k)

special_fits : (t : ℕ) (ms : List Member) → OffsetsFit (forest (special_encoding t ms ∷ []))
special_fits t ms = (rows ms, tt, tt)
  where
    rows : (ms : List Member) → All RowFits (map (special_row t) ms)
    rows [] = tt
    rows (m ∷ ms) = ((omega arith, omega arith), rows ms)

-- ---- A view sets no offset

seen_fits : (v : View) (E : Encoding) → OffsetsFit (forest (E ∷ [])) → OffsetsFit (forest (seen v E ∷ []))
seen_fits v E h = join_fits_right false empty (seen v E) ((tells_offsets (forest (join false empty (seen v E) ∷ []))).so (join_fits_seen false v empty E ∙ join_fits_still empty E (tt, tt, tt) h))

-- ---- One step, and all of them

module _ {nodes rows : List ℕ} {s : Spot} (entries members : List ℕ) {E : Encoding} {second : Option Encoding} (inputs : Inputs nodes rows s E second) where
  -- what holds of every encoding that stands there, however it is seen, and of special rows
  module _ (M : Encoding → Type 0) (standing : (i j : ℕ) (v : View) (F : Encoding) → Here nodes rows i j (forest (F ∷ [])) → M (seen v F)) (added : (t : ℕ) (ms : List Member) → M (special_encoding t ms)) where
    step_has : (step : Step) → StepFine entries members second step → M (step_encoding entries members E second step)
    step_has (First t) u = standing 0 0 (Piece 0 t) E inputs.first_here
    step_has (Second t) u = standing s.node s.row (Piece 1 t) (second_or second) (second_there entries members second t inputs u)
    step_has (Special t entry) u = added t (entry_members entries members entry)

  pub step_fine : (step : Step) → StepFine entries members second step → Fine (forest (step_encoding entries members E second step ∷ []))
  step_fine = step_has (λ F. Fine (forest (F ∷ []))) (λ i j v F h. (seen_well v F h.well).fine) special_fine

  pub steps_fine : (steps : List Step) → All (StepFine entries members second) steps → Fine (forest (map (step_encoding entries members E second) steps))
  steps_fine [] u = tt
  steps_fine (step ∷ steps) (u, us) = let f = step_fine step u in (f.0, f.1, steps_fine steps us)

  -- where every number of the rows is one of 32 bits
  module _ (known : (k : ℕ) → get_or rows k 0 ≤ most_offset) where
    step_fits : (step : Step) → StepFine entries members second step → OffsetsFit (forest (step_encoding entries members E second step ∷ []))
    step_fits = step_has (λ F. OffsetsFit (forest (F ∷ []))) (λ i j v F h. seen_fits v F (here_fits h known)) special_fits

    each_fits : (steps : List Step) → All (StepFine entries members second) steps → OffsetsFit (forest (map (step_encoding entries members E second) steps))
    each_fits [] u = tt
    each_fits (step ∷ steps) (u, us) = let f = step_fits step u in (f.0, f.1, each_fits steps us)

    pub steps_fit_lem : (steps : List Step) → All (StepFine entries members second) steps → fold_fits false (map (step_encoding entries members E second) steps) ≡ true
    steps_fit_lem steps u = fold_fits_still (map (step_encoding entries members E second) steps) (each_fits steps u)
