-- Whether totals are within the limit: as a fact, and what is answered by it.
-- Assumes nothing.
use mathlib.Core.Path.{◌≡◌, refl}
use mathlib.Core.Bool.{Bool, true, false, cond}
use native.Mathlib.Omega.{arith}
use Rattle.record.proofs.WellFormed.{Tells, tells_le, tells_and}
use Rattle.record.specs.declared.Refusal.TheVariants.{TotalTooLarge}
use Rattle.report_trees.specs.Report.{summed, within_totals, WithinTotals, totalled}
use Rattle.report_trees.specs.declared.Report.{Report}
use Rattle.std.specs.Prelude.{Ok, Err}

pub tells_within : (r : Report) → Tells (within_totals r) (WithinTotals r)
tells_within r =
    tells_and (tells_le _ _) (tells_and (tells_le _ _) (tells_and (tells_le _ _) (tells_and (tells_le _ _) (tells_and (tells_le _ _) (tells_le _ _)))))

-- before more was added they were too
pub within_before : (r s : Report) → within_totals (summed r s) ≡ true → within_totals r ≡ true
within_before r s e = let w : WithinTotals (summed r s) = (tells_within (summed r s)).so e in (tells_within r).back (omega (arith, w))

pub totals_fit : (r : Report) → WithinTotals r → Ok r ≡ totalled r
unfolding totalled
totals_fit r w = rw ((tells_within r).back w)

pub totals_too_large : (r : Report) → (WithinTotals r → ⊥) → Err TotalTooLarge ≡ totalled r
unfolding totalled
totals_too_large r n = go (within_totals r) refl
  where
    go : (b : Bool) → within_totals r ≡ b → Err TotalTooLarge ≡ cond b (Ok r) (Err TotalTooLarge)
    go true e = absurd (n ((tells_within r).so e))
    go false e = refl
