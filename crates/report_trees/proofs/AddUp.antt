-- The three kinds of rows add up to the rows: of one row, of a batch, of every report begun empty.
-- Assumes nothing.
use mathlib.Core.Path.{◌≡◌, refl, sym, subst, ◌∙◌}
use mathlib.Core.Bool.{Bool, true, false, ◌&&◌, not, cond}
use Prim.Native.Nat.{◌+◌}
use native.Mathlib.Omega.{arith}
use mathlib.Core.List.{List, [], ◌∷◌}
use lib.Dec.{eqb}
use lib.ListN.{length}
use Rattle.record.specs.Tree.{Row, Forest}
use Rattle.record.specs.Read.{Reading, malformed, holds, read, of_any}
use Rattle.record.specs.Walk.{all_rows}
use Rattle.record.proofs.Walk.{length_all_rows}
use Rattle.record.specs.declared.Refusal.TheVariants.{TotalTooLarge}
use Rattle.report_trees.specs.Counts.{one, how_many, is_padding, is_special, is_rest}
use Rattle.report_trees.specs.Report.{counted, summed, within_totals, totalled, add_answer, Begun, begun_empty, begun_more, KindsAddUp}
use Rattle.report_trees.specs.declared.Report.{Report}
use Rattle.std.specs.Prelude.{Ok, Err}

-- a row is of just one kind
kind_of_one : (a s : Bool) → one a + (one (not a && not s) + one (not a && s)) ≡ 1
unfolding one
kind_of_one true s = refl
kind_of_one false true = refl
kind_of_one false false = refl

kinds_of_rows : (rs : List Row) → how_many is_padding rs + (how_many is_special rs + how_many is_rest rs) ≡ length rs
unfolding how_many
kinds_of_rows [] = refl
kinds_of_rows (r ∷ rs) = omega (arith, kind_of_one (eqb r.attention 0) (eqb r.special 0), kinds_of_rows rs)

pub kinds_of_batch : (f : Forest) → KindsAddUp (counted f)
kinds_of_batch f = kinds_of_rows (all_rows f) ∙ length_all_rows f

-- ---- Reports

pub kinds_summed : (r s : Report) → KindsAddUp r → KindsAddUp s → KindsAddUp (summed r s)
kinds_summed r s p q = omega (arith, p, q)

-- what is not refused is the sum
pub totalled_is : (t : Report) {s : Report} → totalled t ≡ Ok s → s ≡ t
unfolding totalled
totalled_is t {s} e = go (within_totals t) e
  where
    go : (b : Bool) → cond b (Ok t) (Err TotalTooLarge) ≡ Ok s → s ≡ t
    go true e = cc
    go false e = cc

-- and the batch that it was added of was well-formed
pub added_is : (batch : Reading) (r : Report) {s : Report} → add_answer batch r ≡ Ok s → (f : Forest) × (batch ≡ holds f) × (s ≡ summed r (counted f))
unfolding add_answer of_any
added_is malformed r e = absurd (cc)
added_is (holds f) r e = (f, refl, totalled_is (summed r (counted f)) e)

-- "in every report begun empty the three kinds are shown to add up to the rows"
pub begun_adds_up : {r : Report} → Begun r → KindsAddUp r
begun_adds_up begun_empty = refl
begun_adds_up (begun_more {r} {s} nodes rows b e) =
    let added = added_is (read nodes rows) r e in
    subst KindsAddUp (sym added.2) (kinds_summed r (counted added.0) (begun_adds_up b) (kinds_of_batch added.0))
