-- An encoding that stands there fits, and so do the windows that it is cut to and the rows that they share.
-- Assumes nothing.
use mathlib.Core.Path.{◌≡◌, ap}
use Prim.Native.Nat.{ℕ, ◌+◌, ◌*◌, ◌-◌, ◌≤◌}
use native.Mathlib.Nat.{mul-le-mul, div-le_self}
use native.Mathlib.Omega.{arith}
use mathlib.Core.List.{List, [], ◌∷◌}
use lib.ListN.{get_or}
use Rattle.record.specs.Tree.{Encoding, forest}
use Rattle.record.specs.WellFormed.{most_rows}
use Rattle.record.specs.Standing.{Here}
use Rattle.record.proofs.Here.{here_size}
use Rattle.record_extent.specs.Size.{size_of}
use Rattle.record_extent.specs.declared.Extent.{Extent}
use Rattle.cut_plan.specs.declared.Decision.TheVariants.{Windows}
use Rattle.cut_plan.proofs.Decides.{Says}
use Rattle.truncate_size.specs.Promises.{Fitting}

pub here_fitting : {nodes rows : List ℕ} {i j : ℕ} {E : Encoding} {own : Extent} → Here nodes rows i j (forest (E ∷ [])) → own ≡ size_of (forest (E ∷ [])) → Fitting (get_or nodes i 0) own
here_fitting h e =
    record {
      few_own = omega (arith, here_size h, h.well.fits.few_rows);
      few_nodes = omega (arith, ap (λ (s : Extent). s.nodes) e, h.well.fits.few_nodes);
      few_levels = omega (arith, ap (λ (s : Extent). s.levels) e, h.well.fits.few_levels);
    }

-- ---- The number of windows, and the rows that they share, are small

pub record Counted (n stride count : ℕ) : Type 0 where
  pub some : 1 ≤ count
  pub few : (count - 1) * stride ≤ most_rows * most_rows

pub counted : (n max stride : ℕ) {count : ℕ} → n ≤ most_rows → Says n max stride (Windows count) → Counted n stride count
counted n max stride {count} h (u, e) =
    let a : count - 1 ≤ most_rows = omega (arith, u.fewer, u.less, div-le_self (n - max + (max - stride - 1)) (max - stride)) in
    let b : stride ≤ most_rows = omega (arith, u.fewer, u.less) in
    record { some = omega arith; few = mul-le-mul a b }
