-- The encoding that a cut makes, case by case, and how much it holds.
-- Assumes nothing.
use mathlib.Core.Path.{◌≡◌, refl, sym, ap, ap₂, ◌∙◌}
use mathlib.Core.Bool.{false, ◌&&◌, false≢true}
use Prim.Native.Nat.{ℕ, ◌+◌, ◌*◌, ◌-◌, ◌≤◌, ◌<◌}
use native.Mathlib.Omega.{arith}
use mathlib.Core.List.{List, [], ◌∷◌, map}
use lib.ListN.{length}
use borrow.Author.Tests.{le-leb, lt-leb, eq-eqb, ne_eqb, lt-ltb}
use Rattle.record.specs.Tree.{Row, Encoding, forest}
use Rattle.lists.specs.Lists.{All}
use Rattle.cut_plan.specs.Cut.{Cuts, windows_of, decision_of, rows_of, ceiling, count_of}
use Rattle.cut_plan.specs.declared.Direction.{Direction}
use Rattle.record.specs.declared.Bounds.{Bounds}
use Rattle.cut_plan.specs.declared.Decision.{Decision}
use Rattle.cut_plan.specs.declared.Decision.TheVariants.{Whole, Emptied, StrideRefused, Windows}
use Rattle.cut_plan.proofs.Ceiling.{ceiling_step}
use Rattle.cut_plan.proofs.Windows.{windows_count, windows_rows}
use Rattle.cut_plan.proofs.Laws.{windows_sized}
use Rattle.cut_plan.proofs.Decides.{Refuses, Says, decided}
use Rattle.lists.proofs.All.{all_imp}
use Rattle.cut_windows.specs.Made.{plain, stretch_of, gathered}
use Rattle.truncate_size.specs.Size.{stride_refused, size_cut, size_after}
use Rattle.truncate_write.specs.Truncated.{truncated}
use Rattle.record_extent.specs.Size.{extent, size_of}
use Rattle.cut_windows.proofs.Parts.{Inside, size_part, parts_nodes, parts_rows, parts_levels}

-- ---- The encoding that a cut makes, case by case

module _ (max stride : ℕ) (d : Direction) (E : Encoding) where
  pub truncated_whole : length E.rows ≤ max → truncated max stride d E ≡ E
  unfolding truncated
  truncated_whole h = rw (le-leb (length E.rows) max h)

  pub truncated_emptied : max ≡ 0 → 0 < length E.rows → truncated max stride d E ≡ plain [] (E ∷ [])
  unfolding truncated
  truncated_emptied e h = rw (lt-leb (length E.rows) max (omega arith), eq-eqb max 0 e)

  pub truncated_cut : Cuts (length E.rows) max stride → truncated max stride d E ≡ gathered (map (stretch_of E.rows) (windows_of (length E.rows) max stride d))
  unfolding truncated
  truncated_cut u = rw (lt-leb (length E.rows) max u.fewer, ne_eqb max 0 (λ e. omega (arith, u.less)))

-- the decision is not refused where the test says so
pub not_refused : (n max stride : ℕ) → stride_refused n max stride ≡ false → Refuses n max stride → ⊥
not_refused n max stride e r = false≢true (sym e ∙ ap₂ ◌&&◌ (lt-ltb 0 max r.some) (ap₂ ◌&&◌ (lt-ltb max n r.fewer) (le-leb max stride r.reached)))

-- ---- Its size

pub same_extent : {n n' r r' l l' : ℕ} → n ≡ n' → r ≡ r' → l ≡ l' → extent n r l ≡ extent n' r' l'
same_extent a b c j = extent (a j) (b j) (c j)

-- windows, two or more of them
gathered_size : (R : List Row) (bs : List Bounds) → All (Inside (length R)) bs → 2 ≤ length bs → size_of (forest (gathered (map (stretch_of R) bs) ∷ [])) ≡ extent (length bs) (rows_of bs) 2
gathered_size R [] h k = absurd (omega arith)
gathered_size R (b ∷ []) h k = absurd (omega arith)
gathered_size R (b ∷ c ∷ bs) (h, hs) k =
    same_extent (omega (arith, parts_nodes R (c ∷ bs))) (omega (arith, size_part R b h, parts_rows R (c ∷ bs) hs)) (omega (arith, parts_levels R c bs))

-- every window lies in the rows, and there are two or more
pub windows_inside : (R : List Row) {max stride : ℕ} → Cuts (length R) max stride → (d : Direction) → All (Inside (length R)) (windows_of (length R) max stride d)
windows_inside R {max} {stride} u d = all_imp (windows_of (length R) max stride d) (λ b z. z.inside) (windows_sized u d)

two_windows : {n max stride : ℕ} → Cuts n max stride → 2 ≤ count_of n max stride
two_windows {n} {max} {stride} u = omega (arith, ceiling_step (n - max) (max - stride) (omega (arith, u.less)) (omega (arith, u.fewer)))

pub truncated_size : (max stride : ℕ) (d : Direction) (E : Encoding) → stride_refused (length E.rows) max stride ≡ false → size_of (forest (truncated max stride d E ∷ [])) ≡ size_after (length E.rows) max stride (size_of (forest (E ∷ [])))
truncated_size max stride d E t = go (decision_of (length E.rows) max stride) (decided (length E.rows) max stride)
  where
    sizes : {F : Encoding} → truncated max stride d E ≡ F → size_of (forest (truncated max stride d E ∷ [])) ≡ size_of (forest (F ∷ []))
    sizes e = ap (λ (F : Encoding). size_of (forest (F ∷ []))) e

    go : (k : Decision) → Says (length E.rows) max stride k → size_of (forest (truncated max stride d E ∷ [])) ≡ size_cut k (length E.rows) stride (size_of (forest (E ∷ [])))
    go Whole s = sizes (truncated_whole max stride d E s)
    go Emptied (z, s) = sizes (truncated_emptied max stride d E z s) ∙ same_extent (omega arith) (omega arith) (omega arith)
    go StrideRefused s = absurd (not_refused (length E.rows) max stride t s)
    go (Windows count) (u, c) =
        let bs = windows_of (length E.rows) max stride d in
        let l : length bs ≡ count = windows_count u d ∙ sym c in
        let k : ceiling (length E.rows - max) (max - stride) ≡ count - 1 = omega (arith, c) in
        sizes (truncated_cut max stride d E u) ∙ gathered_size E.rows bs (windows_inside E.rows u d) (omega (arith, l, c, two_windows u))
        ∙ same_extent l (windows_rows u d ∙ ap (λ (m : ℕ). length E.rows + m * stride) k) refl
