-- The windows of every cut, put together in text order, are the rows that were cut; one theorem for both directions.
-- Assumes nothing.
use mathlib.Core.Path.{◌≡◌, sym, ap, ◌∙◌, subst, subst₂}
use Prim.Native.Nat.{ℕ, suc, ◌-◌, ◌<◌}
use native.Mathlib.Omega.{arith}
use mathlib.Core.List.{List, [], ◌∷◌, map}
use lib.ListN.{length, get_or}
use Rattle.lists.specs.Lists.{All}
use Rattle.record.specs.Tree.{Row, Encoding, encoding, windows}
use Rattle.record.specs.declared.Bounds.{Bounds}
use Rattle.record.proofs.Tree.{listed_forest}
use Rattle.cut_plan.specs.Cut.{bounds, Cuts, windows_of, ceiling, count_of, window_at}
use Rattle.cut_plan.specs.declared.Direction.{Direction}
use Rattle.cut_plan.specs.declared.Direction.TheVariants.{Left, Right}
use Rattle.cut_plan.proofs.Windows.{windows_count, window_at_lem}
use Rattle.cut_plan.proofs.Laws.{Sized, Shares, window_first, window_last, window_shared, windows_sized}
use Rattle.cut_windows.specs.Made.{stretch_of, gathered}
use Rattle.truncate_write.specs.Truncated.{truncated}
use Rattle.truncate_write.proofs.Sizes.{truncated_cut}
use Rattle.cut_cover.specs.Cover.{text_order, rejoined}
use Rattle.cut_cover.proofs.Stretches.{Begins, Reaches, chain_places, row_lists, chain_joined}

-- ---- The windows of a cut are a chain

module _ {rows max stride : ℕ} (h : Cuts rows max stride) where
  begins : (d : Direction) → Begins rows d (window_at rows max stride d 0)
  begins Right = ap (λ (b : Bounds). b.start) (window_first h Right)
  begins Left = ap (λ (b : Bounds). b.end) (window_first h Left) ∙ omega arith

  reaches : (d : Direction) → Reaches rows d (window_at rows max stride d (ceiling (rows - max) (max - stride)))
  reaches Right = ap (λ (b : Bounds). b.end) (window_last h Right)
  reaches Left = ap (λ (b : Bounds). b.start) (window_last h Left) ∙ omega arith

-- so a list that has them at its places gives all rows
places_joined : (R : List Row) (max stride : ℕ) (d : Direction) (bs : List Bounds) → Cuts (length R) max stride → All (Sized (length R) max stride) bs → length bs ≡ count_of (length R) max stride
    → ((i : ℕ) → i < count_of (length R) max stride → get_or bs i (bounds 0 0) ≡ window_at (length R) max stride d i) → rejoined stride (text_order d (row_lists R bs)) ≡ R
places_joined R max stride d [] u z n at = absurd (omega arith)
places_joined R max stride d (b ∷ bs) u z n at =
    let k : length bs ≡ ceiling (length R - max) (max - stride) = omega arith in
    chain_joined R max stride d b bs z (subst (Begins (length R) d) (sym (at 0 (omega arith))) (begins u d))
    (chain_places (length R) stride d (bounds 0 0) b bs
    (λ i l. subst₂ (Shares stride d) (sym (at i (omega arith))) (sym (at (suc i) (omega arith))) (window_shared u d i (omega arith)))
    (subst (Reaches (length R) d) (sym (at (length bs) (omega arith) ∙ ap (window_at (length R) max stride d) k)) (reaches u d)))

-- ---- What a cut makes of an encoding

-- the encodings that a cut makes, the kept one without its windows, are the stretches of its windows, in the cut's order
pub cut_stretches : (max stride : ℕ) (d : Direction) (E : Encoding) → Cuts (length E.rows) max stride
    → (encoding (truncated max stride d E).rows (truncated max stride d E).ranges [] ∷ windows (truncated max stride d E)) ≡ map (stretch_of E.rows) (windows_of (length E.rows) max stride d)
cut_stretches max stride d E u =
    ap (λ (T : Encoding). encoding T.rows T.ranges [] ∷ windows T) (truncated_cut max stride d E u) ∙ go (windows_of (length E.rows) max stride d) (windows_count u d)
  where
    go : (bs : List Bounds) → length bs ≡ count_of (length E.rows) max stride
        → (encoding (gathered (map (stretch_of E.rows) bs)).rows (gathered (map (stretch_of E.rows) bs)).ranges [] ∷ windows (gathered (map (stretch_of E.rows) bs))) ≡ map (stretch_of E.rows) bs
    go [] n = absurd (omega arith)
    go (b ∷ bs) n = ap (stretch_of E.rows b ∷◌) (listed_forest (map (stretch_of E.rows) bs))

-- "joining the windows in text order, with the first stride rows of all but the first left off, rebuilds all rows"
pub rebuilt : (max stride : ℕ) (d : Direction) (E : Encoding) → Cuts (length E.rows) max stride
    → rejoined stride (text_order d (map (λ (W : Encoding). W.rows) (truncated max stride d E ∷ windows (truncated max stride d E)))) ≡ E.rows
rebuilt max stride d E u =
    ap (λ (Ws : List Encoding). rejoined stride (text_order d (map (λ (W : Encoding). W.rows) Ws))) (cut_stretches max stride d E u)
    ∙ places_joined E.rows max stride d (windows_of (length E.rows) max stride d) u (windows_sized u d) (windows_count u d) (λ i k. window_at_lem u d i (bounds 0 0) k)
