-- The loop that writes the windows of a cut: after i turns the first i stand there.
-- Assumes nothing.
use mathlib.Core.Path.{◌≡◌, refl, sym, ap, subst, ◌∙◌}
use Prim.Native.Nat.{ℕ, ◌+◌, ◌*◌, ◌-◌, ◌≤◌, ◌<◌}
use native.Mathlib.Numerals.{add-one}
use native.Mathlib.Omega.{arith}
use mathlib.Core.List.{List, [], ◌∷◌, ◌++◌, flat_map, map, map-append}
use lib.ListN.{length, get_or, take, length-append, length-drop}
use lib.Seq.{length-take-le, take-suc, take-length}
use Rattle.record.specs.Tree.{Row, Encoding}
use Rattle.lists.specs.Lists.{All}
use Rattle.record.specs.Flat.{row_width, node_width, row_numbers}
use Rattle.record.proofs.Flat.{length_numbers, row_stored}
use Rattle.lists.proofs.All.{all_imp}
use Rattle.cut_plan.specs.Cut.{windows_of, rows_of}
use Rattle.cut_plan.specs.declared.Direction.{Direction}
use Rattle.record.specs.declared.Bounds.{Bounds}
use Rattle.cut_plan.proofs.Laws.{Sized, windows_sized}
use Rattle.cut_windows.specs.Made.{stretch_of}
use Rattle.record.specs.Standing.{RowsAt, Put}
use Rattle.record.proofs.Put.{put_none, put_more}
use Rattle.cut_windows.specs.Promises.{AskPart, AskWindows}
use Rattle.cut_windows.proofs.Parts.{Inside, parts_nodes_long, parts_rows_long, rows_take, rows_take_le}
use Rattle.lists.proofs.Parts.{all_take, all_get}

-- n rows that stand at j end within the rows
rows_end : {rows : List ℕ} {j : ℕ} {R : List Row} → RowsAt rows j R → 0 < length R → j + length R * row_width ≤ length rows
rows_end {rows} {j} {R} h k = omega (arith, ap length h.is, length-drop j rows, length-append (flat_map row_numbers R) h.rest, length_numbers row_stored R)

-- the first i of the windows bs are written
pub record Going (rows : List ℕ) (j n : ℕ) (bs : List Bounds) (nodes₀ : List ℕ) (a : ℕ) (rows₀ : List ℕ) (b : ℕ) (nodes₁ rows₁ : List ℕ) (node row i : ℕ) : Type 0 where
  pub within : i ≤ length bs
  pub node_at_lem : node ≡ a + i * node_width
  pub row_at : row ≡ b + rows_of (take i bs) * row_width
  pub nodes_long : length nodes₁ ≡ length nodes₀
  pub rows_long : length rows₁ ≡ length rows₀
  pub put : (R : List Row) → RowsAt rows j R → length R ≡ n → Put (map (stretch_of R) (take i bs)) nodes₀ a rows₀ b nodes₁ rows₁

pub going_start : (rows : List ℕ) (j n : ℕ) (bs : List Bounds) (nodes : List ℕ) (a : ℕ) (rows₀ : List ℕ) (b : ℕ) → Going rows j n bs nodes a rows₀ b nodes rows₀ a b 0
going_start rows j n bs nodes a rows₀ b = record { within = omega arith; node_at_lem = omega arith; row_at = omega arith; nodes_long = refl; rows_long = refl; put = λ R h l. put_none nodes rows₀ a b }

module _ {rows : List ℕ} {j n max stride : ℕ} {d : Direction} {nodes₀ : List ℕ} {a : ℕ} {rows₀ : List ℕ} {b : ℕ} (ask : AskWindows rows j n max stride d nodes₀ a rows₀ b)
    {nodes₁ rows₁ : List ℕ} {node row i : ℕ} (g : Going rows j n (windows_of n max stride d) nodes₀ a rows₀ b nodes₁ rows₁ node row i) where
  sizes : All (Sized n max stride) (windows_of n max stride d)
  sizes = windows_sized ask.cut d

  module _ (w e : Bounds) (at : w ≡ get_or (windows_of n max stride d) i e) (k : i < length (windows_of n max stride d)) where
    sized : Sized n max stride w
    sized = subst (Sized n max stride) (sym at) (all_get (Sized n max stride) i e (windows_of n max stride d) k sizes)

    grows : rows_of (take (i + 1) (windows_of n max stride d)) ≡ rows_of (take i (windows_of n max stride d)) + (w.end - w.start)
    grows = rows_take (windows_of n max stride d) i e k ∙ ap (λ (w : Bounds). rows_of (take i (windows_of n max stride d)) + (w.end - w.start)) (sym at)

    pub going_forward : w.start ≤ w.end
    going_forward = omega (arith, sized.above_stride)

    pub going_fits : row + (w.end - w.start) * row_width ≤ length rows₀
    going_fits = omega (arith, grows, g.row_at, ask.rows_fit, rows_take_le (i + 1) (windows_of n max stride d))

    pub going_asks : AskPart rows j w nodes₁ node rows₁ row
    going_asks =
        record {
          forward = going_forward;
          inside = omega (arith, sized.inside, sized.above_stride, ask.size, rows_end ask.there (omega (arith, ask.size, ask.cut.fewer)));
          nodes_fit = omega (arith, g.node_at_lem, g.nodes_long, ask.nodes_fit);
          rows_fit = omega (arith, going_fits, g.rows_long);
        }

    pub going_on : {nodes₂ rows₂ : List ℕ} → length nodes₂ ≡ length nodes₁ → length rows₂ ≡ length rows₁
        → ((R : List Row) → RowsAt rows j R → w.end ≤ length R → Put (stretch_of R w ∷ []) nodes₁ node rows₁ row nodes₂ rows₂)
        → Going rows j n (windows_of n max stride d) nodes₀ a rows₀ b nodes₂ rows₂ (node + node_width) (row + (w.end - w.start) * row_width) (i + 1)
    going_on {nodes₂} {rows₂} ln lr p =
        record {
          within = omega arith;
          node_at_lem = omega (arith, g.node_at_lem);
          row_at = omega (arith, grows, g.row_at);
          nodes_long = ln ∙ g.nodes_long;
          rows_long = lr ∙ g.rows_long;
          put = λ R h l.
              let bs = windows_of n max stride d in
              let inside : All (Inside (length R)) (take i bs) = all_take (Inside (length R)) i bs (all_imp bs (λ (w : Bounds) (z : Sized n max stride w). omega (arith, z.inside)) sizes) in
              let one : take (i + 1) bs ≡ take i bs ++ (w ∷ []) = ap (λ (m : ℕ). take m bs) (add-one i) ∙ take-suc bs i e k ∙ ap (λ (w : Bounds). take i bs ++ (w ∷ [])) (sym at) in
              let all : map (stretch_of R) (take (i + 1) bs) ≡ map (stretch_of R) (take i bs) ++ (stretch_of R w ∷ []) = ap (map (stretch_of R)) one ∙ map-append (stretch_of R) (take i bs) (w ∷ []) in
              subst (λ (fs : List Encoding). Put fs nodes₀ a rows₀ b nodes₂ rows₂) (sym all)
              (put_more (g.put R h l)
              (omega (arith, g.node_at_lem, parts_nodes_long R (take i bs), length-take-le i bs g.within))
              (omega (arith, g.row_at, parts_rows_long R (take i bs) inside))
              (p R h (omega (arith, sized.inside))));
        }

  pub going_end : i ≡ length (windows_of n max stride d) → (R : List Row) → RowsAt rows j R → length R ≡ n → Put (map (stretch_of R) (windows_of n max stride d)) nodes₀ a rows₀ b nodes₁ rows₁
  going_end e R h l =
      let bs = windows_of n max stride d in
      subst (λ (cs : List Bounds). Put (map (stretch_of R) cs) nodes₀ a rows₀ b nodes₁ rows₁) (ap (λ (m : ℕ). take m bs) e ∙ take-length bs) (g.put R h l)
