-- One or two encodings that stand one after another at the front of a record.
-- Assumes nothing.
use mathlib.Core.Path.{◌≡◌, ap, subst}
use mathlib.Core.Option.{Option, none as nothing, some}
use Prim.Native.Nat.{ℕ, ◌+◌, ◌*◌, ◌≤◌}
use native.Mathlib.Omega.{arith}
use mathlib.Core.List.{List, [], ◌∷◌}
use lib.ListN.{length}
use Rattle.record.specs.Tree.{Encoding, forest}
use Rattle.record.specs.Flat.{row_width, node_width}
use Rattle.record.specs.WellFormed.{nodes_in, rows_in, most_nodes, most_rows}
use Rattle.record.specs.Standing.{OneOrTwo, Here, with_second}
use Rattle.record.proofs.Flat.{length_nodes}
use Rattle.record.proofs.Standing.{at_top}
use Rattle.record.proofs.Here.{here_first, here_next}
use Rattle.record_extent.specs.Size.{size_of}
use Rattle.record_extent.specs.declared.Extent.{Extent}

-- ---- Those that a record stores

module _ {nodes rows : List ℕ} {E : Encoding} {second : Option Encoding} (h : OneOrTwo nodes rows E second) where
  pub pair_here : Here nodes rows 0 0 (forest (with_second E second))
  pair_here = record { at = at_top nodes rows (forest (with_second E second)) h.stores; on = omega arith; well = h.stores.well }

-- the first of them
pub first_here : {nodes rows : List ℕ} {E : Encoding} (second : Option Encoding) → OneOrTwo nodes rows E second → Here nodes rows 0 0 (forest (E ∷ []))
first_here nothing h = pair_here h
first_here (some F) h = here_first (pair_here h)

-- an encoding that stands there holds no more than a batch may
pub few_held : {nodes rows : List ℕ} {i j : ℕ} {E : Encoding} {own : Extent} → Here nodes rows i j (forest (E ∷ [])) → own ≡ size_of (forest (E ∷ [])) → (own.nodes ≤ most_nodes) × (own.rows ≤ most_rows)
few_held h e = (omega (arith, h.well.fits.few_nodes, ap (λ (s : Extent). s.nodes) e), omega (arith, h.well.fits.few_rows, ap (λ (s : Extent). s.rows) e))

-- ---- The second, where the first ends

module _ {nodes rows : List ℕ} {E F : Encoding} (h : Here nodes rows 0 0 (forest (E ∷ F ∷ []))) {own : Extent} (e : own ≡ size_of (forest (E ∷ []))) where
  pub second_here : Here nodes rows (own.nodes * node_width) (own.rows * row_width) (forest (F ∷ []))
  second_here =
      let a : 0 + nodes_in (forest (E ∷ [])) * node_width ≡ own.nodes * node_width = omega (arith, ap (λ (s : Extent). s.nodes) e) in
      let b : 0 + rows_in (forest (E ∷ [])) * row_width ≡ own.rows * row_width = omega (arith, ap (λ (s : Extent). s.rows) e) in
      subst (λ (i : ℕ). Here nodes rows i (own.rows * row_width) (forest (F ∷ []))) a
      (subst (λ (j : ℕ). Here nodes rows (0 + nodes_in (forest (E ∷ [])) * node_width) j (forest (F ∷ []))) b (here_next h))

-- or the end of the nodes
pub second_ends : {nodes rows : List ℕ} {E : Encoding} → OneOrTwo nodes rows E nothing → {own : Extent} → own ≡ size_of (forest (E ∷ [])) → length nodes ≤ own.nodes * node_width
second_ends {nodes} {rows} {E} h e = omega (arith, ap length h.stores.nodes_are, length_nodes (forest (E ∷ [])) h.stores.well.fine, ap (λ (s : Extent). s.nodes) e)
