-- A fold of a batch on its way: where in the batch those encodings stand that are left.
-- Assumes nothing.
use mathlib.Core.Path.{◌≡◌, sym, ap, subst}
use mathlib.Core.Bool.{Bool}
use mathlib.Core.List.{List, [], ◌∷◌}
use Prim.Native.Nat.{ℕ, ◌+◌, ◌*◌, ◌≤◌, ◌<◌}
use native.Mathlib.Omega.{arith}
use lib.ListN.{length}
use Rattle.record.specs.Tree.{Forest, none, node, Encoding, listed, forest, empty}
use Rattle.record.specs.Flat.{row_width, node_width}
use Rattle.record.specs.WellFormed.{Stores, nodes_in}
use Rattle.record.specs.Standing.{Here, Put, spot}
use Rattle.record.proofs.Flat.{length_nodes}
use Rattle.record.proofs.Here.{here_first, here_next, here_nodes_fit, here_rows_fit}
use Rattle.record.proofs.Read.{unique}
use Rattle.record.proofs.Standing.{at_top}
use Rattle.join_trees.specs.Join.{fold}
use Rattle.record_extent.specs.declared.Extent.{Extent}
use Rattle.record_extent.specs.Size.{size_of}
use Rattle.record_extent.specs.Promises.{Stands}
use Rattle.record_extent.proofs.Stands.{here_stands}
use Rattle.join_view.specs.declared.View.TheVariants.{Plain}
use Rattle.join_view.specs.View.{seen}
use Rattle.join_view.proofs.Seen.{seen_plain}
use Rattle.fold_over.specs.Promises.{AskStep, WritesStep}
use Rattle.fold_step.proofs.Folding.{Folding, folding_start, step_asks, step_more, folding_end}
use Rattle.fold_each.specs.Promises.{AskFold, WritesFold}

-- out, out', working and working' are the four lent lists as the loop finds them, now, now', used and used' as they are.
pub record Going (nodes rows : List ℕ) (g : Bool) (out out' working working' now now' used used' : List ℕ) (i j : ℕ) : Type 0 where
  pub f : Forest
  pub stores : Stores nodes rows f
  pub left : Forest
  pub here : Here nodes rows i j left
  pub ends : i + nodes_in left * node_width ≡ length nodes
  pub folding : Folding g (listed f) (listed left) out out' working working' now now' used used'

-- at first, once the empty encoding is written
pub going_start : {nodes rows entry entry' working working' out out' : List ℕ} {g : Bool} → AskFold nodes rows g entry entry' working working' → Put (empty ∷ []) entry 0 entry' 0 out out' → Going nodes rows g out out' working working' out out' working working' 0 0
going_start {nodes} {rows} {g = g} a p =
    record {
      f = a.f;
      stores = a.stores;
      left = a.f;
      here = record { at = at_top nodes rows a.f a.stores; on = omega arith; well = a.stores.well };
      ends = omega (arith, ap length a.stores.nodes_are, length_nodes a.f a.stores.well.fine);
      folding = folding_start g (listed a.f) a.room a.within a.working_room p;
    }

-- The one that is next, where nodes are left.
pub record Next (nodes rows : List ℕ) (g : Bool) (out out' working working' now now' used used' : List ℕ) (i j : ℕ) : Type 0 where
  pub f : Forest
  pub stores : Stores nodes rows f
  pub P : Encoding
  pub rest : Forest
  pub here : Here nodes rows i j (node P.rows P.ranges P.below rest)
  pub ends : i + nodes_in (node P.rows P.ranges P.below rest) * node_width ≡ length nodes
  pub folding : Folding g (listed f) (seen Plain P ∷ listed rest) out out' working working' now now' used used'

module _ {nodes rows out out' working working' now now' used used' : List ℕ} {g : Bool} {i j : ℕ} where
  pub going_next : Going nodes rows g out out' working working' now now' used used' i j → i < length nodes → Next nodes rows g out out' working working' now now' used used' i j
  going_next s l = go s.left s.here s.ends s.folding
    where
      go : (f : Forest) → Here nodes rows i j f → i + nodes_in f * node_width ≡ length nodes → Folding g (listed s.f) (listed f) out out' working working' now now' used used' → Next nodes rows g out out' working working' now now' used used' i j
      go none h e t = absurd (omega arith)
      go (node r q w x) h e t =
          let P : Encoding = record { rows = r; ranges = q; below = w } in
          let plain = subst (λ (E : Encoding). Folding g (listed s.f) (E ∷ listed x) out out' working working' now now' used used') (sym (seen_plain P)) t in
          record { f = s.f; stores = s.stores; P = P; rest = x; here = h; ends = e; folding = plain }

  module _ (n : Next nodes rows g out out' working working' now now' used used' i j) where
    next_here : Here nodes rows i j (forest (n.P ∷ []))
    next_here = here_first n.here

    pub next_asks : AskStep nodes rows (spot i j) Plain g now now' used used'
    next_asks = step_asks Plain n.folding next_here tt

    pub next_stands : Stands nodes i 1 (forest (n.P ∷ []))
    next_stands = here_stands next_here

    module _ {own : Extent} (e : own ≡ size_of (forest (n.P ∷ []))) where
      own_nodes : own.nodes ≡ (size_of (forest (n.P ∷ []))).nodes
      own_nodes = ap (λ (s : Extent). s.nodes) e

      own_rows_lem : own.rows ≡ (size_of (forest (n.P ∷ []))).rows
      own_rows_lem = ap (λ (s : Extent). s.rows) e

      pub next_size : (0 < own.nodes) × (i + own.nodes * node_width ≤ length nodes) × (j + own.rows * row_width ≤ length rows)
      next_size = (omega (arith, own_nodes), omega (arith, own_nodes, here_nodes_fit next_here), omega (arith, own_rows_lem, here_rows_fit next_here))

      -- it was folded
      pub going_more : {now₁ now₁' used₁ used₁' : List ℕ} → WritesStep nodes rows (spot i j) Plain g now now' now₁ now₁' → length used₁ ≡ length used → length used₁' ≡ length used'
          → Going nodes rows g out out' working working' now₁ now₁' used₁ used₁' (i + own.nodes * node_width) (j + own.rows * row_width)
      going_more wrote a b =
          record {
            f = n.f;
            stores = n.stores;
            left = n.rest;
            here = rw (own_nodes, own_rows_lem) (here_next n.here);
            ends = omega (arith, n.ends, own_nodes);
            folding = step_more Plain n.folding next_here wrote a b;
          }

  -- none is left
  pub going_end : {entry entry' : List ℕ} → Going nodes rows g out out' working working' now now' used used' i j → length nodes ≤ i → Put (empty ∷ []) entry 0 entry' 0 out out' → WritesFold nodes rows g entry entry' now now'
  going_end {entry} {entry'} s l p = go s.left s.ends s.folding
    where
      go : (f : Forest) → i + nodes_in f * node_width ≡ length nodes → Folding g (listed s.f) (listed f) out out' working working' now now' used used' → WritesFold nodes rows g entry entry' now now'
      go (node r q w x) e t = absurd (omega arith)
      go none e t = λ f stores. subst (λ (h : Forest). Put (fold g (listed h) ∷ []) entry 0 entry' 0 now now') (unique nodes rows s.f f s.stores stores) (folding_end t p)
