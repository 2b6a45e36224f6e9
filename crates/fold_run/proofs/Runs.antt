-- A run that is found: one encoding without windows more.
-- Assumes nothing.
use mathlib.Core.Path.{◌≡◌, refl, sym, ap, subst, ◌∙◌}
use mathlib.Core.List.{List, [], ◌∷◌, ◌++◌, append_assoc}
use Prim.Native.Nat.{ℕ, ◌+◌, ◌*◌, ◌≤◌, ◌<◌}
use native.Mathlib.Omega.{arith}
use lib.ListN.{length, get_or}
use Rattle.record.specs.Tree.{Forest, none, node, Encoding, listed, forest, windows}
use Rattle.record.specs.Flat.{node_width}
use Rattle.record.specs.WellFormed.{rows_in}
use Rattle.record.specs.Passing.{NodesToCome}
use Rattle.record.proofs.Tree.{forest_listed}
use Rattle.record.proofs.Counts.{nodes_append, rows_append}
use Rattle.record.proofs.Passing.{nodes_left, coming_size, coming_windows, coming_fits, coming_next}
use Rattle.lists.proofs.All.{all_append}
use Rattle.fold_run.specs.declared.Run.{Run}
use Rattle.fold_run.specs.Promises.{BeginsWith}

abbrev pub sized : ℕ → ℕ → Run
sized n m = record { nodes = n; rows = m }

module _ {nodes : List ℕ} {i : ℕ} {f : Forest} where
  -- at first there is none
  pub begins_none : NodesToCome nodes i f → BeginsWith nodes i f (sized 0 0)
  begins_none h = record { run = []; rest = f; split = refl; bare = tt; nodes_size = refl; rows_size = refl; coming = subst (λ (k : ℕ). NodesToCome nodes k f) (omega arith) h }

  -- it has no more rows than all
  pub begins_few : {n m : ℕ} → BeginsWith nodes i f (sized n m) → m ≤ rows_in f
  begins_few b = omega (arith, b.rows_size, rows_append b.run (listed b.rest), ap (λ (l : List Encoding). rows_in (forest l)) b.split, ap rows_in (forest_listed f))

  module _ {n m at : ℕ} (b : BeginsWith nodes i f (sized n m)) (e : at ≡ i + n * node_width) where
    -- the next is there, where nodes are left
    pub next_stands : at < length nodes → at + node_width ≤ length nodes
    next_stands l = go b.rest b.coming
      where
        go : (y : Forest) → NodesToCome nodes (i + n * node_width) y → at + node_width ≤ length nodes
        go none h = absurd (omega (arith, nodes_left h))
        go (node r q w x) h = omega (arith, coming_fits h)

    -- which belongs to it if it has no windows
    pub begins_more : at < length nodes → get_or nodes (at + 1) 0 ≡ 0 → BeginsWith nodes i f (sized (n + 1) (m + get_or nodes at 0))
    begins_more l z = go b.rest b.coming b.split
      where
        go : (y : Forest) → NodesToCome nodes (i + n * node_width) y → listed f ≡ b.run ++ listed y → BeginsWith nodes i f (sized (n + 1) (m + get_or nodes at 0))
        go none h s = absurd (omega (arith, nodes_left h))
        go (node r q (node r' q' w' x') x) h s = absurd (omega (arith, coming_windows h, ap (λ (k : ℕ). get_or nodes (k + 1) 0) e))
        go (node r q none x) h s =
            let E : Encoding = record { rows = r; ranges = q; below = none } in
            record {
              run = b.run ++ E ∷ [];
              rest = x;
              split = s ∙ sym (append_assoc b.run (E ∷ []) (listed x));
              bare = all_append (λ (P : Encoding). windows P ≡ []) b.run (E ∷ []) b.bare (refl, tt);
              nodes_size = omega (arith, b.nodes_size, nodes_append b.run (E ∷ []));
              rows_size = omega (arith, b.rows_size, rows_append b.run (E ∷ []), coming_size h, ap (λ (k : ℕ). get_or nodes k 0) e);
              coming = subst (λ (k : ℕ). NodesToCome nodes k x) (omega arith) (coming_next h);
            }
