-- Encodings one after another that stand at a place: the first of them, and those after these.
-- Assumes nothing.
use mathlib.Core.Path.{◌≡◌, ap, subst, ◌∙◌}
use mathlib.Core.List.{List, [], ◌∷◌, ◌++◌, append_assoc}
use Prim.Native.Nat.{ℕ, ◌+◌, ◌*◌}
use native.Mathlib.Omega.{arith}
use Rattle.record.specs.Tree.{Forest, Encoding, listed, forest, node, none}
use Rattle.record.specs.Flat.{row_width, node_width, flat_nodes, flat_rows}
use Rattle.record.specs.WellFormed.{Fine, nodes_in, rows_in}
use Rattle.record.specs.Standing.{Here}
use Rattle.record.proofs.Flat.{flat_nodes_append, flat_rows_append}
use Rattle.record.proofs.Tree.{forest_listed}
use Rattle.record.proofs.Counts.{nodes_append, rows_append}
use Rattle.record.proofs.Here.{here_next}
use Rattle.join_trees.proofs.Sizes.{levels_append}

pub fine_first : (xs ys : List Encoding) → Fine (forest (xs ++ ys)) → Fine (forest xs)
fine_first [] ys h = tt
fine_first (E ∷ xs) ys (n, w, x) = (n, w, fine_first xs ys x)

module _ {nodes rows : List ℕ} where
  pub here_firsts : {i j : ℕ} (xs ys : List Encoding) → Here nodes rows i j (forest (xs ++ ys)) → Here nodes rows i j (forest xs)
  here_firsts xs ys h =
      record {
        at = record {
          rest = flat_nodes (forest ys) ++ h.at.rest;
          is = h.at.is ∙ ap (◌++ h.at.rest) (flat_nodes_append xs ys) ∙ append_assoc (flat_nodes (forest xs)) (flat_nodes (forest ys)) h.at.rest;
          rest_rows = flat_rows (forest ys) ++ h.at.rest_rows;
          is_rows = h.at.is_rows ∙ ap (◌++ h.at.rest_rows) (flat_rows_append xs ys) ∙ append_assoc (flat_rows (forest xs)) (flat_rows (forest ys)) h.at.rest_rows;
        };
        on = h.on;
        well = record {
          fine = fine_first xs ys h.well.fine;
          fits = record {
            few_nodes = omega (arith, h.well.fits.few_nodes, nodes_append xs ys);
            few_rows = omega (arith, h.well.fits.few_rows, rows_append xs ys);
            few_levels = omega (arith, h.well.fits.few_levels, levels_append xs ys);
          };
        };
      }

  -- places that are equal
  here_at : {i j i' j' : ℕ} {f : Forest} → i ≡ i' → j ≡ j' → Here nodes rows i j f → Here nodes rows i' j' f
  here_at {j = j} {i' = i'} {f = f} a b h = subst (λ (k : ℕ). Here nodes rows i' k f) b (subst (λ (k : ℕ). Here nodes rows k j f) a h)

  pub here_rest : {i j : ℕ} (xs : List Encoding) (f : Forest) → Here nodes rows i j (forest (xs ++ listed f)) → Here nodes rows (i + nodes_in (forest xs) * node_width) (j + rows_in (forest xs) * row_width) f
  here_rest {i} {j} [] f h = here_at (omega arith) (omega arith) (subst (λ (y : Forest). Here nodes rows i j y) (forest_listed f) h)
  here_rest {i} {j} (E ∷ xs) f h = here_at (omega arith) (omega arith) (here_rest {i = i + nodes_in (node E.rows E.ranges E.below none) * node_width} {j = j + rows_in (node E.rows E.ranges E.below none) * row_width} xs f (here_next h))
