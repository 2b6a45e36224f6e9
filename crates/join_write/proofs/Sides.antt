-- Encodings one after another: each part is fine and within the limits if the whole is.
-- Assumes nothing.
use mathlib.Core.List.{List, [], ◌∷◌, ◌++◌}
use native.Mathlib.Omega.{arith}
use Rattle.record.specs.Tree.{Encoding, forest}
use Rattle.record.specs.WellFormed.{Fine, Fits}
use Rattle.record.proofs.Counts.{nodes_append, rows_append}
use Rattle.join_trees.proofs.Each.{each_first, each_last}
use Rattle.join_trees.proofs.Offsets.{RowsFit, OffsetsFit}
use Rattle.join_trees.proofs.Sizes.{levels_append}

-- fine, with offsets within 32 bits, and within the limits
pub record Sound (fs : List Encoding) : Type 0 where
  pub fine : Fine (forest fs)
  pub within : OffsetsFit (forest fs)
  pub limits : Fits (forest fs)

fine_parts : (xs ys : List Encoding) → Fine (forest (xs ++ ys)) → Fine (forest xs) × Fine (forest ys)
fine_parts [] ys t = (tt, t)
fine_parts (E ∷ xs) ys (n, w, x) = let p = fine_parts xs ys x in ((n, w, p.0), p.1)

module _ (xs ys : List Encoding) where
  pub fine_first : Fine (forest (xs ++ ys)) → Fine (forest xs)
  fine_first t = (fine_parts xs ys t).0

  pub sound_first : Sound (xs ++ ys) → Sound xs
  sound_first s =
      record {
        fine = fine_first s.fine;
        within = each_first RowsFit xs ys s.within;
        limits = record {
          few_nodes = omega (arith, nodes_append xs ys, s.limits.few_nodes);
          few_rows = omega (arith, rows_append xs ys, s.limits.few_rows);
          few_levels = omega (arith, levels_append xs ys, s.limits.few_levels);
        };
      }

  pub sound_last : Sound (xs ++ ys) → Sound ys
  sound_last s =
      record {
        fine = (fine_parts xs ys s.fine).1;
        within = each_last RowsFit xs ys s.within;
        limits = record {
          few_nodes = omega (arith, nodes_append xs ys, s.limits.few_nodes);
          few_rows = omega (arith, rows_append xs ys, s.limits.few_rows);
          few_levels = omega (arith, levels_append xs ys, s.limits.few_levels);
        };
      }
