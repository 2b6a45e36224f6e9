-- The join with special rows lengthens every node, and what that keeps.
-- Assumes nothing.
use mathlib.Core.Path.{◌≡◌, refl, sym, ap, ap₂, ◌∙◌}
use mathlib.Core.Bool.{false}
use Prim.Native.Nat.{suc}
use mathlib.Core.List.{List, [], ◌∷◌, ◌++◌}
use lib.ListN.{length, replicate}
use Rattle.record.specs.Tree.{Row, Range, Forest, none, node, Encoding, encoding, forest, tops, sequences, absent, empty}
use Rattle.record.specs.WellFormed.{NodeFine, Fine}
use Rattle.join_trees.specs.Join.{join_rows, join_ranges, join}
use Rattle.join_trees.proofs.Join.{join_ranges_lem}
use Rattle.join_trees.proofs.Units.{moved_zeros, right_unit}
use Rattle.join_trees.proofs.Windowless.{join_along, join_windowless}
use Rattle.record.specs.Passing.{followed}
use Rattle.process_special_rows.specs.Lengthened.{lengthened}

-- ranges that are all absent leave those of a node as they are: so do the ranges of the empty encoding, the right unit
ranges_kept : (r : List Row) (q : List Range) → NodeFine r q → join_ranges (length r) q (replicate sequences absent) ≡ q
ranges_kept r q n =
    let E : Encoding = encoding r q [] in
    sym (join_ranges_lem false E empty) ∙ ap (λ (E : Encoding). E.ranges) (right_unit false E (n, tt))

module _ (new : List Row) where
  -- in a join that does not grow rows stand after the others as they are
  rows_after : (r : List Row) → join_rows false r new ≡ r ++ new
  rows_after r = ap (r ++◌) (moved_zeros new)

  along_lengthens : (f : Forest) → Fine f → join_along false new (replicate sequences absent) f ≡ lengthened new f
  along_lengthens none h = refl
  along_lengthens (node r q w x) (n, hw, hx) =
      ap₂ (λ (r' : List Row) (q' : List Range). node r' q' (join_along false new (replicate sequences absent) w) (join_along false new (replicate sequences absent) x)) (rows_after r) (ranges_kept r q n)
      ∙ ap₂ (node (r ++ new) q) (along_lengthens w hw) (along_lengthens x hx)

  -- joined with rows that have no ranges and no windows, and without growing, every node gets them after its own
  pub join_lengthens : (S : Encoding) → Fine (forest (S ∷ [])) → forest (join false S (encoding new (replicate sequences absent) []) ∷ []) ≡ lengthened new (forest (S ∷ []))
  join_lengthens S h = join_windowless false new (replicate sequences absent) S ∙ along_lengthens (forest (S ∷ [])) h

  pub lengthened_tops : (f : Forest) → tops (lengthened new f) ≡ tops f
  lengthened_tops none = refl
  lengthened_tops (node r q w x) = ap suc (lengthened_tops x)

  pub followed_lengthened : (f y : Forest) → lengthened new (followed f y) ≡ followed (lengthened new f) (lengthened new y)
  followed_lengthened none y = refl
  followed_lengthened (node r q w x) y = ap (node (r ++ new) q (lengthened new w)) (followed_lengthened x y)
