-- What a cut makes of a well-formed encoding is well-formed, save for the limits.
-- Assumes nothing.
use mathlib.Core.Path.{refl}
use mathlib.Core.Bool.{Bool, true, false, cond}
use mathlib.Core.Logic.{inl}
use Prim.Native.Nat.{ℕ, ◌-◌}
use mathlib.Core.List.{List, [], ◌∷◌, map}
use lib.Dec.{leb, eqb}
use lib.ListN.{length, drop, replicate}
use Rattle.record.specs.Tree.{Row, Encoding, forest, sequences, absent}
use Rattle.lists.specs.Lists.{All}
use Rattle.record.specs.WellFormed.{RangeFine, RowFine, NodeFine, Fine, FineEncoding}
use Rattle.cut_plan.specs.Cut.{windows_of}
use Rattle.cut_plan.specs.declared.Direction.{Direction}
use Rattle.record.specs.declared.Bounds.{Bounds}
use Rattle.cut_windows.specs.Made.{plain, stretch_of, gathered}
use Rattle.truncate_write.specs.Truncated.{truncated}
use Rattle.lists.proofs.All.{all_replicate}
use Rattle.lists.proofs.Parts.{all_take, all_drop}

plain_fine : (r : List Row) → All RowFine r → NodeFine r (replicate sequences absent)
plain_fine r h = record { places = refl; ranges_fine = all_replicate (RangeFine (length r)) sequences absent (inl refl); rows_fine = h }

module _ (R : List Row) (h : All RowFine R) where
  part_fine : (b : Bounds) → NodeFine (stretch_of R b).rows (replicate sequences absent)
  part_fine b = plain_fine (stretch_of R b).rows (all_take RowFine (b.end - b.start) (drop b.start R) (all_drop RowFine b.start R h))

  parts_fine : (bs : List Bounds) → Fine (forest (map (stretch_of R) bs))
  parts_fine [] = tt
  parts_fine (b ∷ bs) = (part_fine b, tt, parts_fine bs)

  gathered_fine : (bs : List Bounds) → FineEncoding (gathered (map (stretch_of R) bs))
  gathered_fine [] = (plain_fine [] tt, tt)
  gathered_fine (b ∷ bs) = (part_fine b, parts_fine bs)

pub truncated_fine : (max stride : ℕ) (d : Direction) (E : Encoding) → FineEncoding E → FineEncoding (truncated max stride d E)
unfolding truncated
truncated_fine max stride d E h = go (leb (length E.rows) max) (eqb max 0)
  where
    go : (s t : Bool) → FineEncoding (cond s E (cond t (plain [] (E ∷ [])) (gathered (map (stretch_of E.rows) (windows_of (length E.rows) max stride d)))))
    go true t = h
    go false true = (plain_fine [] tt, (h.0, h.1, tt))
    go false false = gathered_fine E.rows h.0.rows_fine (windows_of (length E.rows) max stride d)
