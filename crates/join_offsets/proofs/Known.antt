-- Numbers of 32 bits: the offsets of encodings that a list of them stores stay within.
-- Assumes nothing.
use mathlib.Core.Path.{sym, subst, ◌∙◌}
use Prim.Native.Nat.{ℕ, ◌+◌, ◌≤◌}
use mathlib.Core.List.{List, [], ◌∷◌, ◌++◌, flat_map, append_assoc, append-nil}
use lib.ListN.{length, get_or}
use lib.Seq.{get_or-append-add, get_or-drop}
use Rattle.record.specs.Tree.{Row, Forest, none, node}
use Rattle.lists.specs.Lists.{All}
use Rattle.record.specs.Flat.{row_numbers, flat_rows}
use Rattle.record.specs.WellFormed.{Stores}
use Rattle.record.specs.Standing.{Here}
use Rattle.join_trees.specs.Offsets.{most_offset}
use Rattle.join_trees.proofs.Offsets.{RowFits, OffsetsFit}

-- every number of a list
abbrev Small : List ℕ → Type 0
Small l = (i : ℕ) → get_or l i 0 ≤ most_offset

small_last : (s t : List ℕ) → Small (s ++ t) → Small t
small_last s t h i = subst (λ (n : ℕ). n ≤ most_offset) (get_or-append-add s t i 0) (h (length s + i))

rows_small : (rs : List Row) (l : List ℕ) → Small (flat_map row_numbers rs ++ l) → All RowFits rs
unfolding flat_map row_numbers
rows_small [] l h = tt
rows_small (r ∷ rs) l h = ((h 7, h 8), rows_small rs l (small_last (row_numbers r) (flat_map row_numbers rs ++ l) h))

offsets_small : (f : Forest) (l : List ℕ) → Small (flat_rows f ++ l) → OffsetsFit f
unfolding flat_rows
offsets_small none l h = tt
offsets_small (node r q w x) l h =
    let own : Small (flat_map row_numbers r ++ (flat_rows w ++ (flat_rows x ++ l))) = simp append_assoc at h in
    let below : Small (flat_rows w ++ (flat_rows x ++ l)) = small_last (flat_map row_numbers r) (flat_rows w ++ (flat_rows x ++ l)) own in
    (rows_small r (flat_rows w ++ (flat_rows x ++ l)) own, offsets_small w (flat_rows x ++ l) below, offsets_small x l (small_last (flat_rows w) (flat_rows x ++ l) below))

pub stored_fits : {nodes rows : List ℕ} {f : Forest} → Stores nodes rows f → ((i : ℕ) → get_or rows i 0 ≤ most_offset) → OffsetsFit f
stored_fits {nodes} {rows} {f} s h = offsets_small f [] (subst Small (sym (append-nil (flat_rows f) ∙ s.rows_are)) h)

-- or that stand at a place of it
pub here_fits : {nodes rows : List ℕ} {i j : ℕ} {f : Forest} → Here nodes rows i j f → ((k : ℕ) → get_or rows k 0 ≤ most_offset) → OffsetsFit f
here_fits {nodes} {rows} {i} {j} {f} s h = offsets_small f s.at.rest_rows (subst Small s.at.is_rows (λ k. rw (get_or-drop j rows k 0) (h (j + k))))
