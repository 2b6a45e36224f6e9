-- The numbers of rows moved on: those of the rows with a block of shifts added, and the same if moved on by nothing.
-- Assumes nothing.
use mathlib.Core.Path.{◌≡◌, refl, sym, ap, subst, ◌∙◌}
use mathlib.Core.List.{List, [], ◌∷◌, ◌++◌, flat_map, map}
use Prim.Native.Nat.{ℕ, zero, suc, ◌+◌, ◌*◌, ◌≤◌}
use native.Mathlib.Nat.{add-zero}
use native.Mathlib.Omega.{arith}
use lib.ListN.{length, get_or, take, drop, replicate, length-replicate}
use lib.Seq.{sets, take_at, get_or-drop}
use Rattle.lists.specs.Lists.{All}
use Rattle.record.specs.Tree.{Row}
use Rattle.record.specs.Flat.{row_width, row_numbers}
use Rattle.record.proofs.Flat.{length_numbers, row_stored}
use Rattle.join_trees.specs.Join.{moved}
use Rattle.join_trees.specs.Offsets.{most_offset, MovedWithin}
use Rattle.join_trees.proofs.Units.{moved_zeros}
use Rattle.join_add.specs.Promises.{sums}
use Rattle.join_shift.specs.Promises.{Shifts, shift, shifts}

pub shifts_long : (n t : ℕ) → length (shifts n t) ≡ t * row_width
shifts_long n t = length_numbers row_stored (replicate t (shift n)) ∙ ap (◌* row_width) (length-replicate t (shift n))

pub added_rows : (n t : ℕ) (B : List Row) → length B ≤ t → sums (flat_map row_numbers B) (shifts n t) ≡ flat_map row_numbers (map (moved n) B)
unfolding sums flat_map row_numbers
added_rows n t [] h = refl
added_rows n zero (r ∷ B) h = absurd (omega arith)
added_rows n (suc t) (r ∷ B) h = simp add-zero (ap (row_numbers (moved n r) ++◌) (added_rows n t B (omega arith)))

-- a number of 32 bits
abbrev pub Small : ℕ → Type 0
Small x = x ≤ most_offset

-- rows whose numbers are of 32 bits, and whose offsets stay so when moved on
pub moved_small : (n : ℕ) (B : List Row) (l : List ℕ) → MovedWithin n B → ((k : ℕ) → Small (get_or (flat_map row_numbers B ++ l) k 0)) → All Small (flat_map row_numbers (map (moved n) B))
unfolding flat_map row_numbers
moved_small n [] l w s = tt
moved_small n (r ∷ B) l (w, ws) s = (s 0, (s 1, (s 2, (s 3, (s 4, (s 5, (s 6, (w.0, (w.1, (s 9, (s 10, moved_small n B l ws (λ k. subst Small (sym (get_or-drop row_width (flat_map row_numbers (r ∷ B) ++ l) k 0)) (s (row_width + k))))))))))))))

-- moved on by nothing they are copied
pub copied : {rows out out' : List ℕ} {j count n at : ℕ} → n ≡ 0 → out' ≡ sets out at (take (count * row_width) (drop j rows)) → Shifts rows j count n out at out'
copied {out = out} {count = count} {at = at} z e =
    record {
      made = λ R h k.
          e
          ∙ ap (sets out at)
          (ap (take (count * row_width)) h.is
          ∙ take_at (flat_map row_numbers R) h.rest (count * row_width) (length_numbers row_stored R ∙ ap (◌* row_width) k)
          ∙ sym (ap (flat_map row_numbers) (ap (λ (m : ℕ). map (moved m) R) z ∙ moved_zeros R)));
    }
