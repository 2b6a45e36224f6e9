-- The search for the entry of an id, from the last entry on; where the id of an entry lies; and what is found, of the table.
-- Assumes nothing.
use mathlib.Core.Path.{◌≡◌, refl}
use mathlib.Core.Bool.{Bool, true, false}
use mathlib.Core.Option.{none as nothing, some}
use Prim.Native.Nat.{ℕ, ◌+◌, ◌-◌, ◌*◌, ◌/◌, ◌≤◌, ◌<◌}
use native.Mathlib.Nat.{add-sub_cancel_left, sub-zero}
use native.Mathlib.Omega.{arith}
use mathlib.Core.List.{List}
use lib.Dec.{leb}
use lib.ListN.{length, get_or, take, drop}
use borrow.Author.Tests.{leb-true, leb-false}
use Rattle.lookup_ranges.specs.First.{last_from}
use Rattle.lookup_ranges.proofs.First.{last_is, nothing_last}
use Rattle.lists.proofs.All.{all_at}
use Rattle.template_pieces.specs.Piece.{same}
use Rattle.template_entries.specs.Table.{Entry, entry_width, no_entry, entries_in}
use Rattle.template_find.specs.Promises.{entry_has_id, IdsInside}
use Rattle.template_entries.proofs.Entries.{entries_number, entry_is}

-- ---- From the last element on

-- The test holds of no element from place i on.
pub record Searching {A : Type 0} (t : A → Bool) (xs : List A) (d : A) (i : ℕ) : Type 0 where
  pub inside : i ≤ length xs
  pub none_after : (j : ℕ) → i ≤ j → j < length xs → t (get_or xs j d) ≡ false

module _ {A : Type 0} (t : A → Bool) (xs : List A) (d : A) where
  pub search_start : {i : ℕ} → i ≡ length xs → Searching t xs d i
  search_start e = record { inside = omega arith; none_after = λ j h l. absurd (omega arith) }

  module _ {i : ℕ} (s : Searching t xs d i) where
    pub search_end : i ≤ 0 → last_from t 0 xs ≡ nothing
    search_end h = nothing_last t d 0 xs (λ j l. s.none_after j (omega arith) l)

    module _ (h : 0 < i) where
      pub search_found : t (get_or xs (i - 1) d) ≡ true → last_from t 0 xs ≡ some (i - 1)
      search_found e = last_is t d 0 xs (i - 1) (record { from = omega arith; inside = omega (arith, s.inside); holds = rw sub-zero e; none_after = λ j a l. s.none_after j (omega arith) l })

      pub search_on : t (get_or xs (i - 1) d) ≡ false → Searching t xs d (i - 1)
      search_on e = record { inside = omega (arith, s.inside); none_after = λ j a l. go j a l (leb i j) refl }
        where
          go : (j : ℕ) → i - 1 ≤ j → j < length xs → (after : Bool) → leb i j ≡ after → t (get_or xs j d) ≡ false
          go j a l true b = s.none_after j (leb-true i j b) l
          go j a l false b = let here : j ≡ i - 1 = omega (arith, leb-false i j b) in rw here e

-- ---- The id of an entry

module _ {entries added : List ℕ} {k : ℕ} (ids : IdsInside entries added) (h : k < length entries / entry_width) where
  abbrev start : ℕ
  start = get_or entries (k * entry_width + 0) 0

  abbrev size : ℕ
  size = get_or entries (k * entry_width + 1) 0

  pub id_inside : start + size ≤ length added
  id_inside = rw (entry_is entries k h) at (all_at (λ (e : Entry). e.id_start + e.id_length ≤ length added) (entries_in entries) k no_entry (omega (arith, entries_number entries)) ids.inside)

  pub id_same : (id : List ℕ) {end : ℕ} → end ≡ start + size → same (take (end - start) (drop start added)) id ≡ entry_has_id added id (get_or (entries_in entries) k no_entry)
  id_same id e = rw (entry_is entries k h, e, add-sub_cancel_left)
