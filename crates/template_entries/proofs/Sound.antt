-- A table that is not refused: what its numbers are, and the special id that the search for an entry finds.
-- Assumes nothing.
use mathlib.Core.Path.{◌≡◌, refl}
use mathlib.Core.Bool.{Bool, true, false, cond}
use Prim.Native.Nat.{ℕ, ◌+◌, ◌/◌, ◌%◌, ◌≤◌}
use native.Mathlib.Omega.{arith}
use mathlib.Core.List.{List, map}
use lib.ListN.{length}
use Rattle.lists.specs.Lists.{All}
use Rattle.record.specs.Read.{all_ok}
use Rattle.record.specs.declared.Refusal.TheVariants.{IdsAndTextsDiffer, MalformedTable}
use Rattle.record.proofs.WellFormed.{Tells, tells_le, tells_eq, tells_and, tells_all}
use Rattle.template_entries.specs.Table.{Entry, Member, Special, entry_width, member_width, most_entries, entries_in, members_in, entry_ok, member_ok, well_made, agrees, special_of, faulty, sound, read_table}

-- ---- What is so of every table that is not refused

abbrev pub EntryFits : ℕ → ℕ → Entry → Type 0
EntryFits count pool e = (e.id_start + e.id_length ≤ pool) × (e.first + e.ids ≤ count)

abbrev MemberFits : ℕ → Member → Type 0
MemberFits pool m = m.text_start + m.text_length ≤ pool

pub record TableHolds (entries members added : List ℕ) (table : List Special) : Type 0 where
  pub few : length entries / entry_width ≤ most_entries
  pub entries_fit : All (EntryFits (length members / member_width) (length added)) (entries_in entries)
  pub members_fit : All (MemberFits (length added)) (members_in members)
  pub table_is : table ≡ map (special_of (members_in members) added) (entries_in entries)

abbrev Made : List ℕ → List ℕ → ℕ → Type 0
Made entries members pool =
    (length entries % entry_width ≡ 0)
    × ((length members % member_width ≡ 0)
    × ((length entries / entry_width ≤ most_entries) × (All (EntryFits (length members / member_width) pool) (entries_in entries) × All (MemberFits pool) (members_in members))))

tells_made : (entries members : List ℕ) (pool : ℕ)
    → Tells (well_made entries members pool) (Made entries members pool)
unfolding well_made
tells_made entries members pool =
    tells_and (tells_eq (length entries % entry_width) 0)
    (tells_and (tells_eq (length members % member_width) 0)
    (tells_and (tells_le (length entries / entry_width) most_entries)
    (tells_and
    (tells_all (entry_ok (length members / member_width) pool) (EntryFits (length members / member_width) pool) (λ e. tells_and (tells_le (e.id_start + e.id_length) pool) (tells_le (e.first + e.ids) (length members / member_width))) (entries_in entries))
    (tells_all (member_ok pool) (MemberFits pool) (λ m. tells_le (m.text_start + m.text_length) pool) (members_in members)))))

module _ (entries members added : List ℕ) where
  pub table_holds : {table : List Special} → read_table entries members added ≡ sound table → TableHolds entries members added table
  unfolding read_table
  table_holds {table} e = go (well_made entries members (length added)) (tells_made entries members (length added)).so (all_ok agrees (entries_in entries)) e
    where
      go : (made : Bool) → (made ≡ true → Made entries members (length added))
          → (agree : Bool) → cond made (cond agree (sound (map (special_of (members_in members) added) (entries_in entries))) (faulty IdsAndTextsDiffer)) (faulty MalformedTable) ≡ sound table → TableHolds entries members added table
      go true told true e =
          let is : table ≡ map (special_of (members_in members) added) (entries_in entries) = cc in
          let t = told refl in
          record { few = t.1.1.0; entries_fit = t.1.1.1.0; members_fit = t.1.1.1.1; table_is = is }
      go true told false e = let z : ◌≡◌ {A = ℕ} 0 1 = cc in absurd (omega arith)
      go false told agree e = let z : ◌≡◌ {A = ℕ} 0 1 = cc in absurd (omega arith)
