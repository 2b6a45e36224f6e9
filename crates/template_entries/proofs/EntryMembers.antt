-- The members of an entry, by its number: where its numbers say, as many as they say, and those of its special id.
-- Assumes nothing.
use mathlib.Core.Path.{◌≡◌, refl}
use Prim.Native.Nat.{ℕ, ◌+◌, ◌*◌, ◌/◌, ◌<◌}
use native.Mathlib.Omega.{arith}
use mathlib.Core.List.{List}
use lib.ListN.{length, get_or, drop, length-drop}
use lib.Seq.{length-take-le}
use Rattle.lists.proofs.All.{all_at}
use Rattle.template_entries.specs.Table.{Special, no_entry, entry_width, member_width, entries_in, members_in, special_of}
use Rattle.template_entries.specs.Rows.{members_of, MembersThere, entry_members}
use Rattle.template_entries.specs.declared.Members.{Members}
use Rattle.template_entries.proofs.Entries.{entries_number, members_number, entry_is}
use Rattle.template_entries.proofs.Sound.{EntryFits, TableHolds}

-- the numbers of an entry say which they are
pub members_read : (entries : List ℕ) (i : ℕ) → i < length entries / entry_width → ◌≡◌ {A = Members} (record { first = get_or entries (i * entry_width + 2) 0; count = get_or entries (i * entry_width + 3) 0 }) (members_of entries i)
unfolding members_of
members_read entries i h = rw (entry_is entries i h)

-- so many are there
pub members_many : {entries members : List ℕ} {i : ℕ} → MembersThere entries members i → length (entry_members entries members i) ≡ (members_of entries i).count
members_many {entries} {members} {i} h =
    let m = members_of entries i in
    length-take-le m.count (drop m.first (members_in members)) (omega (arith, h.among, length-drop m.first (members_in members), members_number members))

-- ---- Of a table that is not refused

module _ {entries members added : List ℕ} {table : List Special} (h : TableHolds entries members added table) (i : ℕ) where
  pub members_there : i < length entries / entry_width → MembersThere entries members i
  unfolding members_of
  members_there inside =
      let fits = all_at (EntryFits (length members / member_width) (length added)) (entries_in entries) i no_entry (omega (arith, inside, entries_number entries)) h.entries_fit in
      record { entry = inside; among = fits.1 }

  pub members_special : (special_of (members_in members) added (get_or (entries_in entries) i no_entry)).members ≡ entry_members entries members i
  unfolding members_of
  members_special = refl
