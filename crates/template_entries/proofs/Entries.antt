-- The entries and members of a table, by their places among its numbers.
-- Assumes nothing.
use mathlib.Core.Path.{◌≡◌, ◌∙◌}
use Prim.Native.Nat.{ℕ, zero, suc, ◌+◌, ◌*◌, ◌/◌, ◌≤◌, ◌<◌}
use native.Mathlib.Nat.{suc-mul, zero-mul}
use native.Mathlib.Omega.{arith}
use mathlib.Core.Bool.{true, false}
use lib.Dec.{leb}
use borrow.Author.Tests.{le-leb, lt-leb, eq-eqb, ne_eqb}
use mathlib.Core.List.{List}
use lib.ListN.{length, get_or, drop}
use lib.Seq.{drop-drop, get_or-drop}
use Rattle.record.specs.Read.{several}
use Rattle.record.proofs.Several.{length_several}
use Rattle.template_entries.specs.Table.{Entry, Member, entry_width, member_width, entry_at, member_at, no_entry, no_member, entries_in, members_in, entry_ok, member_ok, agrees}

module _ {A : Type 0} (at : List ℕ → A) (width : ℕ) where
  several_nth : (n : ℕ) (l : List ℕ) (k : ℕ) (d : A) → k < n → get_or (several at width n l) k d ≡ at (drop (k * width) l)
  unfolding several
  several_nth zero l k d h = absurd (omega arith)
  several_nth (suc n) l zero d h = rw (zero-mul width)
  several_nth (suc n) l (suc k) d h =
      let e : suc k * width ≡ width + k * width = omega (arith, suc-mul k width) in
      several_nth n (drop width l) k d (omega arith) ∙ rw (e, drop-drop)

module _ (numbers : List ℕ) where
  pub entries_number : length (entries_in numbers) ≡ length numbers / entry_width
  unfolding entries_in
  entries_number = length_several entry_at entry_width (length numbers / entry_width) numbers

  pub members_number : length (members_in numbers) ≡ length numbers / member_width
  unfolding members_in
  members_number = length_several member_at member_width (length numbers / member_width) numbers

  module _ (k : ℕ) where
    -- entry k, by its numbers
    abbrev pub entry_of : Entry
    entry_of = record { id_start = get_or numbers (k * entry_width + 0) 0; id_length = get_or numbers (k * entry_width + 1) 0; first = get_or numbers (k * entry_width + 2) 0; ids = get_or numbers (k * entry_width + 3) 0; texts = get_or numbers (k * entry_width + 4) 0 }

    pub entry_is : k < length numbers / entry_width → get_or (entries_in numbers) k no_entry ≡ entry_of
    unfolding entries_in entry_at
    entry_is h = several_nth entry_at entry_width (length numbers / entry_width) numbers k no_entry h ∙ simp get_or-drop

    abbrev pub member_of : Member
    member_of = record { id = get_or numbers (k * member_width + 0) 0; text_start = get_or numbers (k * member_width + 1) 0; text_length = get_or numbers (k * member_width + 2) 0 }

    pub member_is : k < length numbers / member_width → get_or (members_in numbers) k no_member ≡ member_of
    unfolding members_in member_at
    member_is h = several_nth member_at member_width (length numbers / member_width) numbers k no_member h ∙ simp get_or-drop

-- ---- The tests of an entry and of a member, by their numbers

module _ (numbers : List ℕ) (k count pool : ℕ) (h : k < length numbers / entry_width) where
  pub entry_out : pool < get_or numbers (k * entry_width + 0) 0 + get_or numbers (k * entry_width + 1) 0 → false ≡ entry_ok count pool (get_or (entries_in numbers) k no_entry)
  entry_out out = rw (entry_is numbers k h, lt-leb (get_or numbers (k * entry_width + 0) 0 + get_or numbers (k * entry_width + 1) 0) pool out)

  pub entry_in : get_or numbers (k * entry_width + 0) 0 + get_or numbers (k * entry_width + 1) 0 ≤ pool
      → leb (get_or numbers (k * entry_width + 2) 0 + get_or numbers (k * entry_width + 3) 0) count ≡ entry_ok count pool (get_or (entries_in numbers) k no_entry)
  entry_in inside = rw (entry_is numbers k h, le-leb (get_or numbers (k * entry_width + 0) 0 + get_or numbers (k * entry_width + 1) 0) pool inside)

module _ (numbers : List ℕ) (k pool : ℕ) (h : k < length numbers / member_width) where
  pub member_out : pool < get_or numbers (k * member_width + 1) 0 + get_or numbers (k * member_width + 2) 0 → member_ok pool (get_or (members_in numbers) k no_member) ≡ false
  member_out out = rw (member_is numbers k h) (lt-leb (get_or numbers (k * member_width + 1) 0 + get_or numbers (k * member_width + 2) 0) pool out)

  pub member_in : get_or numbers (k * member_width + 1) 0 + get_or numbers (k * member_width + 2) 0 ≤ pool → member_ok pool (get_or (members_in numbers) k no_member) ≡ true
  member_in inside = rw (member_is numbers k h) (le-leb (get_or numbers (k * member_width + 1) 0 + get_or numbers (k * member_width + 2) 0) pool inside)

module _ (numbers : List ℕ) (k : ℕ) (h : k < length numbers / entry_width) where
  pub numbers_same : get_or numbers (k * entry_width + 3) 0 ≡ get_or numbers (k * entry_width + 4) 0 → agrees (get_or (entries_in numbers) k no_entry) ≡ true
  numbers_same e = rw (entry_is numbers k h) (eq-eqb (get_or numbers (k * entry_width + 3) 0) (get_or numbers (k * entry_width + 4) 0) e)

  pub numbers_differ : (get_or numbers (k * entry_width + 3) 0 ≡ get_or numbers (k * entry_width + 4) 0 → ⊥) → agrees (get_or (entries_in numbers) k no_entry) ≡ false
  numbers_differ e = rw (entry_is numbers k h) (ne_eqb (get_or numbers (k * entry_width + 3) 0) (get_or numbers (k * entry_width + 4) 0) e)
