-- The special table as it is lent (document 01, module 8): its entries and members, when it is refused, and what it holds.
-- Assumes nothing: these are definitions.
use Rattle.std.specs.Prelude.{Bool, ◌&&◌, cond, ℕ, ◌+◌, ◌/◌, ◌%◌, List, [], map, leb, eqb, length, get_or, take, drop}
use Rattle.record.specs.Read.{several, all_ok}
use Rattle.record.specs.declared.Refusal.{Refusal}
use Rattle.record.specs.declared.Refusal.TheVariants.{IdsAndTextsDiffer, MalformedTable}

-- ---- Entries and members

-- "An entry is 5 numbers: id start and length in pool 1, first member, number of ids, number of texts"
pub record Entry : Type 0 where
  pub id_start : ℕ
  pub id_length : ℕ
  pub first : ℕ
  pub ids : ℕ
  pub texts : ℕ

-- "a member is 3: id, text start and length in pool 1"
pub record Member : Type 0 where
  pub id : ℕ
  pub text_start : ℕ
  pub text_length : ℕ

abbrev pub entry_width : ℕ
entry_width = 5

abbrev pub member_width : ℕ
member_width = 3

-- the entry and the member at the front of a list of numbers
unfoldable pub entry_at : List ℕ → Entry
entry_at l = record { id_start = get_or l 0 0; id_length = get_or l 1 0; first = get_or l 2 0; ids = get_or l 3 0; texts = get_or l 4 0 }

unfoldable pub member_at : List ℕ → Member
member_at l = record { id = get_or l 0 0; text_start = get_or l 1 0; text_length = get_or l 2 0 }

-- what stands past the end
abbrev pub no_entry : Entry
no_entry = entry_at []

abbrev pub no_member : Member
no_member = member_at []

-- all of them
unfoldable pub entries_in : List ℕ → List Entry
entries_in entries = several entry_at entry_width (length entries / entry_width) entries

unfoldable pub members_in : List ℕ → List Member
members_in members = several member_at member_width (length members / member_width) members

-- ---- When a table is refused

-- "At most 64 entries"
abbrev pub most_entries : ℕ
most_entries = 64

-- a text in pool 1, whose length this is
abbrev pub in_pool : ℕ → ℕ → ℕ → Bool
in_pool pool start size = leb (start + size) pool

-- "a text outside pool 1, first member + number of ids above the member count"
abbrev pub entry_ok : ℕ → ℕ → Entry → Bool
entry_ok count pool e = in_pool pool e.id_start e.id_length && leb (e.first + e.ids) count

abbrev pub member_ok : ℕ → Member → Bool
member_ok pool m = in_pool pool m.text_start m.text_length

-- "15 (slice lengths no multiples of 5 and 3, a text outside pool 1, first member + number of ids above the member count, or
-- above 64 entries)": every clause the other way round
unfoldable pub well_made : List ℕ → List ℕ → ℕ → Bool
well_made entries members pool =
    eqb (length entries % entry_width) 0
    && (eqb (length members % member_width) 0
    && (leb (length entries / entry_width) most_entries
    && (all_ok (entry_ok (length members / member_width) pool) (entries_in entries) && all_ok (member_ok pool) (members_in members))))

-- "12 ids and texts differ in number": the other way round
abbrev pub agrees : Entry → Bool
agrees e = eqb e.ids e.texts

-- ---- What a table holds

-- A special id with the members that it stands for.
pub record Special : Type 0 where
  pub id : List ℕ
  pub members : List Member

abbrev pub id_of : List ℕ → Entry → List ℕ
id_of added e = take e.id_length (drop e.id_start added)

abbrev pub special_of : List Member → List ℕ → Entry → Special
special_of members added e = record { id = id_of added e; members = take e.ids (drop e.first members) }

-- refused, or special ids in the order of the table
pub data Table : Type 0 where
  faulty : Refusal → Table
  sound : List Special → Table

-- 15, then 12
unfoldable pub read_table : List ℕ → List ℕ → List ℕ → Table
read_table entries members added =
    cond (well_made entries members (length added))
    (cond (all_ok agrees (entries_in entries)) (sound (map (special_of (members_in members) added) (entries_in entries))) (faulty IdsAndTextsDiffer))
    (faulty MalformedTable)
