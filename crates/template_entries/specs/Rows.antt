-- The members of an entry of the special table, and the encoding that a special piece of a template becomes (document 01,
-- modules 8 and 9).
-- Assumes nothing: these are definitions.
use Rattle.std.specs.Prelude.{List, [], map, ℕ, ◌+◌, ◌/◌, ◌≤◌, ◌<◌, length, get_or, replicate, take, drop}
use Rattle.record.specs.Tree.{Row, Encoding, encoding, absent, sequences}
use Rattle.template_entries.specs.Table.{Member, no_entry, entry_width, member_width, entries_in, members_in}
use Rattle.template_entries.specs.declared.Members.{Members}

-- "Special rows: word none, offsets 0, masks 1"; "a member is 3: id, text start and length in pool 1"
abbrev pub special_row : ℕ → Member → Row
special_row t m = record { id = m.id; type_id = t; pool = 1; text_start = m.text_start; text_length = m.text_length; word_mark = 0; word = 0; offset_start = 0; offset_end = 0; special = 1; attention = 1 }

-- a row for each member, no ranges, no windows
abbrev pub special_encoding : ℕ → List Member → Encoding
special_encoding t ms = encoding (map (special_row t) ms) (replicate sequences absent) []

-- `count` of the members that a list of numbers holds, from the first on
abbrev pub members_from : List ℕ → ℕ → ℕ → List Member
members_from members first count = take count (drop first (members_in members))

-- ---- The members of an entry, by its number

-- "first member, number of ids"
unfoldable pub members_of : List ℕ → ℕ → Members
members_of entries i = record { first = (get_or (entries_in entries) i no_entry).first; count = (get_or (entries_in entries) i no_entry).ids }

-- The entry is one of the table, and its members are among those of the table.
pub record MembersThere (entries members : List ℕ) (i : ℕ) : Type 0 where
  pub entry : i < length entries / entry_width
  pub among : (members_of entries i).first + (members_of entries i).count ≤ length members / member_width

-- the members themselves
abbrev pub entry_members : List ℕ → List ℕ → ℕ → List Member
entry_members entries members i = members_from members (members_of entries i).first (members_of entries i).count
