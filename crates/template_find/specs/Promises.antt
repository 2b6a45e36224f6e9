-- What the search for an entry asks and gives, over the numbers of a table.
-- Assumes nothing: these are definitions.
use Rattle.std.specs.Prelude.{Bool, ℕ, ◌+◌, ◌/◌, ◌≤◌, ◌<◌, List, length, Option as Answer, Some, None}
use Rattle.std.proofs.Math.Option.{Option, none as nothing, some}
use Rattle.lists.specs.Lists.{All}
use Rattle.template_pieces.specs.Piece.{same}
use Rattle.template_entries.specs.Table.{Entry, entry_width, entries_in, id_of}

-- whether an entry whose id lies in pool 1 has an id
abbrev pub entry_has_id : List ℕ → List ℕ → Entry → Bool
entry_has_id added id e = same (id_of added e) id

unfoldable pub entry_answer : Option ℕ → Answer ℕ
entry_answer nothing = None
entry_answer (some k) = Some k

-- Ids that lie in pool 1: what a table that is not refused has.
pub record IdsInside (entries added : List ℕ) : Type 0 where
  pub inside : All (λ (e : Entry). e.id_start + e.id_length ≤ length added) (entries_in entries)

-- A place of such a table.
pub record EntryAmong (entries added : List ℕ) (i : ℕ) : Type 0 where
  pub ids : IdsInside entries added
  pub among : i < length entries / entry_width
