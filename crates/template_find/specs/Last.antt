-- The special id of a table that an id means (document 01, module 8).
-- Assumes nothing: these are definitions.
use Rattle.std.specs.Prelude.{Bool, ℕ, List, [], get_or}
use Rattle.std.proofs.Math.Option.{Option, none as nothing, some}
use Rattle.lookup_ranges.specs.First.{last_from}
use Rattle.template_pieces.specs.Piece.{same}
use Rattle.template_entries.specs.Table.{Special}

-- what stands past the end of a table
abbrev pub no_special : Special
no_special = record { id = []; members = [] }

abbrev pub at_place : List Special → Option ℕ → Option Special
at_place table nothing = nothing
at_place table (some k) = some (get_or table k no_special)

abbrev pub has_id : List ℕ → Special → Bool
has_id id s = same s.id id

-- "of equal ids the last counts"
unfoldable pub last_with : List ℕ → List Special → Option Special
last_with id table = at_place table (last_from (has_id id) 0 table)
