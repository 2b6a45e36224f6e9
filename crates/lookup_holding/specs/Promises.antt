-- What the functions of this crate give: a sequence that is found, and what the walk over the ranges finds.
-- Assumes nothing: these are definitions.
use Rattle.std.specs.Prelude.{ℕ, ◌-◌, get_or, Option as Answer, Some, None}
use Rattle.std.proofs.Math.Option.{Option, none as nothing, some, map}
use Rattle.record.specs.Tree.{Encoding, absent}
use Rattle.lookup_ranges.specs.First.{first_from}
use Rattle.lookup_holding.specs.Holding.{Placed, holds_row}
use Rattle.lookup_holding.specs.declared.Sequence.{Sequence}

-- "None is a normal result"
abbrev pub sequence_found : Option Placed → Answer Sequence
sequence_found nothing = None
sequence_found (some p) = Some (record { sequence = p.sequence; place = record { 0 = p.place } })

-- a row, counted from the start of the range of an id
abbrev pub from_start : Encoding → ℕ → ℕ → Placed
from_start E row id = record { sequence = id; place = row - (get_or E.ranges id absent).start }

-- the smallest id whose range holds the row, and the row counted from its start
abbrev pub first_placed : Encoding → ℕ → Option Placed
first_placed E row = map (from_start E row) (first_from (holds_row row) 0 E.ranges)
