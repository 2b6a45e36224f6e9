-- From what `sequence_of` answers back to what the definition says.
-- Assumes nothing.
use mathlib.Core.Path.{◌≡◌, sym, ap}
use mathlib.Core.Option.{Option, none as nothing, some}
use Rattle.std.specs.Prelude.{Option as Answer, Some, None}
use Rattle.lookup_holding.specs.Holding.{Placed}
use Rattle.lookup_holding.specs.Promises.{sequence_found}
use Rattle.lookup_holding.specs.declared.Sequence.{Sequence}

abbrev pub sequence_back : Answer Sequence → Option Placed
sequence_back None = nothing
sequence_back (Some s) = some (record { sequence = s.sequence; place = s.place.0 })

pub sequence_back_lem : (o : Option Placed) (a : Answer Sequence) → a ≡ sequence_found o → o ≡ sequence_back a
sequence_back_lem nothing a e = sym (ap sequence_back e)
sequence_back_lem (some b) a e = sym (ap sequence_back e)
