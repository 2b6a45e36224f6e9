-- `read_pieces` meets its contract. The loop's invariant, `Gathering`: the pieces passed have been written, and the others are
-- those from here on. The measure is what is left of the text. Assumes nothing.
use Prim.Native.Nat.{◌+◌, ◌-◌}
use lib.ListN.{length}
use Rattle.template_text.proofs.Gathering.{Gathering}
use Rattle.template_text.proofs.read_pieces.Given as goal

abbrev pub invariant-loop-step : goal.invariant-loop-step
invariant-loop-step l = Gathering l.text l.initial.pieces l.at l.count l.pieces

abbrev pub decreases-loop-step : goal.decreases-loop-step
decreases-loop-step l = length l.text + 1 - l.at
