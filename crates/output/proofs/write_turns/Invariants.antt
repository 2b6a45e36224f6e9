-- At most all of the bytes are taken, whatever the turn. Assumes nothing.
use Rattle.std.proofs.Common.{◌≤◌, length}
use Rattle.output.proofs.write_turns.Given as goal

abbrev pub invariant-loop : goal.invariant-loop
invariant-loop g l = l.count ≤ length l.bytes
