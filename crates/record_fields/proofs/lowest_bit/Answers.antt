-- `lowest_bit` finds the lowest bit, since x and its negative have no other in common. Assumes nothing.
use Rattle.std.proofs.Common.{arith}
use Rattle.record_fields.proofs.Lowest.{lowest_bit}
use Rattle.record_fields.proofs.lowest_bit.Goals as goal

pub returns : goal.returns
returns c = lowest_bit c.args.x c.wrapping_neg.result (omega arith) (omega arith) c.wrapping_neg.ensures
