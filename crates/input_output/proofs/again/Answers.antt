-- `again` says which errors pass. Assumes nothing.
use Rattle.input_output.proofs.Passing.{passes_bits, passes_not}
use Rattle.input_output.proofs.again.Goals as goal

pub returns-then-error-eq-EINTR : goal.returns-then-error-eq-EINTR
returns-then-error-eq-EINTR c = passes_bits 4 c.ranges.error c.if-error-eq-EINTR.true

pub returns-then-error-eq-EAGAIN : goal.returns-then-error-eq-EAGAIN
returns-then-error-eq-EAGAIN c = passes_bits 11 c.ranges.error c.if-error-eq-EAGAIN.true

pub returns : goal.returns
returns c = passes_not c.args.error c.if-error-eq-EINTR.false c.if-error-eq-EAGAIN.false
