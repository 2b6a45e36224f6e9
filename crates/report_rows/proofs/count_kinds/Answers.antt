-- `count_kinds` counts row by row: after i turns, the kinds of the first i (`Counting`). Assumes nothing.
use Rattle.report_rows.proofs.Counting.{counting_start, counting_more, counting_end, padding_few, special_few, rest_few, told_few}
use native.Mathlib.Omega.{arith}
use Rattle.report_rows.proofs.count_kinds.Goals as goal

pub loop-i-init : goal.loop-i-init
loop-i-init c = counting_start _

pub overflow_add-padding : goal.overflow_add-padding
overflow_add-padding c = omega (arith, padding_few c.loop-i.invariant, told_few)

pub overflow_add-special : goal.overflow_add-special
overflow_add-special c = omega (arith, special_few c.loop-i.invariant, told_few)

pub overflow_add-rest : goal.overflow_add-rest
overflow_add-rest c = omega (arith, rest_few c.loop-i.invariant, told_few)

pub loop-i-preserved : goal.loop-i-preserved
loop-i-preserved c = counting_more c.loop-i.invariant

pub returns : goal.returns
returns c = counting_end c.loop-i.invariant c.args.count (omega arith)
