-- `read_number` meets its contract. The loop's invariant, `Reading`: the digits passed have the value, and the rest are those
-- from here on. The measure is what is left of the text. Assumes nothing.
use Rattle.template_numbers.proofs.Digits.{Reading}
use Rattle.template_numbers.proofs.read_number.Given as goal

abbrev pub invariant-loop-i : goal.invariant-loop-i
invariant-loop-i l = Reading l.text l.i l.value
