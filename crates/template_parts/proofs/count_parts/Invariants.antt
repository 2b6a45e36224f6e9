-- `count_parts` meets its contract. The loop's invariant, `Counting`: the count and the parts of the rest are one more than
-- the parts of the text. Assumes nothing.
use Rattle.template_parts.proofs.Parts.{Counting}
use Rattle.template_parts.proofs.count_parts.Given as goal

abbrev pub invariant-loop-byte : goal.invariant-loop-byte
invariant-loop-byte l = Counting l.text l.count l.byte-index
