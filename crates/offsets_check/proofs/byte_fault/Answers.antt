-- `byte_fault` meets its contract: at the end, at a tail, at a character. Assumes nothing.
use mathlib.Core.Path.{sym, ◌∙◌}
use Rattle.offsets_check.proofs.Faults.{byte_end, byte_inside, byte_start}
use native.Mathlib.Omega.{arith}
use Rattle.offsets_check.proofs.byte_fault.Goals as goal

pub returns-then-offset-text : goal.returns-then-offset-text
returns-then-offset-text c = byte_end c.args.text.now c.args.offset c.requires c.if-offset-text.true

pub returns-then-is_tail : goal.returns-then-is_tail
returns-then-is_tail c =
    byte_inside c.args.text.now c.args.offset c.requires (omega arith) (sym c.is_tail.ensures ∙ c.if-is_tail.true)

pub returns : goal.returns
returns c =
    byte_start c.args.text.now c.args.offset c.requires (omega arith) (sym c.is_tail.ensures ∙ c.if-is_tail.false)
