-- `start` meets its contract: one of the tails, below them or above them. Assumes nothing.
use Rattle.chars_text.proofs.Rows.{bytes_in, bytes_under, bytes_over}
use native.Mathlib.Omega.{arith}
use Rattle.chars_count.proofs.start.Goals as goal

pub returns-in-128-to-191 : goal.returns-in-128-to-191
returns-in-128-to-191 c = simp (bytes_in 0x80 0xBF c.args.byte (omega arith) (omega arith))

pub returns-in_default : goal.returns-in_default
returns-in_default c = simp (bytes_under 0x80 0xBF c.args.byte (omega arith))

pub returns-in_default-2 : goal.returns-in_default-2
returns-in_default-2 c = simp (bytes_over 0x80 0xBF c.args.byte (omega arith))
