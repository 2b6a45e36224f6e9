-- `lines::keep` meets its contract: a store past the end changes nothing. Assumes nothing.
use mathlib.Core.Path.{sym}
use lib.Seq.{set_out}
use borrow.Author.Rules.{rules}
use Rattle.lines.proofs.keep.Goals as goal

pub returns : goal.returns
returns c = record { value = search rules; line_after = sym (set_out _ _ _ c.if-held-room.false) }
