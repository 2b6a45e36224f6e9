-- `start` copies the numbers of the empty encoding. Assumes nothing.
use mathlib.Core.Path.{ap, ◌∙◌}
use lib.Seq.{sets}
use Rattle.fold_append.proofs.Empty.{empty_taken}
use Rattle.fold_append.proofs.start.Goals as goal

pub returns : goal.returns
returns c = c.copy.ensures ∙ ap (sets _ 0) (empty_taken c.empty-empty.ensures)
