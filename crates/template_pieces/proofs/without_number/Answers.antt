-- `without_number` meets its contract. Assumes nothing.
use Rattle.template_pieces.proofs.Colons.{why_number_lem, why_colons}
use Rattle.template_pieces.proofs.without_number.Goals as goal

pub returns-then-find-rest : goal.returns-then-find-rest
returns-then-find-rest c = why_number_lem _ c.find.ensures c.if-find-rest.true

pub returns : goal.returns
returns c = why_colons _ c.find.ensures c.if-find-rest.false
