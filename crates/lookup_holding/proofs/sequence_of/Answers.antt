-- `sequence_of` tells the three cases of `token_to_sequence` apart. Assumes nothing.
use mathlib.Core.Path.{sym, ap, ◌∙◌}
use native.Mathlib.Omega.{arith}
use Rattle.record.proofs.One.{one_size}
use Rattle.lookup_holding.specs.Promises.{sequence_found}
use Rattle.lookup_holding.proofs.Holding.{token_above, token_alone, token_first}
use Rattle.lookup_holding.proofs.sequence_of.Goals as goal

pub returns-then-row-nodes : goal.returns-then-row-nodes
returns-then-row-nodes c = λ rows E h.
    let row = c.args.row in
    ap sequence_found (sym (token_above E row (omega (arith, c.if-row-nodes.true, one_size h))))

pub returns-then-present_of-eq0 : goal.returns-then-present_of-eq0
returns-then-present_of-eq0 c = λ rows E h.
    let row = c.args.row in
    ap sequence_found (sym (token_alone E row (omega (arith, c.if-row-nodes.false, one_size h)) (omega (arith, c.if-present_of-eq0.true, c.present_of.ensures rows E h))))

pub returns : goal.returns
returns c = λ rows E h.
    let row = c.args.row in
    c.first_holding.ensures rows E h
    ∙ ap sequence_found (sym (token_first E row (omega (arith, c.if-row-nodes.false, one_size h)) (λ n. c.if-present_of-eq0.false (c.present_of.ensures rows E h ∙ n))))
