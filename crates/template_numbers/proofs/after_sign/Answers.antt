-- `after_sign` meets its contract. Assumes nothing.
use Rattle.template_numbers.proofs.Digits.{sign_empty, sign_plus, sign_none}
use Rattle.template_numbers.proofs.after_sign.Goals as goal

pub returns-then-text-eq0 : goal.returns-then-text-eq0
returns-then-text-eq0 c = sign_empty _ c.if-text-eq0.true

pub returns-then-text-eq-PLUS : goal.returns-then-text-eq-PLUS
returns-then-text-eq-PLUS c = sign_plus _ c.if-text-eq0.false c.if-text-eq-PLUS.true

pub returns : goal.returns
returns c = sign_none _ c.if-text-eq0.false c.if-text-eq-PLUS.false
