-- `both_known` meets its contract. Assumes nothing.
use mathlib.Core.Path.{◌≡◌}
use borrow.Author.Rules.{rules}
use Rattle.std.specs.Prelude.{Err}
use Rattle.template_known.proofs.Both.{both_first, both_second}
use Rattle.template_known.proofs.both_known.Goals as goal

pub returns-in_err-all_known : goal.returns-in_err-all_known
returns-in_err-all_known c =
    let same : c.from_residual.result ≡ Err c.in_err-all_known.field-0.0 = search rules in
    rw same (both_first c.all_known.ensures c.in_err-all_known.was)

pub returns : goal.returns
returns c = both_second c.all_known.ensures c.in_ok-all_known.was c.all_known-2.ensures
