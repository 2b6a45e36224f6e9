-- `read_template` meets its contract. Assumes nothing.
use mathlib.Core.Path.{◌≡◌, refl, ap, sym, ◌∙◌}
use borrow.Author.Rules.{rules}
use Rattle.std.specs.Prelude.{Err}
use Rattle.template_text.specs.Template.{template_of}
use Rattle.template_text.proofs.Answers.{template_long}
use Rattle.template_text.proofs.Gathering.{gathered_none, gathered_some}
use Rattle.template_text.proofs.read_template.Goals as goal

pub returns-then-not-is_short : goal.returns-then-not-is_short
unfolding template_of
returns-then-not-is_short c = ap template_of (sym (template_long _ (sym c.is_short.ensures ∙ c.if-not-is_short.true)))

pub read_pieces-requires : goal.read_pieces-requires
read_pieces-requires c = record { is_short = sym c.is_short.ensures ∙ c.if-not-is_short.false; room = refl }

pub returns-in_err-count : goal.returns-in_err-count
unfolding template_of
returns-in_err-count c =
    let same : c.from_residual.result ≡ Err c.in_err-count.field-0.0 = search rules in
    same ∙ ap template_of (sym (gathered_none (sym c.is_short.ensures ∙ c.if-not-is_short.false) c.read_pieces.ensures c.in_err-count.was))

pub returns : goal.returns
returns c = gathered_some (sym c.is_short.ensures ∙ c.if-not-is_short.false) c.read_pieces.ensures c.in_ok-count.was
