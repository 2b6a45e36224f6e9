-- `chars_of_token` reads the offsets of a row that has a sequence. Assumes nothing.
use mathlib.Core.Path.{◌≡◌, sym, ap, ◌∙◌}
use Prim.Native.Nat.{ℕ}
use native.Mathlib.Omega.{arith}
use Rattle.record.specs.Tree.{Encoding}
use Rattle.lookup_holding.specs.Promises.{sequence_found}
use Rattle.lookup_holding.specs.Holding.{token_to_sequence}
use Rattle.lookup_holding.specs.declared.Sequence.{Sequence}
use Rattle.std.specs.Prelude.{Option as Answer}
use Rattle.lookup_ranges.proofs.Top.{top_there}
use Rattle.lookup_tokens.specs.Tokens.{token_to_chars}
use Rattle.lookup_tokens.specs.Answers.{token_chars_answer}
use Rattle.lookup_tokens.proofs.Answered.{sequence_back, sequence_back_lem}
use Rattle.lookup_tokens.proofs.TokensStored.{row_inside_lem, of_past, of_unplaced, chars_stored}
use Rattle.lookup_tokens.proofs.chars_of_token.Goals as goal

-- the sequence and the place of a row, by the case of the answer
placed : (row : ℕ) (E : Encoding) {t a : Answer Sequence} → t ≡ sequence_found (token_to_sequence E row) → t ≡ a → token_to_sequence E row ≡ sequence_back a
placed row E h e = sequence_back_lem _ _ h ∙ ap sequence_back e

pub bounds-nodes-0 : goal.bounds-nodes-0
bounds-nodes-0 c = omega (arith, top_there _ _ c.requires)

pub returns-then-row-nodes : goal.returns-then-row-nodes
unfolding token_to_chars
returns-then-row-nodes c = λ E one. ap token_chars_answer (sym (of_past one _ _ c.if-row-nodes.true))

pub sequence_of-requires : goal.sequence_of-requires
sequence_of-requires c = top_there _ _ c.requires

pub returns-in_err-sequence : goal.returns-in_err-sequence
unfolding token_to_chars
returns-in_err-sequence c = λ E one.
    c.from_residual.ensures ∙ ap token_chars_answer (sym (of_unplaced one _ _ (placed _ E (c.sequence_of.ensures _ E one) c.in_err-sequence.was)))

pub bounds-rows-at : goal.bounds-rows-at
bounds-rows-at c = omega (arith, row_inside_lem _ _ _ c.requires c.if-row-nodes.false)

pub bounds-rows-at-2 : goal.bounds-rows-at-2
bounds-rows-at-2 c = omega (arith, row_inside_lem _ _ _ c.requires c.if-row-nodes.false)

pub returns : goal.returns
returns c = λ E one.
    ap token_chars_answer (sym (chars_stored one _ c.if-row-nodes.false _ (placed _ E (c.sequence_of.ensures _ E one) c.in_ok-sequence.was)))
