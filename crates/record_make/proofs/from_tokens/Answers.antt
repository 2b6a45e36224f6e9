-- `from_tokens` writes one node, with no ranges and no windows, and the rows of the tokens. Assumes nothing.
use mathlib.Core.Path.{refl, ◌∙◌}
use native.Mathlib.Omega.{arith}
use lib.ListN.{length-set}
use Rattle.record.specs.declared.Refusal.TheVariants.{MalformedRecord, NoRoom}
use Rattle.record.proofs.Outcome.{writes_refused}
use Rattle.record_make.proofs.Tokens.{tokens_malformed, tokens_no_room, tokens_written}
use Rattle.record_make.proofs.from_tokens.Goals as goal

pub returns-then-tokens-ne0 : goal.returns-then-tokens-ne0
returns-then-tokens-ne0 c =
    let v = c.args in
    writes_refused MalformedRecord (tokens_malformed v.tokens.now v.type_id v.out_nodes.now v.out_rows.now c.if-tokens-ne0.true) refl refl refl refl

pub returns-then-count-gt-MOST_ROWS : goal.returns-then-count-gt-MOST_ROWS
returns-then-count-gt-MOST_ROWS c =
    let v = c.args in
    writes_refused NoRoom (tokens_no_room v.tokens.now v.type_id v.out_nodes.now v.out_rows.now c.if-tokens-ne0.false (λ few node rows. omega (arith, c.if-count-gt-MOST_ROWS.true))) refl refl refl refl

pub returns-then-out_nodes-lt-NODE_WIDTH : goal.returns-then-out_nodes-lt-NODE_WIDTH
returns-then-out_nodes-lt-NODE_WIDTH c =
    let v = c.args in
    writes_refused NoRoom (tokens_no_room v.tokens.now v.type_id v.out_nodes.now v.out_rows.now c.if-tokens-ne0.false (λ few node rows. omega (arith, c.if-out_nodes-lt-NODE_WIDTH.true))) refl refl refl refl

pub returns-then-out_rows-count : goal.returns-then-out_rows-count
returns-then-out_rows-count c =
    let v = c.args in
    writes_refused NoRoom (tokens_no_room v.tokens.now v.type_id v.out_nodes.now v.out_rows.now c.if-tokens-ne0.false (λ few node rows. omega (arith, c.if-out_rows-count.true))) refl refl refl refl

pub shape_of-out_nodes : goal.shape_of-out_nodes
shape_of-out_nodes c = c.fill.auto.dst ∙ length-set c.args.out_nodes.now 0 _

pub returns : goal.returns
returns c =
    let v = c.args in
    tokens_written v.tokens.now v.type_id v.out_nodes.now v.out_rows.now c.if-tokens-ne0.false c.if-count-gt-MOST_ROWS.false c.if-out_nodes-lt-NODE_WIDTH.false c.if-out_rows-count.false c.fill.ensures c.write_tokens.ensures
