-- `settle` meets its contract, by how many bytes have come and what the counts say. Assumes nothing.
use mathlib.Core.Logic.{inl, inr}
use Rattle.report_held.proofs.Settling.{settled_wait, settled_large, settled_whole, whole_there}
use native.Mathlib.Omega.{arith}
use Rattle.report_held.proofs.settle.Goals as goal

pub returns-then-bytes-lt-HEAD : goal.returns-then-bytes-lt-HEAD
returns-then-bytes-lt-HEAD c =
    settled_wait c.args.batch.now c.args.numbers.now c.requires.lent_stores c.args.bytes c.requires.arrived c.args.report c.waits.ensures.0 c.waits.ensures.1 (inl c.if-bytes-lt-HEAD.true)

pub returns-then-size-gt-MOST : goal.returns-then-size-gt-MOST
returns-then-size-gt-MOST c =
    settled_large c.args.batch.now c.args.numbers.now c.requires.lent_stores c.args.bytes c.requires.arrived c.args.report c.waits-then-size-gt-MOST.ensures.0 c.waits-then-size-gt-MOST.ensures.1 c.if-bytes-lt-HEAD.false (omega (arith, c.stored_size-size.ensures, c.if-size-gt-MOST.true))

pub returns-then-bytes-size : goal.returns-then-bytes-size
returns-then-bytes-size c =
    settled_wait c.args.batch.now c.args.numbers.now c.requires.lent_stores c.args.bytes c.requires.arrived c.args.report c.waits-then-bytes-size.ensures.0 c.waits-then-bytes-size.ensures.1
    (inr (c.if-bytes-lt-HEAD.false, omega (arith, c.stored_size-size.ensures, c.if-bytes-size.true), omega (arith, c.stored_size-size.ensures, c.if-size-gt-MOST.false)))

pub add_stored-requires : goal.add_stored-requires
add_stored-requires c =
    whole_there c.args.batch.now c.args.numbers.now c.requires.lent_stores c.args.bytes c.requires.arrived c.args.report (omega (arith, c.stored_size-size.ensures, c.if-size-gt-MOST.false))

pub returns : goal.returns
returns c =
    settled_whole c.args.batch.now c.args.numbers.now c.requires.lent_stores c.args.bytes c.requires.arrived c.args.report c.waits-2.ensures.0 c.waits-2.ensures.1 c.add_stored.ensures
    c.if-bytes-lt-HEAD.false (omega (arith, c.stored_size-size.ensures, c.if-bytes-size.false)) (omega (arith, c.stored_size-size.ensures, c.if-size-gt-MOST.false))
