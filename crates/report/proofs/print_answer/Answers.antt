-- `print_answer` meets its contract: what is written is the answer, which is no longer than the room for it. Assumes nothing.
use mathlib.Core.Path.{sym, subst}
use mathlib.Core.List.{List}
use Prim.Native.Nat.{ℕ}
use lib.Seq.{length-take-le}
use Rattle.listing_text.proofs.Wrote.{wrote_long, wrote_front}
use Rattle.output.specs.Promises.{WritesBytes}
use Rattle.report_lines.proofs.Lines.{answer_few}
use native.Mathlib.Omega.{arith}
use Rattle.report.proofs.print_answer.Goals as goal

pub slice_bounds-out-end : goal.slice_bounds-out-end
slice_bounds-out-end g c = omega (arith, c.write_answer-count.ensures.ends, wrote_long c.write_answer-count.ensures, answer_few c.args.answer)

pub slice_bounds-print-end : goal.slice_bounds-print-end
slice_bounds-print-end g c =
    sym (length-take-le _ _ (omega (arith, c.write_answer-count.ensures.ends, wrote_long c.write_answer-count.ensures, answer_few c.args.answer)))

pub returns : goal.returns
returns g c =
    subst (λ (bytes : List ℕ). WritesBytes bytes c.print.result) (wrote_front c.write_answer-count.ensures (omega (arith, answer_few c.args.answer))) c.print.ensures
