-- `write_ended` writes the digits of a number and the byte after them. Assumes nothing.
use native.Mathlib.Omega.{arith}
use Rattle.listing_text.proofs.Text.{long_few}
use Rattle.listing_text.proofs.Wrote.{wrote_then}
use Rattle.report_lines.proofs.write_ended.Goals as goal

pub write_number-next-requires : goal.write_number-next-requires
write_number-next-requires c = omega (arith, c.requires, long_few c.args.value)

pub write_byte-requires : goal.write_byte-requires
write_byte-requires c =
    omega (arith, c.requires, c.write_number-next.ensures.ends, long_few c.args.value)

pub returns : goal.returns
returns c = wrote_then c.write_number-next.ensures c.write_byte.ensures
