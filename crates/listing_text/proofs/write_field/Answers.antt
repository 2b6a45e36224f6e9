-- `write_field` writes a number and a byte after it. The number has 32 bits, so as one of 64 bits it has the same text.
-- Assumes nothing.
use mathlib.Core.Path.{ap}
use native.Mathlib.Omega.{arith}
use lib.ListN.{length}
use Rattle.listing_text.proofs.Text.{long_short}
use Rattle.listing_text.proofs.Wrote.{wrote_then, wrote_as, wrote_long}
use Rattle.listing_text.proofs.write_field.Goals as goal

pub write_number-next-requires : goal.write_number-next-requires
write_number-next-requires c = omega (arith, c.requires, ap length (long_short c.args.value (omega (arith, c.ranges.value))))

pub write_byte-requires : goal.write_byte-requires
write_byte-requires c =
    omega (arith, c.requires, ap length (long_short c.args.value (omega (arith, c.ranges.value))), c.write_number-next.ensures.ends, wrote_long c.write_number-next.ensures)

pub returns : goal.returns
returns c =
    wrote_then (wrote_as (long_short c.args.value (omega (arith, c.ranges.value))) c.write_number-next.ensures) c.write_byte.ensures
