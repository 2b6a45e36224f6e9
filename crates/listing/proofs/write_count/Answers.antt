-- `write_count` writes the word and the number. Assumes nothing.
use native.Mathlib.Omega.{arith}
use Rattle.listing_text.proofs.Text.{number_few}
use Rattle.listing_text.proofs.Wrote.{wrote_then, wrote_as, wrote_long}
use Rattle.listing.proofs.Lines.{count_fields}
use Rattle.listing.proofs.write_count.Goals as goal

pub write_field-requires : goal.write_field-requires
write_field-requires c = omega (arith, c.requires, c.write_text-next.ensures.ends, wrote_long c.write_text-next.ensures, number_few c.args.n)

pub returns : goal.returns
returns c = wrote_as (count_fields c.args.n) (wrote_then c.write_text-next.ensures c.write_field.ensures)
