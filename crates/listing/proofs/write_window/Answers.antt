-- `write_window` writes three numbers, each with the byte after it. Assumes nothing.
use native.Mathlib.Omega.{arith}
use Rattle.listing_request.specs.Asked.{space_byte}
use Rattle.listing_text.proofs.Text.{number_few}
use Rattle.listing_text.proofs.Wrote.{wrote_then, wrote_as, wrote_long}
use Rattle.listing.proofs.Lines.{length_field, window_fields}
use Rattle.listing.proofs.write_window.Goals as goal

pub write_field-first-requires : goal.write_field-first-requires
write_field-first-requires c = omega (arith, c.requires, number_few c.args.number)

pub write_field-second-requires : goal.write_field-second-requires
write_field-second-requires c = omega (arith, c.requires, c.write_field-first.ensures.ends, wrote_long c.write_field-first.ensures, length_field c.args.number space_byte, number_few c.args.number, number_few c.args.window.start)

pub write_field-requires : goal.write_field-requires
write_field-requires c = omega (arith, c.requires, c.write_field-first.ensures.ends, wrote_long c.write_field-first.ensures, c.write_field-second.ensures.ends, wrote_long c.write_field-second.ensures, length_field c.args.number space_byte, length_field c.args.window.start space_byte, number_few c.args.number, number_few c.args.window.start, number_few c.args.window.end)

pub returns : goal.returns
returns c = let v = c.args in wrote_as (window_fields v.number v.window) (wrote_then c.write_field-first.ensures (wrote_then c.write_field-second.ensures c.write_field.ensures))
