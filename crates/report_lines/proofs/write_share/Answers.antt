-- `write_share` writes the word, and the two numbers with a space and a newline after them. Assumes nothing.
use native.Mathlib.Omega.{arith}
use Rattle.listing_text.proofs.Wrote.{wrote_then, wrote_as}
use Rattle.report_lines.proofs.Lines.{number_ends_within, share_in_parts}
use Rattle.report_lines.proofs.write_share.Goals as goal

pub write_ended-requires : goal.write_ended-requires
write_ended-requires c =
    omega (arith, c.requires, c.write_text-part.ensures.ends, number_ends_within _ _ c.write_ended-whole.ensures)

pub returns : goal.returns
returns c =
    wrote_as (share_in_parts c.args.share) (wrote_then c.write_text-part.ensures (wrote_then c.write_ended-whole.ensures c.write_ended.ensures))
