-- Worked examples of what the report program prints.
-- Assumes nothing.
use mathlib.Core.Path.{◌≡◌, refl}
use Rattle.fractions.specs.Fractions.{gcd_up_to, gcd_of, lowest_of}
use Rattle.record.specs.declared.Refusal.TheVariants.{TotalTooLarge}
use Rattle.report_trees.specs.Report.{empty_report}
use Rattle.std.specs.Prelude.{Ok, Err}
use Rattle.listing_text.specs.Text.{bytes, digits_up_to}
use Rattle.report_lines.specs.Lines.{number_line, share_line, report_lines, answer_lines}

-- of no batch every total is 0, and the share 0 of 0
empty_printed : answer_lines (Ok empty_report) ≡ bytes "encodings 0\nwindows 0\nrows 0\npadding 0\nspecial 0\nrest 0\nshare 0 0\n"
unfolding answer_lines report_lines number_line share_line lowest_of digits_up_to
empty_printed = refl

-- every number beside its own word
each_printed : answer_lines (Ok (record { encodings = 3; windows = 1; rows = 20; padding = 12; special = 6; rest = 2 })) ≡ bytes "encodings 3\nwindows 1\nrows 20\npadding 12\nspecial 6\nrest 2\nshare 3 5\n"
unfolding answer_lines report_lines number_line share_line lowest_of gcd_of gcd_up_to digits_up_to
each_printed = refl

-- "22 if a total would pass 18,446,744,073,709,551,615"
too_large_printed : answer_lines (Err TotalTooLarge) ≡ bytes "refused 22\n"
unfolding answer_lines number_line digits_up_to
too_large_printed = refl
