-- The two halves of a report's totals and how long a line can be, for the functions that write them.
-- Assumes nothing: these are definitions.
use Rattle.std.specs.Prelude.{ℕ, List, ◌++◌}
use Rattle.listing_text.specs.Text.{bytes}
use Rattle.report_trees.specs.declared.Report.{Report}
use Rattle.report_lines.specs.Lines.{number_line}

-- the bytes of an output
abbrev pub answer_room : ℕ
answer_room = 256

-- no line of one number is longer: a word of 9 letters and its space, 20 digits and the newline
abbrev pub longest_total : ℕ
longest_total = 31

-- nor is the share's: its word and a space, 20 digits and a space, 20 digits and the newline
abbrev pub longest_share : ℕ
longest_share = 48

-- the totals of encodings, of windows, and of the rows of both
unfoldable pub node_lines : Report → List ℕ
node_lines r = number_line (bytes "encodings ") r.encodings ++ (number_line (bytes "windows ") r.windows ++ number_line (bytes "rows ") r.rows)

-- the totals of the three kinds of rows
unfoldable pub kind_lines : Report → List ℕ
kind_lines r = number_line (bytes "padding ") r.padding ++ (number_line (bytes "special ") r.special ++ number_line (bytes "rest ") r.rest)
