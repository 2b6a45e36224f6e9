-- What the report program prints (document 02, request 03).
-- Assumes nothing: these are definitions.
use Rattle.std.specs.Prelude.{ℕ, List, ◌++◌, Result, Ok, Err}
use Rattle.fractions.specs.declared.Fraction.{Fraction}
use Rattle.record.specs.Refusals.{number_of}
use Rattle.listing_text.specs.Text.{bytes, long_text}
use Rattle.report_trees.specs.Report.{share_of}
use Rattle.report_trees.specs.declared.Report.{Report}
use Rattle.record.specs.declared.Refusal.{Refusal}

-- "one a line with its number .., single spaces between": a word with a space after it, and its number
unfoldable pub number_line : List ℕ → ℕ → List ℕ
number_line word n = word ++ (long_text n ++ bytes "\n")

-- "(two for the share)"
unfoldable pub share_line : Fraction → List ℕ
share_line s = bytes "share " ++ (long_text s.part ++ (bytes " " ++ (long_text s.whole ++ bytes "\n")))

-- "It prints `encodings`, `windows`, `rows`, `padding`, `special`, `rest` and `share`"
unfoldable pub report_lines : Report → List ℕ
report_lines r =
    number_line (bytes "encodings ") r.encodings
    ++ (number_line (bytes "windows ") r.windows
    ++ (number_line (bytes "rows ") r.rows
    ++ (number_line (bytes "padding ") r.padding
    ++ (number_line (bytes "special ") r.special ++ (number_line (bytes "rest ") r.rest ++ share_line (share_of r))))))

-- "or only `refused` and the number"
unfoldable pub answer_lines : Result Report Refusal → List ℕ
answer_lines (Err why) = number_line (bytes "refused ") (number_of why)
answer_lines (Ok r) = report_lines r
