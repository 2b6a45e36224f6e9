-- What the window lister answers to a line (document 01, "The window lister").
-- Assumes nothing: these are definitions.
use Rattle.std.specs.Prelude.{ℕ, suc, List, [], ◌∷◌, ◌++◌, length, Option, Some, None}
use Rattle.cut_plan.specs.Cut.{bounds, windows_of, decision_of}
use Rattle.record.specs.declared.Bounds.{Bounds}
use Rattle.cut_plan.specs.declared.Decision.{Decision}
use Rattle.cut_plan.specs.declared.Decision.TheVariants.{Whole, Emptied, StrideRefused, Windows}
use Rattle.listing_text.specs.Text.{bytes, number_text}
use Rattle.listing_request.specs.Asked.{asked_of}
use Rattle.listing_request.specs.declared.Request.{Request}

-- the windows that are listed, by the decision on the cut. "Max 0 with rows prints two windows, the first `0 0 0`": the
-- other is the whole former encoding
abbrev pub windows_by : Decision → Request → List Bounds
windows_by Whole q = []
windows_by Emptied q = bounds 0 0 ∷ bounds 0 q.rows ∷ []
windows_by StrideRefused q = []
windows_by (Windows n) q = windows_of q.rows q.max q.stride q.direction

unfoldable pub windows_listed : Request → List Bounds
windows_listed q = windows_by (decision_of q.rows q.max q.stride) q

-- "`windows n`"
unfoldable pub count_line : ℕ → List ℕ
count_line n = bytes "windows " ++ (number_text n ++ bytes "\n")

-- the first line by the decision on the cut, of which n windows are listed: "`whole` if nothing is cut, `refused 3`"
abbrev pub first_by : Decision → ℕ → List ℕ
first_by Whole n = bytes "whole\n"
first_by Emptied n = count_line n
first_by StrideRefused n = bytes "refused 3\n"
first_by (Windows k) n = count_line n

-- "or `bad line` for any other line"
unfoldable pub first_line : Option Request → List ℕ
first_line None = bytes "bad line\n"
first_line (Some q) = first_by (decision_of q.rows q.max q.stride) (length (windows_listed q))

-- "per window its number (0 is the kept one), first row and row after the last"
unfoldable pub window_line : ℕ → Bounds → List ℕ
window_line i b = number_text i ++ (bytes " " ++ (number_text b.start ++ (bytes " " ++ (number_text b.end ++ bytes "\n"))))

-- those of these windows, numbered from i on
unfoldable pub window_lines : ℕ → List Bounds → List ℕ
window_lines i [] = []
window_lines i (b ∷ bs) = window_line i b ++ window_lines (suc i) bs

abbrev pub windows_of_asked : Option Request → List Bounds
windows_of_asked None = []
windows_of_asked (Some q) = windows_listed q

-- the whole answer to a line
unfoldable pub answer_of : List ℕ → List ℕ
answer_of line = first_line (asked_of line) ++ window_lines 0 (windows_of_asked (asked_of line))
