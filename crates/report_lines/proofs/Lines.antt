-- The lines of a report from their parts, and how long they can be.
-- Assumes nothing.
use mathlib.Core.Path.{◌≡◌, ap}
use Prim.Native.Nat.{ℕ, ◌+◌, ◌*◌, ◌≤◌}
use native.Mathlib.Omega.{arith}
use mathlib.Core.List.{List, [], ◌∷◌, ◌++◌, append_assoc}
use lib.ListN.{length, length-append}
use Rattle.fractions.specs.declared.Fraction.{Fraction}
use Rattle.report_trees.specs.Report.{share_of}
use Rattle.report_trees.specs.declared.Report.{Report}
use Rattle.record.specs.declared.Refusal.{Refusal}
use Rattle.std.specs.Prelude.{Result, Ok, Err}
use Rattle.record.specs.Refusals.{number_of}
use Rattle.listing_text.specs.Promises.{WroteText}
use Rattle.listing_text.specs.Text.{bytes, long_digits, long_text}
use Rattle.listing_text.proofs.Text.{long_few}
use Rattle.report_lines.specs.Lines.{number_line, share_line, report_lines, answer_lines}
use Rattle.report_lines.specs.Parts.{answer_room, longest_total, longest_share, node_lines, kind_lines}

-- ---- How long

-- a number and the byte that ends it
abbrev pub ended : ℕ → ℕ → List ℕ
ended n byte = long_text n ++ (byte ∷ [])

pub ended_few : (n byte : ℕ) → length (ended n byte) ≤ long_digits + 1
ended_few n byte = omega (arith, length-append (long_text n) (byte ∷ []), long_few n)

pub number_line_few : (word : List ℕ) (n : ℕ) → length word ≤ 10 → length (number_line word n) ≤ longest_total
unfolding number_line
number_line_few word n h = omega (arith, length-append word (ended n 10), ended_few n 10)

-- of three words and their numbers
three_lines_few : (u v w : List ℕ) (i j k : ℕ) → length u ≤ 10 → length v ≤ 10 → length w ≤ 10 → length (number_line u i ++ (number_line v j ++ number_line w k)) ≤ 3 * longest_total
three_lines_few u v w i j k a b c = simp length-append (omega (arith, number_line_few u i a, number_line_few v j b, number_line_few w k c))

module _ (r : Report) where
  pub node_lines_few : length (node_lines r) ≤ 3 * longest_total
  unfolding node_lines
  node_lines_few = three_lines_few _ _ _ r.encodings r.windows r.rows (omega arith) (omega arith) (omega arith)

  pub kind_lines_few : length (kind_lines r) ≤ 3 * longest_total
  unfolding kind_lines
  kind_lines_few = three_lines_few _ _ _ r.padding r.special r.rest (omega arith) (omega arith) (omega arith)

-- ---- Where what was written ends at the latest

pub number_ends_within : (n byte : ℕ) {out out' : List ℕ} {at next : ℕ} → WroteText (ended n byte) out at next out' → next ≤ at + long_digits + 1
number_ends_within n byte w = omega (arith, w.ends, ended_few n byte)

pub line_ends_within : (word : List ℕ) (n : ℕ) {out out' : List ℕ} {at next : ℕ} → WroteText (number_line word n) out at next out' → length word ≤ 10 → next ≤ at + longest_total
line_ends_within word n w h = omega (arith, w.ends, number_line_few word n h)

-- ---- Whole from parts

pub share_in_parts : (s : Fraction) → bytes "share " ++ (ended s.part 32 ++ ended s.whole 10) ≡ share_line s
unfolding share_line
share_in_parts s = simp append_assoc

pub report_in_parts : (r : Report) → node_lines r ++ (kind_lines r ++ share_line (share_of r)) ≡ report_lines r
unfolding report_lines node_lines kind_lines
report_in_parts r = simp append_assoc

-- ---- How long an answer is

share_few : (s : Fraction) → length (share_line s) ≤ longest_share
share_few s =
    omega (arith, ap length (share_in_parts s), length-append (bytes "share ") (ended s.part 32 ++ ended s.whole 10), length-append (ended s.part 32) (ended s.whole 10), ended_few s.part 32, ended_few s.whole 10)

-- the whole answer has room
pub answer_few : (answer : Result Report Refusal) → length (answer_lines answer) ≤ answer_room
unfolding answer_lines
answer_few (Err why) = omega (arith, number_line_few (bytes "refused ") (number_of why) (omega arith))
answer_few (Ok r) =
    omega (arith, ap length (report_in_parts r), length-append (node_lines r) (kind_lines r ++ share_line (share_of r)), length-append (kind_lines r) (share_line (share_of r)), node_lines_few r, kind_lines_few r, share_few (share_of r))
