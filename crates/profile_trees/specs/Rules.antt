-- The six rules of the terminal profile (document 02, request 08), each as the question whether a node breaks it at a row.
-- Assumes nothing: these are definitions.
use Rattle.std.specs.Prelude.{ℕ, suc, Bool, false, ◌&&◌, ◌||◌, not, cond, List, [], ◌∷◌, leb, ltb, eqb}
use Rattle.std.proofs.Math.Option.{Option, none as nothing, some}
use Rattle.std.proofs.Math.ListN.{get_elem?}
use Rattle.record.specs.Tree.{Row, Range, Encoding, tops}
use Rattle.lookup_ranges.specs.First.{or_else, part}
use Rattle.lookup_ranges.specs.Ranges.{present}
use Rattle.lookup_holding.specs.Holding.{holds_row}

-- A node of a batch: whether it is a window, which stands below the top, and its encoding.
pub record BatchNode : Type 0 where
  pub window : Bool
  pub encoding : Encoding

-- Whether a node breaks it at the row with this number.
abbrev pub Rule : Type 0
Rule = BatchNode → ℕ → Bool

-- what is said of a row, and no where there is none
abbrev pub said_of : (Row → Bool) → Option Row → Bool
said_of t nothing = false
said_of t (some r) = t r

-- a rule about each row by itself
abbrev pub of_row : (Row → Bool) → Rule
of_row t N row = said_of t (get_elem? N.encoding.rows row)

-- ---- "windows have no windows"; it is told of "the window that has windows, row 0"

unfoldable pub has_windows : Rule
has_windows N row = N.window && (ltb 0 (tops N.encoding.below) && eqb row 0)

-- ---- "both masks are 0 or 1"

abbrev pub other_mask : Row → Bool
other_mask r = ltb 1 r.special || ltb 1 r.attention

-- ---- "attention is 0 only where the special mask is 1"

abbrev pub unattended : Row → Bool
unattended r = eqb r.attention 0 && not (eqb r.special 1)

-- ---- "offset start does not pass offset end"

abbrev pub start_passes : Row → Bool
start_passes r = ltb r.offset_end r.offset_start

-- ---- "no row lies in two ranges"

-- how many of the ranges are there and hold the row
unfoldable pub holders : ℕ → List Range → ℕ
holders row [] = 0
holders row (p ∷ ps) = cond (holds_row row p) (suc (holders row ps)) (holders row ps)

unfoldable pub in_two : Rule
in_two N row = leb 2 (holders row N.encoding.ranges)

-- ---- "inside each range, or all rows if there are no ranges, the words that are present never fall"

-- the last word that is present
unfoldable pub last_word : List Row → Option ℕ
last_word [] = nothing
last_word (r ∷ rs) = or_else (last_word rs) (cond (eqb r.word_mark 1) (some r.word) nothing)

-- the row has a word, and it is below that one
abbrev pub below_last : Option ℕ → Row → Bool
below_last nothing r = false
below_last (some last) r = eqb r.word_mark 1 && ltb r.word last

-- a "row whose word is below the last one present before it there": among the rows from start on
unfoldable pub falls_from : ℕ → Rule
falls_from start N row = said_of (below_last (last_word (part start row N.encoding.rows))) (get_elem? N.encoding.rows row)

abbrev pub any_range : (Range → Bool) → List Range → Bool
any_range t [] = false
any_range t (p ∷ ps) = t p || any_range t ps

-- "inside each range"
abbrev pub falls_within : BatchNode → ℕ → Range → Bool
falls_within N row p = holds_row row p && falls_from p.start N row

-- "or all rows if there are no ranges"
unfoldable pub word_falls : Rule
word_falls N row = cond (eqb (present N.encoding.ranges) 0) (falls_from 0 N row) (any_range (falls_within N row) N.encoding.ranges)

-- ---- "Rules 1 to 6"

pub record NumberedRule : Type 0 where
  pub number : ℕ
  pub broken : Rule

abbrev pub rule : ℕ → Rule → NumberedRule
rule number broken = record { number = number; broken = broken }

abbrev pub rules : List NumberedRule
rules =
    rule 1 has_windows
    ∷ rule 2 (of_row other_mask)
    ∷ rule 3 (of_row unattended)
    ∷ rule 4 (of_row start_passes)
    ∷ rule 5 in_two
    ∷ rule 6 word_falls
    ∷ []
