-- A report, a batch added to it, and what is to hold of reports (document 02, request 03).
-- Assumes nothing: these are definitions.
use Rattle.std.specs.Prelude.{◌≡◌, Bool, ◌&&◌, cond, List, ℕ, ◌+◌, ◌≤◌, leb, Result, Ok, Err}
use Rattle.fractions.specs.Fractions.{lowest_of}
use Rattle.fractions.specs.declared.Fraction.{Fraction}
use Rattle.record.specs.Tree.{Forest, tops}
use Rattle.record.specs.WellFormed.{rows_in}
use Rattle.record.specs.Read.{Reading, read, of_any}
use Rattle.record.specs.declared.Refusal.{Refusal}
use Rattle.record.specs.declared.Refusal.TheVariants.{MalformedRecord, TotalTooLarge}
use Rattle.report_trees.specs.Counts.{windows_in, padding_in, special_in, rest_in}
use Rattle.report_trees.specs.declared.Report.{Report}

abbrev pub empty_report : Report
empty_report = record { encodings = 0; windows = 0; rows = 0; padding = 0; special = 0; rest = 0 }

-- "top encodings, windows at every level, rows of both together, and of the rows those with attention 0, those with attention
-- not 0 and special mask not 0, and the rest": what a batch adds
abbrev pub counted : Forest → Report
counted f = record { encodings = tops f; windows = windows_in f; rows = rows_in f; padding = padding_in f; special = special_in f; rest = rest_in f }

-- each total of both
abbrev pub summed : Report → Report → Report
summed r s =
    record {
      encodings = r.encodings + s.encodings;
      windows = r.windows + s.windows;
      rows = r.rows + s.rows;
      padding = r.padding + s.padding;
      special = r.special + s.special;
      rest = r.rest + s.rest;
    }

-- "18,446,744,073,709,551,615"
abbrev pub largest_total : ℕ
largest_total = 18446744073709551615

abbrev pub within_totals : Report → Bool
within_totals r =
    leb r.encodings largest_total
    && (leb r.windows largest_total
    && (leb r.rows largest_total && (leb r.padding largest_total && (leb r.special largest_total && leb r.rest largest_total))))

-- the same as a fact
abbrev pub WithinTotals : Report → Type 0
WithinTotals r =
    (r.encodings ≤ largest_total)
    × ((r.windows ≤ largest_total) × ((r.rows ≤ largest_total) × ((r.padding ≤ largest_total) × ((r.special ≤ largest_total) × (r.rest ≤ largest_total)))))

-- "22 if a total would pass 18,446,744,073,709,551,615"
unfoldable pub totalled : Report → Result Report Refusal
totalled r = cond (within_totals r) (Ok r) (Err TotalTooLarge)

-- "Turned away: 1, then 22": a batch added to a report
unfoldable pub add_answer : Reading → Report → Result Report Refusal
add_answer batch r = of_any (Err MalformedRecord) (λ f. totalled (summed r (counted f))) batch

-- what k says of the report, unless it was refused
abbrev pub then_added : Result Report Refusal → (Report → Result Report Refusal) → Result Report Refusal
then_added (Err why) k = Err why
then_added (Ok r) k = k r

-- one batch added, and then another
abbrev pub add_two : Reading → Reading → Report → Result Report Refusal
add_two a b r = then_added (add_answer a r) (add_answer b)

-- "every report begun empty": the empty one, and one to which a batch was added that was not refused
pub data Begun : Report → Type 0 where
  begun_empty : Begun empty_report
  begun_more : {r s : Report} (nodes rows : List ℕ) → Begun r → add_answer (read nodes rows) r ≡ Ok s → Begun s

-- "the three kinds are shown to add up to the rows"
abbrev pub KindsAddUp : Report → Type 0
KindsAddUp r = r.padding + (r.special + r.rest) ≡ r.rows

-- "The padding share is rows with attention 0 over all rows in lowest terms, 0 of 0 when there are no rows"
abbrev pub share_of : Report → Fraction
share_of r = lowest_of r.padding r.rows
