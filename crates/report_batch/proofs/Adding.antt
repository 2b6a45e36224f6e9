-- What is counted of two lists that store a batch is what the batch adds to a report. Assumes nothing.
use mathlib.Core.Path.{◌≡◌, sym, ap, subst, ◌∙◌}
use Prim.Native.Nat.{ℕ, ◌+◌, ◌-◌, ◌/◌, ◌≤◌}
use native.Mathlib.Nat.{mul-div_cancel}
use native.Mathlib.Omega.{arith}
use mathlib.Core.List.{List}
use lib.ListN.{length}
use Rattle.record.specs.Tree.{Forest, tops}
use Rattle.record.specs.Flat.{row_width, node_width, row_at}
use Rattle.record.specs.WellFormed.{nodes_in, rows_in, Stores}
use Rattle.record.specs.Read.{read, several}
use Rattle.record.specs.Walk.{all_rows}
use Rattle.record.proofs.Flat.{length_nodes, length_rows}
use Rattle.record.proofs.Read.{found}
use Rattle.record.proofs.Walk.{rows_stored}
use Rattle.std.specs.Prelude.{Ok, Err, Option, Some, None, MatchOption, ok_or}
use Rattle.record.specs.declared.Refusal.{Refusal}
use Rattle.record.specs.declared.Refusal.TheVariants.{MalformedRecord, TotalTooLarge}
use Rattle.record_check.specs.Answers.{shape_of}
use Rattle.record_check.proofs.Checked.{refused_as, none_of, any_of}
use Rattle.report_trees.specs.Counts.{windows_in}
use Rattle.report_trees.specs.Report.{counted, summed, WithinTotals, totalled, add_answer}
use Rattle.report_trees.specs.declared.Report.{Report}
use Rattle.report_trees.proofs.Counts.{nodes_tops}
use Rattle.report_trees.proofs.Totals.{totals_fit, totals_too_large}
use Rattle.report_rows.specs.Kinds.{kinds_of}
use Rattle.report_rows.specs.declared.Kinds.{Kinds}

pub added_malformed : (nodes rows : List ℕ) (r : Report) {why : Refusal} → Err why ≡ shape_of (read nodes rows) → Err why ≡ add_answer (read nodes rows) r
unfolding add_answer
added_malformed nodes rows r e =
    ap Err (refused_as (read nodes rows) (sym e)) ∙ sym (none_of (Err MalformedRecord) (λ f. totalled (summed r (counted f))) (read nodes rows) (sym e))

-- the sum, if it is within the limit
pub totalled_of : (t : Report) (sum : Option Report) → MatchOption sum (WithinTotals t → ⊥) (λ s. (s ≡ t) × WithinTotals s) → ok_or sum TotalTooLarge ≡ totalled t
totalled_of t None n = totals_too_large t n
totalled_of t (Some s) (e, w) = ap Ok e ∙ totals_fit t (subst WithinTotals e w)

module _ {nodes rows : List ℕ} {f : Forest} (s : Stores nodes rows f) where
  pub added_batch : (r : Report) → add_answer (read nodes rows) r ≡ totalled (summed r (counted f))
  unfolding add_answer
  added_batch r = any_of (Err MalformedRecord) (λ f. totalled (summed r (counted f))) s

  -- ---- The counts

  nodes_told : length nodes / node_width ≡ tops f + windows_in f
  nodes_told =
      ap (λ (n : ℕ). n / node_width) (ap length (sym s.nodes_are) ∙ length_nodes f s.well.fine)
      ∙ mul-div_cancel (nodes_in f) (omega arith)
      ∙ nodes_tops f

  rows_told : length rows / row_width ≡ rows_in f
  rows_told = ap (λ (n : ℕ). n / row_width) (ap length (sym s.rows_are) ∙ length_rows f) ∙ mul-div_cancel (rows_in f) (omega arith)

  kinds_told : kinds_of (several row_at row_width (length rows / row_width) rows) ≡ kinds_of (all_rows f)
  kinds_told = ap kinds_of (rows_stored nodes rows f (found nodes rows f s))

  module _ {n : ℕ} (top : n ≡ tops f) where
    -- the nodes at the top are among the nodes
    pub tops_within : n ≤ length nodes / node_width
    tops_within = omega (arith, nodes_told)

    windows_told : length nodes / node_width - n ≡ windows_in f
    windows_told = omega (arith, nodes_told)

    pub counts_told : (kinds : Kinds) → kinds ≡ kinds_of (several row_at row_width (length rows / row_width) rows)
        → record { encodings = n; windows = length nodes / node_width - n; rows = length rows / row_width; padding = kinds.padding; special = kinds.special; rest = kinds.rest }
        ≡ counted f
    counts_told kinds e =
        let same = e ∙ kinds_told in
        λ i. record { encodings = top i; windows = windows_told i; rows = rows_told i; padding = (same i).padding; special = (same i).special; rest = (same i).rest }
