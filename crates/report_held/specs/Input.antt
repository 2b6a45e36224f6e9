-- What stands in the input of the report program (document 02, request 03): batches one after another to its end, or a refusal.
-- Assumes nothing: these are definitions.
use Rattle.std.specs.Prelude.{ℕ, zero, suc, cond, List, [], ◌∷◌, ltb, length, drop, Result, Ok, Err}
use Rattle.record.specs.declared.Refusal.TheVariants.{MalformedRecord, NoRoom}
use Rattle.report_trees.specs.Report.{empty_report, add_answer, then_added}
use Rattle.report_trees.specs.declared.Report.{Report}
use Rattle.record.specs.declared.Refusal.{Refusal}
use Rattle.report_stored.specs.Stored.{head_bytes, stored_size, stored_batch}

-- "at most 65,536 bytes a batch with its counts"
abbrev pub most_stored : ℕ
most_stored = 65536

-- the batch at the front of some bytes added to a report, of which k then tells: "2 for a larger batch, once its counts are read, 1
-- for a file cut short", and as adding refuses it
unfoldable pub first_batch : List ℕ → Report → (Report → Result Report Refusal) → Result Report Refusal
first_batch bytes r k =
    cond (ltb (length bytes) head_bytes) (Err MalformedRecord)
    (cond (ltb most_stored (stored_size bytes)) (Err NoRoom)
    (cond (ltb (length bytes) (stored_size bytes)) (Err MalformedRecord)
    (then_added (add_answer (stored_batch bytes) r) k)))

-- the batches of some bytes added to a report, in at most so many steps
unfoldable pub report_up_to : ℕ → Report → List ℕ → Result Report Refusal
report_up_to zero r bytes = Ok r
report_up_to (suc steps) r [] = Ok r
report_up_to (suc steps) r (b ∷ bytes) = first_batch (b ∷ bytes) r (λ s. report_up_to steps s (drop (stored_size (b ∷ bytes)) (b ∷ bytes)))

-- each step passes over a byte at least, so there are no more of them than bytes
unfoldable pub report_from : Report → List ℕ → Result Report Refusal
report_from r bytes = report_up_to (length bytes) r bytes

-- what is told of an input: the report over its batches, or the first refusal
unfoldable pub report_of : List ℕ → Result Report Refusal
report_of bytes = report_from empty_report bytes
