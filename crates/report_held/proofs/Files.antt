-- The order of the files plays no part: two inputs that each end with a batch give, one after the other, the same in either order.
-- Assumes nothing.
use mathlib.Core.Path.{◌≡◌, refl, sym, ap, subst, ◌∙◌}
use mathlib.Core.Logic.{◌⊎◌, inl, inr, ⊎_elim}
use mathlib.Core.Bool.{Bool, true, false, cond, false≢true}
use Prim.Native.Nat.{ℕ, zero, suc, ◌≤◌, ◌<◌}
use native.Mathlib.Nat.{add-zero, add_assoc}
use native.Mathlib.Omega.{arith}
use mathlib.Core.List.{List, [], ◌∷◌, ◌++◌, append_assoc, append-nil}
use lib.Dec.{ltb}
use lib.ListN.{length, take, drop, length-drop, take-append-drop}
use borrow.Author.Tests.{ltb-false}
use Rattle.record.specs.Tree.{Forest}
use Rattle.record.specs.Read.{Reading, holds, of_any}
use Rattle.record.specs.declared.Refusal.TheVariants.{MalformedRecord, NoRoom, TotalTooLarge}
use Rattle.report_trees.specs.Report.{empty_report, counted, summed, within_totals, totalled, add_answer, then_added}
use Rattle.report_trees.specs.declared.Report.{Report}
use Rattle.record.specs.declared.Refusal.{Refusal}
use Rattle.std.specs.Prelude.{Result, Ok, Err}
use Rattle.report_trees.proofs.AddUp.{added_is}
use Rattle.report_trees.proofs.Totals.{within_before}
use Rattle.report_trees.proofs.Orders.{summed_swap}
use Rattle.report_stored.specs.Stored.{head_bytes, stored_size, stored_batch}
use Rattle.report_held.specs.Input.{most_stored, first_batch, report_from, report_of}
use Rattle.report_held.proofs.Reports.{report_none, report_next, report_whole}
use Rattle.report_held.proofs.Settling.{front_long, front_size, front_batch}

-- ---- Totals

summed_none : (r : Report) → summed r empty_report ≡ r
summed_none r = λ i. record { encodings = add-zero r.encodings i; windows = add-zero r.windows i; rows = add-zero r.rows i; padding = add-zero r.padding i; special = add-zero r.special i; rest = add-zero r.rest i }

summed_assoc : (r s t : Report) → summed (summed r s) t ≡ summed r (summed s t)
summed_assoc r s t = λ i.
    record {
      encodings = add_assoc r.encodings s.encodings t.encodings i;
      windows = add_assoc r.windows s.windows t.windows i;
      rows = add_assoc r.rows s.rows t.rows i;
      padding = add_assoc r.padding s.padding t.padding i;
      special = add_assoc r.special s.special t.special i;
      rest = add_assoc r.rest s.rest t.rest i;
    }

totalled_within : (r : Report) → within_totals r ≡ true → totalled r ≡ Ok r
unfolding totalled
totalled_within r w = rw w

-- what follows a total that is too large plays no part, also if more is added before it is looked at
totalled_then : (r s : Report) (k j : Report → Result Report Refusal) → (within_totals r ≡ true → k r ≡ then_added (totalled (summed r s)) j) → then_added (totalled r) k ≡ then_added (totalled (summed r s)) j
unfolding totalled
totalled_then r s k j h = go (within_totals r) (within_totals (summed r s)) refl refl
  where
    go : (b c : Bool) → within_totals r ≡ b → within_totals (summed r s) ≡ c → then_added (cond b (Ok r) (Err TotalTooLarge)) k ≡ then_added (totalled (summed r s)) j
    go true c p q = h p
    go false true p q = absurd (false≢true (sym p ∙ within_before r s q))
    go false false p q = rw q

-- ---- A file

-- whatever the report before them, and whatever follows, these bytes add so much to it
pub record Adds (bytes : List ℕ) (d : Report) : Type 0 where
  pub adds : (r : Report) (more : List ℕ) → within_totals r ≡ true → report_from r (bytes ++ more) ≡ then_added (totalled (summed r d)) (λ s. report_from s more)

adds_none : Adds [] empty_report
adds_none = record { adds = λ r more w. sym (ap (λ (x : Result Report Refusal). then_added x (λ s. report_from s more)) (ap totalled (summed_none r) ∙ totalled_within r w)) }

-- the bytes begin with a whole batch that was not refused
record Begins (bytes : List ℕ) (s t : Report) : Type 0 where
  pub counts : head_bytes ≤ length bytes
  pub small : stored_size bytes ≤ most_stored
  pub whole : stored_size bytes ≤ length bytes
  pub batch : Forest
  pub is : stored_batch bytes ≡ holds batch
  pub then : report_from (summed s (counted batch)) (drop (stored_size bytes) bytes) ≡ Ok t

after_added : (x : Result Report Refusal) (k : Report → Result Report Refusal) {t : Report} → then_added x k ≡ Ok t → (s : Report) × (x ≡ Ok s) × (k s ≡ Ok t)
after_added (Err why) k e = absurd (cc)
after_added (Ok s) k e = (s, refl, e)

begins_whole : (bytes : List ℕ) (s : Report) {t : Report} → 0 < length bytes → report_from s bytes ≡ Ok t → Begins bytes s t
unfolding first_batch
begins_whole bytes s {t} some e = go (ltb (length bytes) head_bytes) (ltb most_stored (stored_size bytes)) (ltb (length bytes) (stored_size bytes)) refl refl refl (sym (report_next s bytes some) ∙ e)
  where
    go : (a b c : Bool) → ltb (length bytes) head_bytes ≡ a → ltb most_stored (stored_size bytes) ≡ b → ltb (length bytes) (stored_size bytes) ≡ c
        → cond a (Err MalformedRecord) (cond b (Err NoRoom) (cond c (Err MalformedRecord) (then_added (add_answer (stored_batch bytes) s) (λ r. report_from r (drop (stored_size bytes) bytes))))) ≡ Ok t → Begins bytes s t
    go true b c p q r e = absurd (cc)
    go false true c p q r e = absurd (cc)
    go false false true p q r e = absurd (cc)
    go false false false p q r e =
        let after = after_added (add_answer (stored_batch bytes) s) (λ r. report_from r (drop (stored_size bytes) bytes)) e in
        let added = added_is (stored_batch bytes) s after.1 in
        record {
          counts = ltb-false (length bytes) head_bytes p;
          small = ltb-false most_stored (stored_size bytes) q;
          whole = ltb-false (length bytes) (stored_size bytes) r;
          batch = added.0;
          is = added.1;
          then = ap (λ (x : Report). report_from x (drop (stored_size bytes) bytes)) (sym added.2) ∙ after.2;
        }

adds_more : (bytes : List ℕ) {s t : Report} (b : Begins bytes s t) {d : Report} → Adds (drop (stored_size bytes) bytes) d → Adds bytes (summed (counted b.batch) d)
unfolding add_answer of_any
adds_more bytes b {d} a =
    let size = stored_size bytes in
    let front = take size bytes in
    let left = drop size bytes in
    let f = counted b.batch in
    let long = front_long bytes size (omega arith) b.whole in
    let same = front_size bytes size (omega arith) b.whole in
    record {
      adds = λ r more w.
          ap (report_from r) (ap (λ (l : List ℕ). l ++ more) (sym (take-append-drop size bytes)) ∙ append_assoc front left more)
          ∙ report_whole r front (omega arith) (omega (arith, same, b.small)) (omega (arith, long, same)) (left ++ more)
          ∙ ap (λ (x : Reading). then_added (add_answer x r) (λ s. report_from s (left ++ more))) (front_batch bytes size (omega arith) b.whole (omega arith) ∙ b.is)
          ∙ totalled_then (summed r f) d (λ s. report_from s (left ++ more)) (λ s. report_from s more) (λ v. a.adds (summed r f) more v)
          ∙ ap (λ (x : Report). then_added (totalled x) (λ s. report_from s more)) (summed_assoc r f d);
    }

empty_or_some : (bytes : List ℕ) → (bytes ≡ []) ⊎ (0 < length bytes)
empty_or_some [] = inl refl
empty_or_some (x ∷ bytes) = inr (omega arith)

adds_empty : (bytes : List ℕ) → bytes ≡ [] → (d : Report) × Adds bytes d
adds_empty bytes p = (empty_report, subst (λ (l : List ℕ). Adds l empty_report) (sym p) adds_none)

-- an input that is not refused adds so much, whatever it was added to
file_adds : (n : ℕ) (bytes : List ℕ) → length bytes ≤ n → (s : Report) {t : Report} → report_from s bytes ≡ Ok t → (d : Report) × Adds bytes d
file_adds zero bytes h s e = ⊎_elim (adds_empty bytes) (λ (some : 0 < length bytes). absurd (omega arith)) (empty_or_some bytes)
file_adds (suc n) bytes h s e = ⊎_elim (adds_empty bytes) (λ (some : 0 < length bytes).
    let b = begins_whole bytes s some e in
    let a = file_adds n (drop (stored_size bytes) bytes) (omega (arith, length-drop (stored_size bytes) bytes, b.whole)) (summed s (counted b.batch)) b.then in
    (summed (counted b.batch) a.0, adds_more bytes b a.1)) (empty_or_some bytes)

-- ---- Two files

-- of a file that is not refused by itself
module _ (bytes : List ℕ) {t : Report} (e : report_of bytes ≡ Ok t) where
  alone : (d : Report) × Adds bytes d
  unfolding report_of
  alone = file_adds (length bytes) bytes (omega arith) empty_report e

then_added_done : (x : Result Report Refusal) (k : Report → Result Report Refusal) → ((s : Report) → k s ≡ Ok s) → then_added x k ≡ x
then_added_done (Err why) k h = refl
then_added_done (Ok s) k h = h s

-- one after the other they add both
both_told : (a b : List ℕ) {c d : Report} → Adds a c → Adds b d → report_of (a ++ b) ≡ totalled (summed (summed empty_report c) d)
unfolding report_of
both_told a b {c} {d} p q =
    p.adds empty_report b refl
    ∙ totalled_then (summed empty_report c) d (λ s. report_from s b) (λ s. report_from s []) (λ v. ap (report_from (summed empty_report c)) (sym (append-nil b)) ∙ q.adds (summed empty_report c) [] v)
    ∙ then_added_done (totalled (summed (summed empty_report c) d)) (λ s. report_from s []) report_none

-- "Two batches added in either order give the same report", and so two files of batches; also if both together are refused
pub files_either_order : (a b : List ℕ) {s t : Report} → report_of a ≡ Ok s → report_of b ≡ Ok t → report_of (a ++ b) ≡ report_of (b ++ a)
files_either_order a b e f =
    let p = alone a e in
    let q = alone b f in
    both_told a b p.1 q.1 ∙ ap totalled (summed_swap empty_report p.0 q.0) ∙ sym (both_told b a q.1 p.1)
