-- What is held of an input: after more bytes of a batch have come, and at the input's end. Assumes nothing.
use mathlib.Core.Path.{◌≡◌, refl, sym, ap, ap₂, subst, ◌∙◌}
use mathlib.Core.Logic.{inl, inr, ⊎_elim}
use Prim.Native.Nat.{ℕ, ◌≤◌, ◌<◌}
use native.Mathlib.Omega.{arith}
use mathlib.Core.List.{List, [], ◌++◌, append-nil}
use lib.ListN.{length, take, drop, take-append-drop}
use lib.Seq.{length-take-le}
use Rattle.record.specs.declared.Refusal.{Refusal}
use Rattle.record.specs.declared.Refusal.TheVariants.{MalformedRecord, NoRoom}
use Rattle.report_trees.specs.Report.{add_answer, then_added}
use Rattle.report_trees.specs.declared.Report.{Report}
use Rattle.std.specs.Prelude.{Result, Ok, Err}
use Rattle.report_stored.specs.Stored.{head_bytes, stored_size, stored_batch, Whole}
use Rattle.report_stored.proofs.Stored.{size_first, batch_first}
use Rattle.report_held.specs.Input.{most_stored, report_from}
use Rattle.report_held.specs.Promises.{resumed, LentStores, Partial, Arrived, Settles}
use Rattle.report_held.specs.declared.Held.{Held}
use Rattle.report_held.proofs.Reports.{report_none, report_short, report_too_large, report_cut, report_whole}

-- ---- What is held

pub resumed_is : {held : Held} {n : ℕ} {report : Result Report Refusal} → held.bytes ≡ n → held.report ≡ report → (batch more : List ℕ) → resumed held batch more ≡ then_added report (λ r. report_from r (take n batch ++ more))
unfolding resumed
resumed_is p q batch more = ap₂ (λ (n : ℕ) (report : Result Report Refusal). then_added report (λ r. report_from r (take n batch ++ more))) p q

-- ---- The bytes of a batch that have come

-- the counts are among the first bytes
module _ (batch : List ℕ) (n : ℕ) (counts : head_bytes ≤ n) (inside : n ≤ length batch) where
  pub front_long : length (take n batch) ≡ n
  front_long = length-take-le n batch inside

  pub front_size : stored_size (take n batch) ≡ stored_size batch
  front_size = sym (size_first (take n batch) (drop n batch) (omega (arith, front_long))) ∙ ap stored_size (take-append-drop n batch)

  pub front_batch : stored_size batch ≤ n → stored_batch (take n batch) ≡ stored_batch batch
  front_batch whole =
      sym (batch_first (take n batch) (drop n batch) (omega (arith, front_long)) (omega (arith, front_long, front_size))) ∙ ap stored_batch (take-append-drop n batch)

pub partial_whole : (batch : List ℕ) (n : ℕ) → Partial batch n → head_bytes ≤ n → (n < stored_size batch) × (stored_size batch ≤ most_stored)
partial_whole batch n (inl few) h = absurd (omega arith)
partial_whole batch n (inr (c, l, s)) h = (l, s)

pub partial_inside : (batch : List ℕ) (n : ℕ) → length batch ≡ most_stored → Partial batch n → n ≤ length batch
partial_inside batch n e (inl few) = omega arith
partial_inside batch n e (inr p) = omega (arith, p)

-- ---- Settled

module _ (batch numbers : List ℕ) (lent : LentStores batch numbers) (n : ℕ) (arrived : Arrived batch n) (report : Report) where
  arrived_inside : n ≤ length batch
  arrived_inside = ⊎_elim (λ (h : n ≤ head_bytes). omega (arith, lent.batch_long)) (λ (h : (head_bytes ≤ n) × (n ≤ stored_size batch) × (stored_size batch ≤ most_stored)). omega (arith, h, lent.batch_long)) arrived

  -- no more has come than the counts say
  arrived_few : n ≤ stored_size batch
  arrived_few = ⊎_elim (λ (h : n ≤ head_bytes). omega arith) (λ (h : (head_bytes ≤ n) × (n ≤ stored_size batch) × (stored_size batch ≤ most_stored)). h.1) arrived

  pub settled_wait : {held : Held} → held.bytes ≡ n → held.report ≡ Ok report → Partial batch n → Settles batch n report held
  settled_wait p q partial = record { partial = subst (Partial batch) (sym p) partial; same = λ more. resumed_is p q batch more }

  pub settled_large : {held : Held} → held.bytes ≡ 0 → held.report ≡ Err NoRoom → head_bytes ≤ n → most_stored < stored_size batch → Settles batch n report held
  settled_large p q counts large =
      record {
        partial = inl (omega arith);
        same = λ more. resumed_is p q batch more
            ∙ sym (report_too_large report (take n batch) (omega (arith, front_long batch n counts arrived_inside)) (omega (arith, front_size batch n counts arrived_inside)) more);
      }

  pub settled_whole : {held : Held} {added : Result Report Refusal} → held.bytes ≡ 0 → held.report ≡ added → added ≡ add_answer (stored_batch batch) report → head_bytes ≤ n → stored_size batch ≤ n → stored_size batch ≤ most_stored → Settles batch n report held
  settled_whole p q a counts whole small =
      record {
        partial = inl (omega arith);
        same = λ more. resumed_is p q batch more
            ∙ ap (λ (x : Result Report Refusal). then_added x (λ r. report_from r more)) (a ∙ ap (λ b. add_answer b report) (sym (front_batch batch n counts arrived_inside whole)))
            ∙ sym (report_whole report (take n batch) (omega (arith, front_long batch n counts arrived_inside)) (omega (arith, front_size batch n counts arrived_inside)) (omega (arith, front_long batch n counts arrived_inside, front_size batch n counts arrived_inside, arrived_few)) more);
      }

  pub whole_there : stored_size batch ≤ most_stored → Whole batch numbers
  whole_there small = record { counts = omega (arith, lent.batch_long); whole = omega (arith, lent.batch_long); room = omega (arith, lent.numbers_long) }

-- ---- The end of the input

module _ (held : Held) (batch : List ℕ) (partial : Partial batch held.bytes) (inside : held.bytes ≤ length batch) where
  pub ended_refused : {why : Refusal} → held.report ≡ Err why → Err why ≡ resumed held batch []
  ended_refused q = sym (resumed_is refl q batch [])

  pub ended_whole : {report : Report} → held.report ≡ Ok report → held.bytes ≡ 0 → Ok report ≡ resumed held batch []
  ended_whole {report} q e = sym (resumed_is e q batch [] ∙ report_none report)

  -- within a batch it is cut short
  pub ended_cut : {report : Report} → held.report ≡ Ok report → 0 < held.bytes → Err MalformedRecord ≡ resumed held batch []
  ended_cut {report} q some =
      let n = held.bytes in
      let long : length (take n batch) ≡ n = length-take-le n batch inside in
      sym (resumed_is refl q batch [] ∙ ap (report_from report) (append-nil (take n batch)) ∙ ⊎_elim (λ (few : n < head_bytes). report_short report (take n batch) (omega arith) (omega arith)) (λ (p : (head_bytes ≤ n) × (n < stored_size batch) × (stored_size batch ≤ most_stored)). report_cut report (take n batch) (omega arith) (omega (arith, front_size batch n p.0 inside)) (omega (arith, front_size batch n p.0 inside))) partial)
