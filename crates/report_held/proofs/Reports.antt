-- What is told of some bytes, by the batch at their front: how many steps are allowed plays no part, nor does what follows a batch.
-- Assumes nothing.
use mathlib.Core.Path.{◌≡◌, refl, ap, ◌∙◌}
use Prim.Native.Nat.{ℕ, zero, suc, ◌≤◌, ◌<◌}
use native.Mathlib.Omega.{arith}
use mathlib.Core.List.{List, [], ◌∷◌, ◌++◌}
use lib.ListN.{length, drop, length-append, length-drop}
use lib.Seq.{drop_at}
use borrow.Author.Tests.{lt-ltb, le-ltb}
use Rattle.record.specs.declared.Refusal.TheVariants.{MalformedRecord, NoRoom}
use Rattle.report_trees.specs.Report.{add_answer, then_added}
use Rattle.report_trees.specs.declared.Report.{Report}
use Rattle.std.specs.Prelude.{Ok, Err}
use Rattle.report_stored.specs.Stored.{head_bytes, stored_size, stored_batch}
use Rattle.report_stored.proofs.Stored.{size_first, batch_first}
use Rattle.report_held.specs.Input.{most_stored, first_batch, report_up_to, report_from}

-- ---- Steps

left_fewer : (b : ℕ) (bytes : List ℕ) (n : ℕ) → length (b ∷ bytes) ≤ suc n → length (drop (stored_size (b ∷ bytes)) (b ∷ bytes)) ≤ n
left_fewer b bytes n h = omega (arith, length-drop (stored_size (b ∷ bytes)) (b ∷ bytes))

steps_enough : (some others : ℕ) (r : Report) (bytes : List ℕ) → length bytes ≤ some → length bytes ≤ others → report_up_to some r bytes ≡ report_up_to others r bytes
unfolding report_up_to
steps_enough zero zero r bytes p q = refl
steps_enough zero (suc others) r [] p q = refl
steps_enough zero (suc others) r (b ∷ bytes) p q = absurd (omega arith)
steps_enough (suc some) zero r [] p q = refl
steps_enough (suc some) zero r (b ∷ bytes) p q = absurd (omega arith)
steps_enough (suc some) (suc others) r [] p q = refl
steps_enough (suc some) (suc others) r (b ∷ bytes) p q =
    let rest = drop (stored_size (b ∷ bytes)) (b ∷ bytes) in
    ap (first_batch (b ∷ bytes) r) (λ i s. steps_enough some others s rest (left_fewer b bytes some p) (left_fewer b bytes others q) i)

-- ---- The batch at the front

pub report_none : (r : Report) → report_from r [] ≡ Ok r
unfolding report_from report_up_to
report_none r = refl

pub report_next : (r : Report) (bytes : List ℕ) → 0 < length bytes → report_from r bytes ≡ first_batch bytes r (λ s. report_from s (drop (stored_size bytes) bytes))
unfolding report_from report_up_to
report_next r [] h = absurd (omega arith)
report_next r (b ∷ bytes) h =
    let rest = drop (stored_size (b ∷ bytes)) (b ∷ bytes) in
    ap (first_batch (b ∷ bytes) r) (λ i s. steps_enough (length bytes) (length rest) s rest (left_fewer b bytes (length bytes) (omega arith)) (omega arith) i)

-- fewer bytes than the counts have
pub report_short : (r : Report) (bytes : List ℕ) → 0 < length bytes → length bytes < head_bytes → report_from r bytes ≡ Err MalformedRecord
unfolding first_batch
report_short r bytes some h = report_next r bytes some ∙ rw (lt-ltb (length bytes) head_bytes h)

module _ (r : Report) (bytes : List ℕ) (counts : head_bytes ≤ length bytes) where
  -- counts that say too much, whatever follows
  pub report_too_large : most_stored < stored_size bytes → (more : List ℕ) → report_from r (bytes ++ more) ≡ Err NoRoom
  unfolding first_batch
  report_too_large large more =
      let both = length-append bytes more in
      report_next r (bytes ++ more) (omega arith)
      ∙ rw (le-ltb (length (bytes ++ more)) head_bytes (omega arith), size_first bytes more counts, lt-ltb most_stored (stored_size bytes) large)

  module _ (small : stored_size bytes ≤ most_stored) where
    -- fewer bytes than the counts say
    pub report_cut : length bytes < stored_size bytes → report_from r bytes ≡ Err MalformedRecord
    unfolding first_batch
    report_cut cut =
        report_next r bytes (omega arith)
        ∙ rw (le-ltb (length bytes) head_bytes counts, le-ltb most_stored (stored_size bytes) small, lt-ltb (length bytes) (stored_size bytes) cut)

    -- a whole batch, and what follows
    pub report_whole : length bytes ≡ stored_size bytes → (more : List ℕ) → report_from r (bytes ++ more) ≡ then_added (add_answer (stored_batch bytes) r) (λ s. report_from s more)
    unfolding first_batch
    report_whole whole more =
        let both = length-append bytes more in
        report_next r (bytes ++ more) (omega arith)
        ∙ rw (le-ltb (length (bytes ++ more)) head_bytes (omega arith), size_first bytes more counts, le-ltb most_stored (stored_size bytes) small, le-ltb (length (bytes ++ more)) (stored_size bytes) (omega arith), batch_first bytes more counts (omega arith), drop_at bytes more (stored_size bytes) whole)
