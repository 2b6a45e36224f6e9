-- Two batches added in either order give the same report. Assumes nothing.
use mathlib.Core.Path.{◌≡◌, refl, sym, ap, ◌∙◌}
use mathlib.Core.Bool.{Bool, true, false, cond, false≢true}
use Prim.Native.Nat.{ℕ, ◌+◌}
use native.Mathlib.Omega.{arith}
use Rattle.record.specs.Tree.{Forest}
use Rattle.record.specs.Read.{Reading, malformed, holds, of_any}
use Rattle.record.specs.declared.Refusal.TheVariants.{MalformedRecord, TotalTooLarge}
use Rattle.report_trees.proofs.Totals.{within_before}
use Rattle.report_trees.specs.Report.{counted, summed, within_totals, totalled, add_answer, then_added, add_two}
use Rattle.report_trees.specs.declared.Report.{Report}
use Rattle.record.specs.declared.Refusal.{Refusal}
use Rattle.std.specs.Prelude.{Result, Ok, Err}

-- ---- One batch after another

-- the first is refused only if both together are
pub totalled_twice : (r s : Report) → then_added (totalled r) (λ t. totalled (summed t s)) ≡ totalled (summed r s)
unfolding totalled
totalled_twice r s = go (within_totals r) (within_totals (summed r s)) refl refl
  where
    go : (b c : Bool) → within_totals r ≡ b → within_totals (summed r s) ≡ c
        → then_added (cond b (Ok r) (Err TotalTooLarge)) (λ t. cond (within_totals (summed t s)) (Ok (summed t s)) (Err TotalTooLarge))
        ≡ cond c (Ok (summed r s)) (Err TotalTooLarge)
    go true c p q = ap (λ (x : Bool). cond x (Ok (summed r s)) (Err TotalTooLarge)) q
    go false true p q = absurd (false≢true (sym p ∙ within_before r s q))
    go false false p q = refl

pub added_twice : (f g : Forest) (r : Report) → add_two (holds f) (holds g) r ≡ totalled (summed (summed r (counted f)) (counted g))
unfolding add_answer of_any
added_twice f g r = totalled_twice (summed r (counted f)) (counted g)

-- ---- Either order

swap : (a b c : ℕ) → a + b + c ≡ a + c + b
swap a b c = omega arith

pub summed_swap : (r s t : Report) → summed (summed r s) t ≡ summed (summed r t) s
summed_swap r s t = λ i.
    record {
      encodings = swap r.encodings s.encodings t.encodings i;
      windows = swap r.windows s.windows t.windows i;
      rows = swap r.rows s.rows t.rows i;
      padding = swap r.padding s.padding t.padding i;
      special = swap r.special s.special t.special i;
      rest = swap r.rest s.rest t.rest i;
    }

-- of well-formed batches, whether refused or not
pub either_order_stored : (f g : Forest) (r : Report) → add_two (holds f) (holds g) r ≡ add_two (holds g) (holds f) r
either_order_stored f g r = added_twice f g r ∙ ap totalled (summed_swap r (counted f) (counted g)) ∙ sym (added_twice g f r)

never_done : (x : Result Report Refusal) {s : Report} → then_added x (λ t. Err MalformedRecord) ≡ Ok s → ⊥
never_done (Err why) e = cc
never_done (Ok t) e = cc

-- "Two batches added in either order give the same report, provided neither addition is refused"
pub either_order : (a b : Reading) (r : Report) {s : Report} → add_two a b r ≡ Ok s → add_two b a r ≡ Ok s
unfolding add_answer of_any
either_order malformed b r e = cc
either_order (holds f) malformed r e = absurd (never_done (totalled (summed r (counted f))) e)
either_order (holds f) (holds g) r e = either_order_stored g f r ∙ e
