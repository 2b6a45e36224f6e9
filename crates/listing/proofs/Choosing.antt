-- The windows that are listed, by the decision on the cut.
-- Assumes nothing.
use mathlib.Core.Path.{◌≡◌, refl, sym, ap, subst, ◌∙◌}
use Prim.Native.Nat.{ℕ, zero, suc, ◌+◌, ◌≤◌}
use native.Mathlib.Omega.{arith}
use mathlib.Core.List.{List, [], ◌∷◌}
use lib.ListN.{length, get_or, length-append}
use Rattle.cut_plan.specs.Cut.{bounds, decision_of}
use Rattle.record.specs.declared.Bounds.{Bounds}
use Rattle.cut_plan.specs.declared.Decision.{Decision}
use Rattle.cut_plan.specs.declared.Decision.TheVariants.{Whole, Emptied, StrideRefused, Windows}
use Rattle.cut_plan.proofs.Decides.{Says, decided}
use Rattle.cut_plan.proofs.Windows.{windows_count}
use Rattle.listing_text.specs.Text.{bytes, number_text}
use Rattle.listing.specs.Answer.{windows_by, windows_listed, count_line, first_by, first_line}
use Rattle.listing.specs.Promises.{longest_line, ReadyOutput}
use Rattle.listing_text.specs.Promises.{WroteText}
use Rattle.listing_request.specs.declared.Request.{Request}
use Rattle.std.specs.Prelude.{Option, Some, None}
use Rattle.listing_text.proofs.Text.{number_few}
use Rattle.listing_text.proofs.Wrote.{wrote_long}

module _ (q : Request) {k : Decision} (e : k ≡ decision_of q.rows q.max q.stride) where
  pub listed_by : windows_listed q ≡ windows_by k q
  unfolding windows_listed
  listed_by = ap (λ (x : Decision). windows_by x q) (sym e)

  pub count_by : length (windows_by k q) ≡ length (windows_listed q)
  count_by = ap length (sym listed_by)

  pub window_by : (i : ℕ) → get_or (windows_by k q) i (bounds 0 0) ≡ get_or (windows_listed q) i (bounds 0 0)
  window_by i = ap (λ (l : List Bounds). get_or l i (bounds 0 0)) (sym listed_by)

  pub first_by_lem : first_by k (length (windows_listed q)) ≡ first_line (Some q)
  unfolding first_line
  first_by_lem = ap (λ (x : Decision). first_by x (length (windows_listed q))) e

pub first_bad : bytes "bad line\n" ≡ first_line None
unfolding first_line
first_bad = refl

-- the windows of a cut are as many as the decision says, whichever side is kept
pub windows_listed_lem : (q : Request) {n : ℕ} → Windows n ≡ decision_of q.rows q.max q.stride → n ≡ length (windows_listed q)
windows_listed_lem q {n} e =
    let (u, c) = subst (Says q.rows q.max q.stride) (sym e) (decided q.rows q.max q.stride) in
    c ∙ sym (windows_count u q.direction) ∙ count_by q e

-- of an encoding of which no row is kept, only window 1 has rows
pub former_other : (rows i : ℕ) → (i ≡ 1 → ⊥) → bounds 0 0 ≡ get_or (bounds 0 0 ∷ bounds 0 rows ∷ []) i (bounds 0 0)
former_other rows zero h = refl
former_other rows (suc zero) h = absurd (h refl)
former_other rows (suc (suc i)) h = refl

-- the first line has room where a line has
pub first_few : (a : Option Request) → length (first_line a) ≤ longest_line
unfolding first_line count_line
first_few None = omega arith
first_few (Some q) = go (decision_of q.rows q.max q.stride) (length (windows_listed q))
  where
    go : (k : Decision) (n : ℕ) → length (first_by k n) ≤ longest_line
    go Whole n = omega arith
    go Emptied n = omega (arith, length-append (number_text n) (bytes "\n"), number_few n)
    go StrideRefused n = omega arith
    go (Windows k) n = omega (arith, length-append (number_text n) (bytes "\n"), number_few n)

-- with the first line behind what waits, the output is as ready as before
pub first_ready : (a : Option Request) {out out' : List ℕ} {waiting at next : ℕ} → ReadyOutput out waiting → at + longest_line ≤ length out → WroteText (first_line a) out at next out' → ReadyOutput out' next
first_ready a h r w = record { long = omega (arith, h.long, wrote_long w); inside = omega (arith, w.ends, wrote_long w, first_few a) }
