-- Ranges that come one after another: each begins where those before it have ended, so that no row lies in two. Assumes nothing.
use mathlib.Core.Path.{◌≡◌, refl, sym, ap, ◌∙◌}
use mathlib.Core.Bool.{Bool, true, false}
use Prim.Native.Nat.{ℕ, ◌+◌, ◌*◌, ◌≤◌, ◌<◌, max}
use native.Mathlib.Omega.{arith}
use mathlib.Core.List.{List}
use lib.Dec.{leb, ltb}
use lib.ListN.{get_or}
use borrow.Author.Tests.{leb-true, leb-false, lt-leb, ltb-true, ltb-false}
use Rattle.record.specs.Tree.{Range, absent, sequences}
use Rattle.record.specs.Passing.{ranges_at}
use Rattle.lookup_holding.specs.Holding.{holds_row}
use Rattle.profile_trees.specs.Rules.{holders}
use Rattle.profile_trees.proofs.Holders.{two_held, holds_facts}
use Rattle.profile_trees.proofs.Numbers.{mark_is, start_is, end_is, past_absent}
use Rattle.profile_shared.specs.Promises.{FirstShared}

-- The ranges before place k end at `end` or before it, and no two of them hold the same row.
pub record Ordering (nodes : List ℕ) (i k end : ℕ) : Type 0 where
  pub inside : k ≤ sequences
  pub ended : (id row : ℕ) → id < k → holds_row row (get_or (ranges_at nodes i) id absent) ≡ true → row < end
  pub apart : (a b row : ℕ) → a < b → b < k → holds_row row (get_or (ranges_at nodes i) a absent) ≡ true → holds_row row (get_or (ranges_at nodes i) b absent) ≡ true → ⊥

pub ordering_start : (nodes : List ℕ) (i : ℕ) → Ordering nodes i 0 0
ordering_start nodes i = record { inside = omega arith; ended = λ id row l h. absurd (omega arith); apart = λ a b row l m h k. absurd (omega arith) }

module _ {nodes : List ℕ} {i k end : ℕ} (o : Ordering nodes i k end) (below : k < sequences) where
  -- the facts of a place before k, or at k
  module _ (more : ℕ) (grows : end ≤ more) (here : (row : ℕ) → holds_row row (get_or (ranges_at nodes i) k absent) ≡ true → (end ≤ row) × (row < more)) where
    ordering_more : Ordering nodes i (k + 1) more
    ordering_more = record { inside = omega arith; ended = λ id row l h. ended id row l h (ltb id k) refl; apart = λ a b row l m h j. apart a b row l m h j (ltb b k) refl }
      where
        held_here : (id row : ℕ) → id ≡ k → holds_row row (get_or (ranges_at nodes i) id absent) ≡ true → holds_row row (get_or (ranges_at nodes i) k absent) ≡ true
        held_here id row e h = ap (λ (n : ℕ). holds_row row (get_or (ranges_at nodes i) n absent)) (sym e) ∙ h

        ended : (id row : ℕ) → id < k + 1 → holds_row row (get_or (ranges_at nodes i) id absent) ≡ true → (t : Bool) → ltb id k ≡ t → row < more
        ended id row l h true t = omega (arith, o.ended id row (ltb-true id k t) h)
        ended id row l h false t = (here row (held_here id row (omega (arith, ltb-false id k t)) h)).1

        apart : (a b row : ℕ) → a < b → b < k + 1 → holds_row row (get_or (ranges_at nodes i) a absent) ≡ true → holds_row row (get_or (ranges_at nodes i) b absent) ≡ true → (t : Bool) → ltb b k ≡ t → ⊥
        apart a b row l m h j true t = o.apart a b row l (ltb-true b k t) h j
        apart a b row l m h j false t =
            let same : b ≡ k = omega (arith, ltb-false b k t) in
            omega (arith, (here row (held_here b row same j)).0, o.ended a row (omega arith) h)

  -- range k is not there
  pub ordering_absent : (get_or nodes (i + 2 + k * 3) 0 ≡ 1 → ⊥) → Ordering nodes i (k + 1) end
  ordering_absent n = ordering_more end (omega arith) (λ row h. absurd (n (mark_is nodes i k below ∙ (holds_facts row (get_or (ranges_at nodes i) k absent) h).0)))

  -- it begins where those before it have ended
  pub ordering_next : (more : ℕ) → end ≤ get_or nodes (i + 2 + k * 3 + 1) 0 → more ≡ max end (get_or nodes (i + 2 + k * 3 + 2) 0) → Ordering nodes i (k + 1) more
  ordering_next more l e =
      ordering_more more (omega arith)
      (λ row h. let f = holds_facts row (get_or (ranges_at nodes i) k absent) h in (omega (arith, f.1, start_is nodes i k below), omega (arith, f.2, end_is nodes i k below)))

-- no row lies in two
pub ordering_end : {nodes : List ℕ} {i k end : ℕ} → Ordering nodes i k end → sequences ≤ k → (row : ℕ) → holders row (ranges_at nodes i) ≤ 1
ordering_end {nodes} {i} {k} {end} o all row = go (leb 2 (holders row (ranges_at nodes i))) refl
  where
    never : (j : ℕ) → holds_row row (get_or (ranges_at nodes i) j absent) ≡ true → (t : Bool) → ltb j k ≡ t → j < k
    never j h true t = ltb-true j k t
    never j h false t = absurd (omega (arith, (holds_facts row (get_or (ranges_at nodes i) j absent) h).0, ap (λ (p : Range). p.present) (past_absent nodes i j (omega (arith, ltb-false j k t)))))

    go : (b : Bool) → leb 2 (holders row (ranges_at nodes i)) ≡ b → holders row (ranges_at nodes i) ≤ 1
    go true b = let (a, j, l, e, f) = two_held row (ranges_at nodes i) (leb-true 2 (holders row (ranges_at nodes i)) b) in absurd (o.apart a j row l (never j f (ltb j k) refl) e f)
    go false b = omega (arith, leb-false 2 (holders row (ranges_at nodes i)) b)

-- so the row count is told
pub none_shared : (q : List Range) (n : ℕ) → ((row : ℕ) → holders row q ≤ 1) → FirstShared q n n
none_shared q n few = record { inside = omega arith; shared = λ h. absurd (omega arith); none_before = λ row l. lt-leb 2 (holders row q) (omega (arith, few row)) }
