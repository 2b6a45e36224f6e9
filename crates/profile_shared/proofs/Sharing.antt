-- Looking for the first row that two ranges hold, one range after another. Where two ranges hold a row, both hold the larger of
-- their starts, which is no later: so only the starts are looked at.
-- Assumes nothing.
use mathlib.Core.Path.{◌≡◌, refl, ap, ◌∙◌}
use mathlib.Core.Logic.{◌⊎◌, inl, inr}
use mathlib.Core.Bool.{Bool, true, false}
use Prim.Native.Nat.{ℕ, ◌+◌, ◌*◌, ◌≤◌, ◌<◌}
use native.Mathlib.Omega.{arith}
use mathlib.Core.List.{List}
use lib.Dec.{leb, ltb}
use lib.ListN.{get_or}
use borrow.Author.Count.{below_more}
use borrow.Author.Tests.{le-leb, lt-leb, leb-true, leb-false, ltb-true, ltb-false}
use Rattle.record.specs.Tree.{Range, absent, sequences}
use Rattle.record.specs.Passing.{ranges_at}
use Rattle.lookup_holding.specs.Holding.{holds_row}
use Rattle.profile_trees.specs.Rules.{holders}
use Rattle.profile_trees.proofs.Holders.{held_two, two_held, holds_facts, facts_hold}
use Rattle.profile_shared.specs.Promises.{FirstShared}
use Rattle.profile_trees.proofs.Numbers.{mark_is, start_is, past_absent}

-- ---- A row that two ranges hold

-- the range with this id is there, starts no later, and two hold its start
abbrev SharedStart : List Range → ℕ → ℕ → Type 0
SharedStart q row id = ((get_or q id absent).present ≡ 1) × ((get_or q id absent).start ≤ row) × (2 ≤ holders (get_or q id absent).start q)

later_start : (q : List Range) (row i j : ℕ) → (i ≡ j → ⊥) → holds_row row (get_or q i absent) ≡ true → holds_row row (get_or q j absent) ≡ true → (get_or q i absent).start ≤ (get_or q j absent).start → SharedStart q row j
later_start q row i j n e f o =
    let both = (get_or q j absent).start in
    let one = holds_facts row (get_or q i absent) e in
    let other = holds_facts row (get_or q j absent) f in (
      other.0,
      other.1,
      held_two both q i j n
          (facts_hold both (get_or q i absent) one.0 o (omega (arith, one.2, other.1)))
          (facts_hold both (get_or q j absent) other.0 (omega arith) (omega (arith, other.1, other.2))),
    )

shared_start : (q : List Range) (row : ℕ) → 2 ≤ holders row q → (id : ℕ) × SharedStart q row id
shared_start q row h = let (i, j, l, e, f) = two_held row q h in go i j l e f (leb (get_or q i absent).start (get_or q j absent).start) refl
  where
    go : (i j : ℕ) → i < j → holds_row row (get_or q i absent) ≡ true → holds_row row (get_or q j absent) ≡ true → (b : Bool) → leb (get_or q i absent).start (get_or q j absent).start ≡ b → (id : ℕ) × SharedStart q row id
    go i j l e f true b = (j, later_start q row i j (λ s. omega arith) e f (leb-true _ _ b))
    go i j l e f false b = (i, later_start q row j i (λ s. omega arith) f e (omega (arith, leb-false (get_or q i absent).start (get_or q j absent).start b)))

-- ---- One range after another

-- first is a shared row or the row count n, and no range before place k starts before it on a shared row.
pub record Sharing (nodes : List ℕ) (i n first k : ℕ) : Type 0 where
  pub inside : k ≤ sequences
  pub most : first ≤ n
  pub shared : first < n → leb 2 (holders first (ranges_at nodes i)) ≡ true
  pub none : (id : ℕ) → id < k → (get_or (ranges_at nodes i) id absent).present ≡ 1 → (get_or (ranges_at nodes i) id absent).start < first → 2 ≤ holders (get_or (ranges_at nodes i) id absent).start (ranges_at nodes i) → ⊥

pub sharing_start : (nodes : List ℕ) (i n : ℕ) → Sharing nodes i n n 0
sharing_start nodes i n = record { inside = omega arith; most = omega arith; shared = λ h. absurd (omega arith); none = λ id h. absurd (omega arith) }

module _ {nodes : List ℕ} {i n first k : ℕ} (h : Sharing nodes i n first k) where
  -- range k is not there, or it starts no earlier, or only it holds its start
  pub sharing_same : k < sequences
      → (get_or nodes (i + 2 + k * 3) 0 ≡ 1 → ⊥) ⊎ ((first ≤ get_or nodes (i + 2 + k * 3 + 1) 0) ⊎ (holders (get_or nodes (i + 2 + k * 3 + 1) 0) (ranges_at nodes i) ≤ 1))
      → Sharing nodes i n first (k + 1)
  sharing_same b o = record { inside = omega arith; most = h.most; shared = h.shared; none = below_more _ k h.none (here o) }
    where
      here : (get_or nodes (i + 2 + k * 3) 0 ≡ 1 → ⊥) ⊎ ((first ≤ get_or nodes (i + 2 + k * 3 + 1) 0) ⊎ (holders (get_or nodes (i + 2 + k * 3 + 1) 0) (ranges_at nodes i) ≤ 1))
          → (get_or (ranges_at nodes i) k absent).present ≡ 1 → (get_or (ranges_at nodes i) k absent).start < first → 2 ≤ holders (get_or (ranges_at nodes i) k absent).start (ranges_at nodes i) → ⊥
      here (inl u) m s t = u (mark_is nodes i k b ∙ m)
      here (inr (inl u)) m s t = omega (arith, start_is nodes i k b)
      here (inr (inr u)) m s t = omega (arith, ap (λ (row : ℕ). holders row (ranges_at nodes i)) (start_is nodes i k b))

  -- range k starts earlier, and another holds its start too
  pub sharing_found : k < sequences → get_or nodes (i + 2 + k * 3 + 1) 0 < first → 1 < holders (get_or nodes (i + 2 + k * 3 + 1) 0) (ranges_at nodes i) → Sharing nodes i n (get_or nodes (i + 2 + k * 3 + 1) 0) (k + 1)
  sharing_found b s t =
      record {
        inside = omega arith;
        most = omega (arith, h.most);
        shared = λ u. le-leb 2 (holders (get_or nodes (i + 2 + k * 3 + 1) 0) (ranges_at nodes i)) (omega arith);
        none = below_more _ k (λ id u m v. h.none id u m (omega arith)) (λ m v. absurd (omega (arith, start_is nodes i k b)));
      }

  pub sharing_end : sequences ≤ k → FirstShared (ranges_at nodes i) n first
  sharing_end o = record { inside = h.most; shared = h.shared; none_before = λ row l. lt-leb 2 (holders row (ranges_at nodes i)) (few row l) }
    where
      none_shared : (row : ℕ) → row < first → 2 ≤ holders row (ranges_at nodes i) → ⊥
      none_shared row l t = let (id, found) = shared_start (ranges_at nodes i) row t in go id found.0 found.1 found.2 (ltb id k) refl
        where
          go : (id : ℕ) → (get_or (ranges_at nodes i) id absent).present ≡ 1 → (get_or (ranges_at nodes i) id absent).start ≤ row → 2 ≤ holders (get_or (ranges_at nodes i) id absent).start (ranges_at nodes i) → (b : Bool) → ltb id k ≡ b → ⊥
          go id m s u true b = h.none id (ltb-true id k b) m (omega arith) u
          go id m s u false b = omega (arith, ap (λ (p : Range). p.present) (past_absent nodes i id (omega (arith, ltb-false id k b))))

      few : (row : ℕ) → row < first → holders row (ranges_at nodes i) < 2
      few row l = go (leb 2 (holders row (ranges_at nodes i))) refl
        where
          go : (b : Bool) → leb 2 (holders row (ranges_at nodes i)) ≡ b → holders row (ranges_at nodes i) < 2
          go true b = absurd (none_shared row l (leb-true 2 _ b))
          go false b = leb-false 2 _ b
