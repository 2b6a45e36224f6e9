-- The sixth rule stretch by stretch: where no row lies in two ranges, what a row's word is compared with are the words from the start of
-- its stretch on. Assumes nothing.
use mathlib.Core.Path.{◌≡◌, refl, sym, ap, ◌∙◌}
use mathlib.Core.Logic.{◌⊎◌, inl, inr, ⊎_elim}
use mathlib.Core.Bool.{Bool, true, false, ◌&&◌}
use Prim.Native.Nat.{ℕ, zero, suc, ◌-◌, ◌≤◌, ◌<◌, max}
use native.Mathlib.Omega.{arith}
use mathlib.Core.List.{List, [], ◌∷◌}
use lib.Dec.{leb}
use lib.ListN.{length, get_or}
use borrow.Author.Tests.{eq-eqb, ne_eqb, leb-true, leb-false}
use Rattle.record.specs.Tree.{Range, absent}
use Rattle.lookup_ranges.specs.Ranges.{present}
use Rattle.lookup_holding.specs.Holding.{holds_row}
use Rattle.profile_trees.specs.Rules.{BatchNode, falls_from, falls_within, any_range, word_falls}
use Rattle.profile_trees.proofs.Holders.{holds_facts, facts_hold, held_one, held_two, any_none, any_one}
use Rattle.profile_trees.proofs.Apart.{Agree}
use Rattle.profile_ranges.specs.Promises.{RowStretched}
use Rattle.profile_ranges.specs.declared.RowStretch.{RowStretch}
use Rattle.profile_node.specs.Promises.{Apart}

-- a range that is there is counted
pub present_there : (q : List Range) (id : ℕ) → (get_or q id absent).present ≡ 1 → present q ≡ 0 → ⊥
unfolding present
present_there [] id e z = omega (arith, e)
present_there (p ∷ q) zero e z = omega (arith, e, z)
present_there (p ∷ q) (suc id) e z = present_there q id e (omega (arith, z))

-- ---- A stretch

-- No range reaches over the row: one that holds it starts there; and without ranges it is the first row, or past the last.
pub record Border (q : List Range) (n row : ℕ) : Type 0 where
  pub starts : (id : ℕ) → holds_row row (get_or q id absent) ≡ true → row ≤ (get_or q id absent).start
  pub all_rows_lem : present q ≡ 0 → (row ≡ 0) ⊎ (n ≤ row)

pub border_start : (q : List Range) (n : ℕ) → Border q n 0
border_start q n = record { starts = λ id h. omega arith; all_rows_lem = λ z. inl refl }

module _ (N : BatchNode) (apart : Apart N) {row : ℕ} (s : RowStretch) (stretched : RowStretched N.encoding.ranges (length N.encoding.rows) row s) (b : Border N.encoding.ranges (length N.encoding.rows) row) (inside : row < length N.encoding.rows) where
  abbrev q : List Range
  q = N.encoding.ranges

  -- a range that ends with the stretch and holds its first row holds all of it
  holds_all : (id k : ℕ) → holds_row row (get_or q id absent) ≡ true → (get_or q id absent).end ≡ s.end → row ≤ k → k < s.end → holds_row k (get_or q id absent) ≡ true
  holds_all id k h e a l =
      let f = holds_facts row (get_or q id absent) h in
      facts_hold k (get_or q id absent) f.0 (omega (arith, f.1)) (omega arith)

  with_ranges : (k : ℕ) → (present q ≡ 0 → ⊥) → word_falls N k ≡ any_range (falls_within N k) q
  unfolding word_falls
  with_ranges k n = rw (ne_eqb (present q) 0 n)

  without_ranges : (k : ℕ) → present q ≡ 0 → word_falls N k ≡ falls_from 0 N k
  unfolding word_falls
  without_ranges k z = rw (eq-eqb (present q) 0 z)

  pub stretch_agrees : Agree (λ N k. s.words && falls_from row N k) word_falls N row (s.end - row)
  stretch_agrees k a l = go s.words refl
    where
      all : present q ≡ 0 → falls_from row N k ≡ word_falls N k
      all z = ap (λ (r : ℕ). falls_from r N k) (⊎_elim (λ e. e) (λ h. absurd (omega arith)) (b.all_rows_lem z)) ∙ sym (without_ranges k z)

      one : (id : ℕ) → holds_row row (get_or q id absent) ≡ true → (get_or q id absent).end ≡ s.end → falls_from row N k ≡ word_falls N k
      one id h e =
          let f = holds_facts row (get_or q id absent) h in
          let start : row ≡ (get_or q id absent).start = omega (arith, f.1, b.starts id h) in
          ap (λ (r : ℕ). falls_from r N k) start
          ∙ sym (any_one k (λ p. falls_from p.start N k) q id (apart k) (holds_all id k h e a (omega arith)))
          ∙ sym (with_ranges k (present_there q id f.0))

      go : (w : Bool) → s.words ≡ w → (w && falls_from row N k) ≡ word_falls N k
      go true e = ⊎_elim (λ h. all h.0) (λ h. one h.0 h.1 h.2) (stretched.looked e)
      go false e = sym (with_ranges k (stretched.passed e).0 ∙ any_none k (λ p. falls_from p.start N k) q ((stretched.passed e).1 k a (omega arith)))

  -- where the stretch ends no range reaches over
  pub border_next : Border q (length N.encoding.rows) s.end
  border_next = record { starts = λ id h. go id h (leb s.end (get_or q id absent).start) refl; all_rows_lem = λ z. last s.words refl z }
    where
      -- a range that held rows on both sides would hold one of the stretch too
      crossed : (id : ℕ) → holds_row s.end (get_or q id absent) ≡ true → (get_or q id absent).start < s.end → (m : ℕ) → row ≤ m → m < s.end → (get_or q id absent).start ≤ m → (w : Bool) → s.words ≡ w → ⊥
      crossed id h l m a b c w e = cases w e
        where
          there : holds_row m (get_or q id absent) ≡ true
          there = let f = holds_facts s.end (get_or q id absent) h in facts_hold m (get_or q id absent) f.0 c (omega (arith, f.2))

          both : (other : ℕ) → holds_row row (get_or q other absent) ≡ true → (get_or q other absent).end ≡ s.end → ⊥
          both other k f =
              let differ : id ≡ other → ⊥ = λ same. omega (arith, f, ap (λ (i : ℕ). (get_or q i absent).end) same, (holds_facts s.end (get_or q id absent) h).2) in
              omega (arith, apart m, held_two m q id other differ there (holds_all other m k f a b))

          cases : (w : Bool) → s.words ≡ w → ⊥
          cases true e = ⊎_elim (λ k. present_there q id (holds_facts s.end (get_or q id absent) h).0 k.0) (λ k. both k.0 k.1 k.2) (stretched.looked e)
          cases false e = omega (arith, held_one m q id there, (stretched.passed e).1 m a b)

      go : (id : ℕ) → holds_row s.end (get_or q id absent) ≡ true → (t : Bool) → leb s.end (get_or q id absent).start ≡ t → s.end ≤ (get_or q id absent).start
      go id h true t = leb-true s.end (get_or q id absent).start t
      go id h false t =
          let l : (get_or q id absent).start < s.end = leb-false s.end (get_or q id absent).start t in
          absurd (crossed id h l (max row (get_or q id absent).start) (omega arith) (omega (arith, stretched.further)) (omega arith) s.words refl)

      last : (w : Bool) → s.words ≡ w → present q ≡ 0 → (s.end ≡ 0) ⊎ (length N.encoding.rows ≤ s.end)
      last true e z = ⊎_elim (λ k. inr (omega (arith, k.1))) (λ k. absurd (present_there q k.0 (holds_facts row (get_or q k.0 absent) k.1).0 z)) (stretched.looked e)
      last false e z = absurd ((stretched.passed e).0 z)
