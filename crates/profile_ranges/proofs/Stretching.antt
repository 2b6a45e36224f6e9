-- Looking for the end of a stretch, one range after another: none of the ranges passed holds any of its rows.
-- Assumes nothing.
use mathlib.Core.Path.{◌≡◌, refl, sym, ap, ◌∙◌}
use mathlib.Core.Logic.{◌⊎◌, inl, inr}
use mathlib.Core.Bool.{Bool, true, false, false≢true, true≢false}
use Prim.Native.Nat.{ℕ, zero, suc, ◌+◌, ◌*◌, ◌≤◌, ◌<◌}
use native.Mathlib.Omega.{arith}
use mathlib.Core.List.{List, [], ◌∷◌}
use lib.Dec.{ltb}
use lib.ListN.{get_or}
use borrow.Author.Count.{below_more}
use borrow.Author.Tests.{ltb-true, ltb-false}
use Rattle.record.specs.Tree.{Range, absent, sequences}
use Rattle.record.specs.Passing.{ranges_at}
use Rattle.lookup_ranges.specs.Ranges.{present}
use Rattle.lookup_holding.specs.Holding.{holds_row}
use Rattle.profile_trees.proofs.Holders.{held_none}
use Rattle.profile_ranges.specs.Promises.{RowStretched}
use Rattle.profile_trees.proofs.Numbers.{mark_is, end_is, past_absent, node_holds, node_holds_not}

-- ---- The number of ranges, by their marks

present_most : (q : List Range) (id : ℕ) → (get_or q id absent).present ≤ present q
unfolding present
present_most [] id = omega arith
present_most (p ∷ q) zero = omega arith
present_most (p ∷ q) (suc id) = omega (arith, present_most q id)

present_none : (q : List Range) → ((id : ℕ) → (get_or q id absent).present ≡ 0) → present q ≡ 0
unfolding present
present_none [] u = refl
present_none (p ∷ q) u = omega (arith, u 0, present_none q (λ id. u (suc id)))

-- ---- One range after another

-- The stretch from this row on ends at end so far, of n rows; words are looked at if no range before place k is there.
pub record Stretching (nodes : List ℕ) (i n row end : ℕ) (words : Bool) (k : ℕ) : Type 0 where
  pub inside : k ≤ sequences
  pub further : row < end
  pub most : end ≤ n
  pub all_rows_lem : words ≡ true → end ≡ n
  pub no_ranges : words ≡ true → (id : ℕ) → id < k → (get_or (ranges_at nodes i) id absent).present ≡ 1 → ⊥
  pub ranges : words ≡ false → (id : ℕ) × ((get_or (ranges_at nodes i) id absent).present ≡ 1)
  pub none : (id : ℕ) → id < k → (m : ℕ) → row ≤ m → m < end → holds_row m (get_or (ranges_at nodes i) id absent) ≡ false

pub stretching_start : (nodes : List ℕ) (i n row : ℕ) → row < n → Stretching nodes i n row n true 0
stretching_start nodes i n row l =
    record {
      inside = omega arith;
      further = l;
      most = omega arith;
      all_rows_lem = λ e. refl;
      no_ranges = λ e id h. absurd (omega arith);
      ranges = λ e. absurd (true≢false e);
      none = λ id h. absurd (omega arith);
    }

module _ {nodes : List ℕ} {i n row end : ℕ} {words : Bool} {k : ℕ} (h : Stretching nodes i n row end words k) where
  -- range k is not there
  pub stretching_absent : k < sequences → (get_or nodes (i + 2 + k * 3) 0 ≡ 1 → ⊥) → Stretching nodes i n row end words (k + 1)
  stretching_absent b u =
      record {
        inside = omega arith;
        further = h.further;
        most = h.most;
        all_rows_lem = h.all_rows_lem;
        no_ranges = λ e. below_more _ k (h.no_ranges e) (λ m. u (mark_is nodes i k b ∙ m));
        ranges = h.ranges;
        none = below_more _ k h.none (λ m s t. node_holds_not nodes i k b m (inl u));
      }

  -- range k is there, and ends no later than the row or starts no earlier than the stretch now ends
  pub stretching_there : (now_end : ℕ) → k < sequences → get_or nodes (i + 2 + k * 3) 0 ≡ 1 → row < now_end → now_end ≤ end
      → (now_end ≤ get_or nodes (i + 2 + k * 3 + 1) 0) ⊎ (get_or nodes (i + 2 + k * 3 + 2) 0 ≤ row) → Stretching nodes i n row now_end false (k + 1)
  stretching_there now_end b there l o u =
      record {
        inside = omega arith;
        further = l;
        most = omega (arith, h.most);
        all_rows_lem = λ e. absurd (false≢true e);
        no_ranges = λ e. absurd (false≢true e);
        ranges = λ e. (k, sym (mark_is nodes i k b) ∙ there);
        none = below_more _ k (λ id s m t v. h.none id s m t (omega arith)) (here u);
      }
    where
      here : (now_end ≤ get_or nodes (i + 2 + k * 3 + 1) 0) ⊎ (get_or nodes (i + 2 + k * 3 + 2) 0 ≤ row) → (m : ℕ) → row ≤ m → m < now_end → holds_row m (get_or (ranges_at nodes i) k absent) ≡ false
      here (inl a) m s t = node_holds_not nodes i k b m (inr (inl (omega arith)))
      here (inr a) m s t = node_holds_not nodes i k b m (inr (inr (omega arith)))

  -- range k holds the row: the stretch ends with it
  pub stretching_found : k < sequences → get_or nodes (i + 2 + k * 3) 0 ≡ 1 → get_or nodes (i + 2 + k * 3 + 1) 0 ≤ row → row < get_or nodes (i + 2 + k * 3 + 2) 0
      → RowStretched (ranges_at nodes i) n row (record { end = get_or nodes (i + 2 + k * 3 + 2) 0; words = true })
  stretching_found b m s e =
      record {
        further = e;
        within = λ u. omega (arith, u k, end_is nodes i k b);
        looked = λ t. inr (k, node_holds nodes i k b row m s e, sym (end_is nodes i k b));
        passed = λ t. absurd (true≢false t);
      }

  pub stretching_end : sequences ≤ k → ((id : ℕ) → (get_or (ranges_at nodes i) id absent).present ≤ 1) → RowStretched (ranges_at nodes i) n row (record { end = end; words = words })
  stretching_end o marks =
      record {
        further = h.further;
        within = λ u. h.most;
        looked = λ t. inl (present_none (ranges_at nodes i) (unmarked t), h.all_rows_lem t);
        passed = λ t. let (id, m) = h.ranges t in (λ u. omega (arith, m, present_most (ranges_at nodes i) id), λ m s l. held_none m (ranges_at nodes i) (λ id. not_held m s l id (ltb id k) refl));
      }
    where
      unmarked : words ≡ true → (id : ℕ) → (get_or (ranges_at nodes i) id absent).present ≡ 0
      unmarked t id = go (ltb id k) refl
        where
          go : (b : Bool) → ltb id k ≡ b → (get_or (ranges_at nodes i) id absent).present ≡ 0
          go true b = let u : (get_or (ranges_at nodes i) id absent).present ≡ 1 → ⊥ = h.no_ranges t id (ltb-true id k b) in omega (arith, marks id, u)
          go false b = ap (λ (p : Range). p.present) (past_absent nodes i id (omega (arith, ltb-false id k b)))

      not_held : (m : ℕ) → row ≤ m → m < end → (id : ℕ) → (b : Bool) → ltb id k ≡ b → holds_row m (get_or (ranges_at nodes i) id absent) ≡ false
      not_held m s l id true b = h.none id (ltb-true id k b) m s l
      not_held m s l id false b = ap (holds_row m) (past_absent nodes i id (omega (arith, ltb-false id k b)))
