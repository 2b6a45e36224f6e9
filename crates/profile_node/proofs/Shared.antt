-- The fifth rule of a node by the first row that lies in two ranges, and all rules of a node from that and the rules on rows.
-- Assumes nothing.
use mathlib.Core.Path.{◌≡◌, refl, sym, ap, ap₂, ◌∙◌}
use mathlib.Core.Logic.{◌⊎◌, inl, inr}
use mathlib.Core.Bool.{Bool, true, false, cond}
use mathlib.Core.Option.{Option, none as nothing, some, map}
use Prim.Native.Nat.{ℕ, zero, suc, ◌+◌, ◌≤◌, ◌<◌, max}
use native.Mathlib.Nat.{zero-add}
use native.Mathlib.Omega.{arith}
use mathlib.Core.List.{List, []}
use lib.Dec.{leb, ltb}
use lib.ListN.{length, get_or}
use borrow.Author.Tests.{lt-ltb, le-ltb, ltb-true, ltb-false, leb-false}
use Rattle.record.specs.Tree.{Row}
use Rattle.record.specs.WellFormed.{NodeFine}
use Rattle.record.specs.Passing.{ranges_at}
use Rattle.lookup_ranges.specs.First.{or_else}
use Rattle.lookup_search.proofs.Parts.{not_there}
use Rattle.profile_trees.specs.Rules.{BatchNode, rules, has_windows, of_row, other_mask, unattended, start_passes, in_two, holders, word_falls}
use Rattle.profile_trees.specs.Profile.{NodeRow, rows_from, rows_of_node, first_row, break_at, first_break}
use Rattle.profile_trees.specs.Promises.{no_rule, held, better, shared_rules, row_rules, LowerBroken}
use Rattle.profile_trees.specs.declared.Break.{Break}
use Rattle.profile_trees.proofs.First.{better_assoc, better_lower, better_stays, nothing_better, better_nothing, OfRule, better_among, held_known}
use Rattle.profile_trees.proofs.Fine.{held_past, word_past}
use Rattle.profile_trees.proofs.Apart.{node_apart}
use Rattle.profile_trees.proofs.Rows.{row_first, row_nowhere, none_first, said_past}
use Rattle.profile_shared.specs.Promises.{FirstShared}
use Rattle.profile_node.specs.Promises.{NodeStands, shared_break, SharedFound, Apart}

-- ---- What was found before, and a break of the fifth rule

module _ (number shared count : ℕ) (best : Break) where
  pub shared_lower : shared < count → 5 < best.rule → SharedFound number shared count best (record { rule = 5; node = number; row = shared })
  shared_lower h l before e = rw (lt-ltb shared count h) (go before e)
    where
      go : (before : Option Break) → best ≡ held before → record { rule = 5; node = number; row = shared } ≡ held (better before (some (record { rule = 5; node = number; row = shared })))
      go nothing e = ap held (sym (nothing_better (some (record { rule = 5; node = number; row = shared }))))
      go (some b) e = ap held (sym (better_lower b (record { rule = 5; node = number; row = shared }) (omega (arith, l, ap (λ (b : Break). b.rule) e))))

  pub shared_stays : shared < count → best.rule ≤ 5 → SharedFound number shared count best best
  shared_stays h l before e = rw (lt-ltb shared count h) (go before e)
    where
      go : (before : Option Break) → best ≡ held before → best ≡ held (better before (some (record { rule = 5; node = number; row = shared })))
      go nothing e = absurd (omega (arith, l, ap (λ (b : Break). b.rule) e))
      go (some b) e = e ∙ ap held (sym (better_stays b (record { rule = 5; node = number; row = shared }) (omega (arith, l, ap (λ (b : Break). b.rule) e))))

  pub shared_none : count ≤ shared → SharedFound number shared count best best
  shared_none h before e = rw (le-ltb shared count h) (e ∙ ap held (sym (better_nothing before)))

-- so a lower rule than the sixth is broken
pub shared_lower_broken : (number shared count : ℕ) (before : Option Break) → shared < count → LowerBroken (better before (shared_break number shared count))
unfolding better
shared_lower_broken number shared count before h = rw (lt-ltb shared count h) (go before)
  where
    choose : (b : Break) (t : Bool) → ltb 5 b.rule ≡ t → LowerBroken (cond t (some (record { rule = 5; node = number; row = shared })) (some b))
    choose b true e = omega arith
    choose b false e = ltb-false 5 b.rule e

    go : (before : Option Break) → LowerBroken (better before (some (record { rule = 5; node = number; row = shared })))
    go nothing = omega arith
    go (some b) = choose b (ltb 5 b.rule) refl

-- ---- The fifth rule of a node

module _ (number : ℕ) (N : BatchNode) (fine : NodeFine N.encoding.rows N.encoding.ranges) {shared : ℕ} (inside : shared ≤ length N.encoding.rows) (before : (row : ℕ) → row < shared → leb 2 (holders row N.encoding.ranges) ≡ false) where
  abbrev count : ℕ
  count = length N.encoding.rows

  -- where the first such row is past the last there is none
  few : count ≤ shared → (row : ℕ) → leb 2 (holders row N.encoding.ranges) ≡ false
  few h row = go (ltb row shared) refl
    where
      go : (b : Bool) → ltb row shared ≡ b → leb 2 (holders row N.encoding.ranges) ≡ false
      go true e = before row (ltb-true row shared e)
      go false e = rw (held_past N fine row (omega (arith, ltb-false row shared e)))

  pub shared_apart : count ≤ shared → Apart N
  shared_apart h row = omega (arith, leb-false 2 (holders row N.encoding.ranges) (few h row))

  pub shared_is : (shared < count → leb 2 (holders shared N.encoding.ranges) ≡ true) → first_break shared_rules (rows_of_node number N) ≡ shared_break number shared count
  unfolding first_break in_two
  shared_is at = go (ltb shared count) refl
    where
      go : (b : Bool) → ltb shared count ≡ b → or_else (map (break_at 5) (first_row in_two (rows_of_node number N))) nothing ≡ cond b (some (record { rule = 5; node = number; row = shared })) nothing
      go true e =
          let l : shared < count = ltb-true shared count e in
          let found : first_row in_two (rows_of_node number N) ≡ some (record { number = number; of = N; row = 0 + shared })
          = row_first in_two number N shared 0 (max 1 count) (omega arith) (ap (λ (k : ℕ). leb 2 (holders k N.encoding.ranges)) (zero-add shared) ∙ at l) (λ k h. ap (λ (k : ℕ). leb 2 (holders k N.encoding.ranges)) (zero-add k) ∙ before k h) in
          ap (λ (x : Option NodeRow). or_else (map (break_at 5) x) nothing) found ∙ ap (λ (k : ℕ). some (record { rule = 5; node = number; row = k })) (zero-add shared)
      go false e = ap (λ (x : Option NodeRow). or_else (map (break_at 5) x) nothing) (row_nowhere in_two number N 0 (max 1 count) (λ k a b. few (ltb-false shared count e) k))

-- ---- A node without rows breaks no rule on rows

module _ (number : ℕ) (N : BatchNode) (fine : NodeFine N.encoding.rows N.encoding.ranges) where
  pub rows_only : first_break (row_rules word_falls) (rows_of_node number N) ≡ first_break (row_rules word_falls) (rows_from number N 0 (length N.encoding.rows))
  unfolding rows_from first_row
  rows_only = go (length N.encoding.rows) refl
    where
      go : (n : ℕ) → length N.encoding.rows ≡ n → first_break (row_rules word_falls) (rows_from number N 0 (max 1 n)) ≡ first_break (row_rules word_falls) (rows_from number N 0 n)
      go (suc n) e = let some_rows : max 1 (suc n) ≡ suc n = omega arith in ap (λ (k : ℕ). first_break (row_rules word_falls) (rows_from number N 0 k)) some_rows
      go zero e = none_first (row_rules word_falls) (rows_from number N 0 1) (said other_mask, (said unattended, (said start_passes, (row_nowhere word_falls number N 0 1 (λ k a b. word_past N fine k (omega (arith, e))), tt)))) ∙ sym (none_first (row_rules word_falls) [] (refl, (refl, (refl, (refl, tt)))))
        where
          said : (t : Row → Bool) → first_row (of_row t) (rows_from number N 0 1) ≡ nothing
          said t = row_nowhere (of_row t) number N 0 1 (λ k a b. said_past N k (not_there N.encoding.rows k (omega (arith, e))) t)

  -- ---- All rules

  pub node_whole : (before : Option Break) (shared : ℕ) → first_row has_windows (rows_of_node number N) ≡ nothing → first_break shared_rules (rows_of_node number N) ≡ shared_break number shared (length N.encoding.rows)
      → better (better before (shared_break number shared (length N.encoding.rows))) (first_break (row_rules word_falls) (rows_from number N 0 (length N.encoding.rows)))
      ≡ better before (first_break rules (rows_of_node number N))
  node_whole before shared first fifth =
      better_assoc before (shared_break number shared (length N.encoding.rows)) (first_break (row_rules word_falls) (rows_from number N 0 (length N.encoding.rows)))
      ∙ ap (better before) (ap₂ better (sym fifth) (sym rows_only) ∙ sym (node_apart (rows_of_node number N) first))

-- ---- The node that stands at i

pub shared_known : (number shared count : ℕ) (best r : Break) → best.rule ≤ no_rule → SharedFound number shared count best r → r.rule ≤ no_rule
shared_known number shared count best r known found =
    let o = better (some best) (shared_break number shared count) in
    let few : (held o).rule ≤ no_rule = held_known o (better_among (λ n. n ≤ no_rule) (some best) (shared_break number shared count) known (five (ltb shared count))) in
    omega (arith, few, ap (λ (b : Break). b.rule) (found (some best) refl))
  where
    five : (b : Bool) → OfRule (λ n. n ≤ no_rule) (cond b (some (record { rule = 5; node = number; row = shared })) nothing)
    five true = omega arith
    five false = tt

module _ {nodes rows : List ℕ} {i first : ℕ} {N : BatchNode} (at : NodeStands nodes i rows first N) {shared : ℕ} (h : FirstShared (ranges_at nodes i) (get_or nodes i 0) shared) (number : ℕ) (before : Option Break) where
  shared_here : FirstShared N.encoding.ranges (length N.encoding.rows) shared
  shared_here = rw (← at.ranges_are, ← at.size) h

  pub shared_or_apart : LowerBroken (better before (shared_break number shared (get_or nodes i 0))) ⊎ Apart N
  shared_or_apart = go (ltb shared (get_or nodes i 0)) refl
    where
      go : (b : Bool) → ltb shared (get_or nodes i 0) ≡ b → LowerBroken (better before (shared_break number shared (get_or nodes i 0))) ⊎ Apart N
      go true e = inl (shared_lower_broken number shared (get_or nodes i 0) before (ltb-true shared (get_or nodes i 0) e))
      go false e = inr (shared_apart number N at.fine shared_here.inside shared_here.none_before (omega (arith, at.size, ltb-false shared (get_or nodes i 0) e)))

  pub node_found : first_row has_windows (rows_of_node number N) ≡ nothing
      → better (better before (shared_break number shared (get_or nodes i 0))) (first_break (row_rules word_falls) (rows_from number N 0 (length N.encoding.rows)))
      ≡ better before (first_break rules (rows_of_node number N))
  node_found unbroken =
      rw at.size
      (node_whole number N at.fine before shared unbroken (shared_is number N at.fine shared_here.inside shared_here.none_before shared_here.shared))
