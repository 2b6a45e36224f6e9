-- What a well-formed node's ranges hold, and that past its rows no rule is broken. Assumes nothing.
use mathlib.Core.Path.{◌≡◌, refl, ap}
use mathlib.Core.Logic.{inl, ⊎_elim}
use mathlib.Core.Bool.{Bool, true, false, ◌&&◌, cond}
use Prim.Native.Nat.{ℕ, suc, ◌≤◌, max}
use native.Mathlib.Omega.{arith}
use lib.Dec.{leb, ltb, eqb}
use lib.ListN.{length, get_or, get_or-eq_default}
use borrow.Author.Tests.{leb-true, leb-false, ne_eqb}
use Rattle.lists.specs.Lists.{All}
use Rattle.lists.proofs.All.{all_at, all_append}
use Rattle.record.specs.Tree.{Range, Forest, none, node, absent, tops}
use Rattle.record.specs.WellFormed.{RangeFine, NodeFine, Fine}
use Rattle.lookup_ranges.specs.Ranges.{present}
use Rattle.lookup_holding.specs.Holding.{holds_row}
use Rattle.lookup_search.proofs.Parts.{not_there}
use Rattle.profile_trees.specs.Rules.{BatchNode, rules, has_windows, other_mask, unattended, start_passes, in_two, holders, falls_from, falls_within, any_range, word_falls}
use Rattle.profile_trees.specs.Profile.{batch_nodes}
use Rattle.profile_trees.proofs.Holders.{holds_facts, held_none, any_none}
use Rattle.profile_trees.proofs.Rows.{said_past, falls_past}

abbrev pub FineNode : BatchNode → Type 0
FineNode N = NodeFine N.encoding.rows N.encoding.ranges

pub all_fine : (window : Bool) (f : Forest) → Fine f → All FineNode (batch_nodes window f)
unfolding batch_nodes
all_fine window none h = tt
all_fine window (node r q w x) h = (h.0, all_append FineNode (batch_nodes true w) (batch_nodes window x) (all_fine true w h.1) (all_fine window x h.2))

module _ (N : BatchNode) (fine : FineNode N) where
  range_fine : (id : ℕ) → RangeFine (length N.encoding.rows) (get_or N.encoding.ranges id absent)
  range_fine id = go (leb (suc id) (length N.encoding.ranges)) refl
    where
      go : (b : Bool) → leb (suc id) (length N.encoding.ranges) ≡ b → RangeFine (length N.encoding.rows) (get_or N.encoding.ranges id absent)
      go true e = all_at (RangeFine (length N.encoding.rows)) N.encoding.ranges id absent (leb-true (suc id) (length N.encoding.ranges) e) fine.ranges_fine
      go false e = inl (get_or-eq_default N.encoding.ranges absent {n = id} (omega (arith, leb-false (suc id) (length N.encoding.ranges) e)))

  pub end_within : (id : ℕ) → (get_or N.encoding.ranges id absent).end ≤ length N.encoding.rows
  end_within id = ⊎_elim (λ e. omega (arith, ap (λ (p : Range). p.end) e)) (λ h. h.2) (range_fine id)

  pub mark_small : (id : ℕ) → (get_or N.encoding.ranges id absent).present ≤ 1
  mark_small id = ⊎_elim (λ e. omega (arith, ap (λ (p : Range). p.present) e)) (λ h. omega (arith, h.0)) (range_fine id)

  -- no range holds a row past the last
  pub held_past : (row : ℕ) → length N.encoding.rows ≤ row → holders row N.encoding.ranges ≡ 0
  held_past row h = held_none row N.encoding.ranges (λ id. go id (holds_row row (get_or N.encoding.ranges id absent)) refl)
    where
      go : (id : ℕ) (b : Bool) → holds_row row (get_or N.encoding.ranges id absent) ≡ b → holds_row row (get_or N.encoding.ranges id absent) ≡ false
      go id true e = absurd (omega (arith, end_within id, (holds_facts row (get_or N.encoding.ranges id absent) e).2))
      go id false e = e

  pub word_past : (row : ℕ) → length N.encoding.rows ≤ row → word_falls N row ≡ false
  unfolding word_falls
  word_past row h = go (eqb (present N.encoding.ranges) 0)
    where
      go : (b : Bool) → cond b (falls_from 0 N row) (any_range (falls_within N row) N.encoding.ranges) ≡ false
      go true = falls_past N row (not_there N.encoding.rows row h) 0
      go false = any_none row _ N.encoding.ranges (held_past row h)

  -- ---- No rule is broken past the rows

  pub past_quiet : (row : ℕ) → max 1 (length N.encoding.rows) ≤ row → All (λ r. r.broken N row ≡ false) rules
  unfolding has_windows in_two
  past_quiet row h =
      let past = not_there N.encoding.rows row (omega arith) in
      (first N.window, (said_past N row past other_mask, (said_past N row past unattended, (said_past N row past start_passes, (rw (held_past row (omega arith)), (word_past row (omega arith), tt))))))
    where
      either : (b : Bool) → b && false ≡ false
      either true = refl
      either false = refl

      first : (b : Bool) → b && (ltb 0 (tops N.encoding.below) && eqb row 0) ≡ false
      first true = rw (ne_eqb row 0 (λ e. omega arith)) (either (ltb 0 (tops N.encoding.below)))
      first false = refl
