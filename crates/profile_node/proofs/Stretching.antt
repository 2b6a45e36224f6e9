-- The rules on rows stretch by stretch: none passed at first, one stretch more, all of them. Assumes nothing.
use mathlib.Core.Path.{◌≡◌, refl, sym, ap, ◌∙◌}
use mathlib.Core.Logic.{◌⊎◌, inl, inr, ⊎_elim}
use mathlib.Core.Bool.{◌&&◌}
use mathlib.Core.Option.{Option, some}
use Prim.Native.Nat.{ℕ, ◌+◌, ◌-◌, ◌*◌, ◌≤◌, ◌<◌}
use native.Mathlib.Nat.{zero-add}
use native.Mathlib.Omega.{arith}
use mathlib.Core.List.{List, ◌++◌}
use lib.ListN.{length, get_or}
use Rattle.record.specs.Tree.{absent}
use Rattle.record.specs.Flat.{row_width}
use Rattle.record.specs.Passing.{ranges_at}
use Rattle.profile_trees.specs.Rules.{BatchNode, falls_from, word_falls}
use Rattle.profile_trees.specs.Profile.{rows_from, first_row, first_break}
use Rattle.profile_trees.specs.Promises.{no_rule, held, better, row_rules, LowerBroken}
use Rattle.profile_trees.specs.declared.Break.{Break}
use Rattle.profile_trees.proofs.First.{better_nothing, better_assoc, first_among, better_among, held_known, first_append, ascending_rows, rows_append}
use Rattle.profile_trees.proofs.Fine.{end_within, mark_small}
use Rattle.profile_trees.proofs.Apart.{better_lower_broken, sixth_instead}
use Rattle.profile_ranges.specs.Promises.{RowStretched}
use Rattle.profile_ranges.specs.declared.RowStretch.{RowStretch}
use Rattle.profile_rows.specs.Promises.{falls_there, Checked}
use Rattle.profile_node.specs.Promises.{NodeStands, Apart}
use Rattle.profile_node.proofs.Stretches.{Border, border_start, stretch_agrees, border_next}

-- the first break of the rows passed, or what was found before
abbrev pub passed : BatchNode → Option Break → ℕ → ℕ → Option Break
passed N before number row = better before (first_break (row_rules word_falls) (rows_from number N 0 row))

-- The rows before this one are passed, and no range reaches over it, unless that no longer plays a part.
pub record Stretching (N : BatchNode) (before : Option Break) (number row : ℕ) (found : Break) : Type 0 where
  pub found_is : found ≡ held (passed N before number row)
  pub border : LowerBroken before ⊎ (Apart N × Border N.encoding.ranges (length N.encoding.rows) row)

pub stretching_start : (N : BatchNode) (before : Option Break) (number : ℕ) (best : Break) → best ≡ held before → LowerBroken before ⊎ Apart N → Stretching N before number 0 best
unfolding rows_from first_break first_row
stretching_start N before number best e h =
    record {
      found_is = e ∙ ap held (sym (better_nothing before));
      border = ⊎_elim (λ d. inl d) (λ a. inr (a, border_start N.encoding.ranges (length N.encoding.rows))) h;
    }

module _ {N : BatchNode} {before : Option Break} {number row : ℕ} {found : Break} (k : Stretching N before number row found) where
  pub stretching_more : (s : RowStretch) (r : Break) → row < length N.encoding.rows → RowStretched N.encoding.ranges (length N.encoding.rows) row s
      → r ≡ held (better (passed N before number row) (first_break (row_rules (λ N k. s.words && falls_from row N k)) (rows_from number N row (s.end - row))))
      → Stretching N before number s.end r
  stretching_more s r inside h e =
      record {
        found_is = e ∙ ap held (sixth ∙ better_assoc before first more ∙ ap (better before) whole);
        border = ⊎_elim (λ d. inl d) (λ a. inr (a.0, border_next N a.0 s h a.1 inside)) k.border;
      }
    where
      first : Option Break
      first = first_break (row_rules word_falls) (rows_from number N 0 row)

      more : Option Break
      more = first_break (row_rules word_falls) (rows_from number N row (s.end - row))

      sixth : better (passed N before number row) (first_break (row_rules (λ N k. s.words && falls_from row N k)) (rows_from number N row (s.end - row))) ≡ better (better before first) more
      sixth = sixth_instead (λ N k. s.words && falls_from row N k) word_falls (passed N before number row) number N row (s.end - row)
          (⊎_elim (λ d. inl (better_lower_broken before first d)) (λ a. inr (stretch_agrees N a.0 s h a.1 inside)) k.border)

      whole : better first more ≡ first_break (row_rules word_falls) (rows_from number N 0 s.end)
      whole =
          let sum : row + (s.end - row) ≡ s.end = omega (arith, h.further) in
          sym (first_append (row_rules word_falls) (ascending_rows word_falls) (rows_from number N 0 row) (rows_from number N row (s.end - row)))
          ∙ ap (λ (r : ℕ). first_break (row_rules word_falls) (rows_from number N 0 row ++ rows_from number N r (s.end - row))) (sym (zero-add row))
          ∙ ap (first_break (row_rules word_falls)) (sym (rows_append number N 0 row (s.end - row)) ∙ ap (rows_from number N 0) sum)

  pub stretching_end : row ≡ length N.encoding.rows → found ≡ held (better before (first_break (row_rules word_falls) (rows_from number N 0 (length N.encoding.rows))))
  stretching_end e = k.found_is ∙ ap (λ (n : ℕ). held (passed N before number n)) e

-- ---- The stretch by the numbers of the node that stands at i

module _ {nodes rows : List ℕ} {i first : ℕ} {N : BatchNode} (at : NodeStands nodes i rows first N) where
  pub marks_small : (id : ℕ) → (get_or (ranges_at nodes i) id absent).present ≤ 1
  marks_small = rw at.ranges_are (mark_small N at.fine)

  module _ {row : ℕ} {s : RowStretch} (h : RowStretched (ranges_at nodes i) (get_or nodes i 0) row s) where
    pub stretched_here : RowStretched N.encoding.ranges (length N.encoding.rows) row s
    stretched_here = rw (← at.ranges_are, ← at.size) h

    pub stretch_inside : s.end ≤ get_or nodes i 0
    stretch_inside = omega (arith, at.size, stretched_here.within (end_within N at.fine))

    pub rows_inside : first + s.end * row_width ≤ length rows
    rows_inside = omega (arith, at.size, stretch_inside, at.rows_fit)

    pub checked_known : (number : ℕ) (best r : Break) → best.rule ≤ no_rule → Checked rows first (record { start = row; end = s.end }) s.words number best r → r.rule ≤ no_rule
    checked_known number best r known checked =
        let rs = row_rules (falls_there s.words row) in
        let ps = rows_from number N row (s.end - row) in
        let few : (held (better (some best) (first_break rs ps))).rule ≤ no_rule
        = held_known (better (some best) (first_break rs ps)) (better_among (λ n. n ≤ no_rule) (some best) (first_break rs ps) known (first_among (λ n. n ≤ no_rule) rs (omega arith) ps)) in
        omega (arith, few, ap (λ (b : Break). b.rule) (checked N (some best) at.own (omega (arith, at.size, stretch_inside)) refl))
