-- The first break of the rows passed, and the last word among them: none at the start, one row more, all of them.
-- Assumes nothing.
use mathlib.Core.Path.{◌≡◌, refl, sym, ap, ap₂, ◌∙◌}
use mathlib.Core.Bool.{Bool}
use mathlib.Core.Option.{Option, none as nothing}
use Prim.Native.Nat.{ℕ, ◌+◌, ◌-◌, ◌*◌, ◌≤◌, ◌<◌}
use native.Mathlib.Omega.{arith}
use mathlib.Core.List.{List, [], ◌∷◌, ◌++◌}
use lib.ListN.{length, get_or, drop}
use Rattle.record.specs.Tree.{Row}
use Rattle.record.specs.Flat.{row_width, row_at}
use Rattle.record.specs.Standing.{RowsAt}
use Rattle.lookup_ranges.specs.First.{part}
use Rattle.lookup_search.proofs.Stored.{no_row}
use Rattle.profile_trees.specs.Rules.{BatchNode, last_word}
use Rattle.profile_trees.specs.Profile.{NodeRow, rows_from, first_row, first_break}
use Rattle.profile_trees.specs.Promises.{no_rule, held, better, row_rules}
use Rattle.profile_trees.specs.declared.Break.{Break}
use Rattle.profile_trees.proofs.First.{better_nothing, better_assoc, first_append, ascending_rows, rows_append}
use Rattle.profile_row.specs.Promises.{lowest_rule, word_after}
use Rattle.profile_rows.specs.Promises.{falls_there}
use Rattle.profile_rows.proofs.RowHere.{row_here, mark_here, word_here}
use Rattle.profile_rows.proofs.LastWord.{last_or, last_none, last_next}
use Rattle.profile_rows.proofs.OneRow.{rule_few, broke, first_here, lower, lower_few, held_lower}

-- the first break of so many rows of a stretch
abbrev pub first_there : Bool → ℕ → ℕ → BatchNode → ℕ → Option Break
first_there words number start N count = first_break (row_rules (falls_there words start)) (rows_from number N start count)

-- What is known at a row: what was found is of the rows before it, whichever node they are of, and so is the last word.
pub record Checking (rows : List ℕ) (first : ℕ) (words : Bool) (number start end : ℕ) (best found : Break) (last row : ℕ) : Type 0 where
  pub after : start ≤ row
  pub inside : row ≤ end
  pub few : found.rule ≤ no_rule
  pub found_is : (N : BatchNode) (before : Option Break) → RowsAt rows first N.encoding.rows → end ≤ length N.encoding.rows → best ≡ held before
      → found ≡ held (better before (first_there words number start N (row - start)))
  pub last_is : (N : BatchNode) → RowsAt rows first N.encoding.rows → end ≤ length N.encoding.rows → last ≡ last_or (last_word (part start row N.encoding.rows))

-- none of no rows
first_none : (words : Bool) (number start : ℕ) (N : BatchNode) → first_there words number start N 0 ≡ nothing
unfolding first_break first_row rows_from
first_none words number start N = refl

pub checking_start : (rows : List ℕ) (first : ℕ) (words : Bool) (number start end : ℕ) (best : Break) → start ≤ end → best.rule ≤ no_rule → Checking rows first words number start end best best 0 start
checking_start rows first words number start end best h small =
    let none : start - start ≡ 0 = omega arith in
    record {
      after = omega arith;
      inside = h;
      few = small;
      found_is = λ N before R long is. is ∙ ap held (sym (better_nothing before) ∙ ap (better before) (sym (ap (first_there words number start N) none ∙ first_none words number start N)));
      last_is = λ N R long. last_none start N.encoding.rows;
    }

-- ---- One row more

first_more : (words : Bool) (number start : ℕ) (N : BatchNode) (row : ℕ) → start ≤ row
    → first_there words number start N (row + 1 - start)
    ≡ better (first_there words number start N (row - start)) (first_break (row_rules (falls_there words start)) (record { number = number; of = N; row = row } ∷ []))
unfolding rows_from
first_more words number start N row h =
    let rules = row_rules (falls_there words start) in
    let more : row + 1 - start ≡ (row - start) + 1 = omega arith in
    let back : start + (row - start) ≡ row = omega arith in
    ap (first_there words number start N) more
    ∙ ap (first_break rules) (rows_append number N start (row - start) 1 ∙ ap (λ (k : ℕ). rows_from number N start (row - start) ++ (record { number = number; of = N; row = k } ∷ [])) back)
    ∙ first_append rules (ascending_rows (falls_there words start)) (rows_from number N start (row - start)) (record { number = number; of = N; row = row } ∷ [])

module _ {rows : List ℕ} {first : ℕ} {words : Bool} {number start end : ℕ} {best found : Break} {last row : ℕ} (k : Checking rows first words number start end best found last row) where
  -- where it stands
  abbrev at : ℕ
  at = first + row * row_width

  row_is : (N : BatchNode) → RowsAt rows first N.encoding.rows → row < length N.encoding.rows → row_at (drop at rows) ≡ get_or N.encoding.rows row no_row
  row_is N R h = row_here R row no_row h

  pub checking_next : {found' : Break} {last' : ℕ} → row < end → found' ≡ lower (lowest_rule words last (row_at (drop at rows))) number row found
      → last' ≡ word_after (get_or rows (at + 5) 0) (get_or rows (at + 6) 0) last
      → Checking rows first words number start end best found' last' (row + 1)
  checking_next {found'} {last'} h f l =
      record {
        after = omega (arith, k.after);
        inside = omega arith;
        few = rw f (lower_few (lowest_rule words last (row_at (drop at rows))) number row found (rule_few words last (row_at (drop at rows))) k.few);
        found_is = λ N before R long is.
            let p : NodeRow = record { number = number; of = N; row = row } in
            let passed = first_there words number start N (row - start) in
            let here : row_at (drop at rows) ≡ get_or N.encoding.rows row no_row = row_is N R (omega arith) in
            let was : found ≡ held (better before passed) = k.found_is N before R long is in
            let small : (held (better before passed)).rule ≤ no_rule = rw (← was) k.few in
            let one : first_break (row_rules (falls_there words start)) (p ∷ []) ≡ broke (lowest_rule words last (row_at (drop at rows))) p =
            first_here words start number N row no_row (omega arith) last (k.last_is N R long) ∙ ap (λ (r : Row). broke (lowest_rule words last r) p) (sym here)
            in
            f
            ∙ ap (lower (lowest_rule words last (row_at (drop at rows))) number row) was
            ∙ held_lower (better before passed) (lowest_rule words last (row_at (drop at rows))) p small
            ∙ ap held
            (ap (better (better before passed)) (sym one)
            ∙ better_assoc before passed (first_break (row_rules (falls_there words start)) (p ∷ []))
            ∙ ap (better before) (sym (first_more words number start N row k.after)));
        last_is = λ N R long.
            let here : row_at (drop at rows) ≡ get_or N.encoding.rows row no_row = row_is N R (omega arith) in
            l
            ∙ ap₂ (λ (mark word : ℕ). word_after mark word last) (mark_here rows at ∙ ap (λ (r : Row). r.word_mark) here) (word_here rows at ∙ ap (λ (r : Row). r.word) here)
            ∙ ap (word_after (get_or N.encoding.rows row no_row).word_mark (get_or N.encoding.rows row no_row).word) (k.last_is N R long)
            ∙ last_next start row N.encoding.rows no_row k.after (omega arith);
      }

  -- all of them
  pub checking_end : end ≤ row → (N : BatchNode) (before : Option Break) → RowsAt rows first N.encoding.rows → end ≤ length N.encoding.rows → best ≡ held before
      → found ≡ held (better before (first_there words number start N (end - start)))
  checking_end h N before R long is =
      let all : row - start ≡ end - start = omega (arith, k.inside) in
      k.found_is N before R long is ∙ ap (λ (n : ℕ). held (better before (first_there words number start N n))) all
