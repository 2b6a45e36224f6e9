-- Walking over a batch node by node: the windows still to come of the encoding at the top, then the encodings after it; what the nodes
-- passed break, and that with it what is to come decides. Assumes nothing.
use mathlib.Core.Path.{◌≡◌, refl, sym, ap, ◌∙◌}
use mathlib.Core.Bool.{Bool, true, false, cond}
use mathlib.Core.Option.{Option, none as nothing, some}
use Prim.Native.Nat.{ℕ, suc, ◌+◌, ◌-◌, ◌*◌, ◌/◌, ◌≤◌, ◌<◌, max}
use native.Mathlib.Numerals.{add-one}
use native.Mathlib.Omega.{arith}
use mathlib.Core.List.{List, ◌∷◌, ◌++◌}
use lib.ListN.{length, get_or}
use borrow.Author.Tests.{eq-eqb, ne_eqb, lt-ltb}
use Rattle.record.specs.Tree.{Row, Range, Forest, none, node, tops}
use Rattle.record.specs.Flat.{row_width, node_width, flat_rows}
use Rattle.record.specs.WellFormed.{Stores, Batch, most_nodes}
use Rattle.record.specs.Passing.{followed, NodesToCome, RowsToCome}
use Rattle.record.proofs.Read.{unique}
use Rattle.record.proofs.Passing.{all_to_come, nodes_left, coming_size, coming_windows, coming_fits, coming_ranges, coming_next, coming_rows_fit, coming_rows_next, nodes_of, nodes_few}
use Rattle.profile_trees.specs.Rules.{BatchNode, rules, has_windows}
use Rattle.profile_trees.specs.Profile.{batch_nodes, NodeRow, rows_of_node, node_rows, first_row, break_at, first_break, first_broken}
use Rattle.profile_trees.specs.Promises.{no_rule, held, better}
use Rattle.profile_trees.specs.declared.Break.{Break}
use Rattle.profile_trees.proofs.First.{better_nothing, nothing_better, better_stays, better_assoc, OfRule, first_among, better_among, held_known, first_append, ascending_rules}
use Rattle.profile_trees.proofs.Apart.{apart_above, first_told}
use Rattle.profile_trees.proofs.Rows.{row_of, row_nowhere, row_first}
use Rattle.profile_node.specs.Promises.{NodeStands, NodeThere, NodeFound}
use Rattle.profile_nodes.specs.Promises.{FirstFound, left_after}

-- ---- The node that comes next

abbrev batch_node : Bool → List Row → List Range → Forest → BatchNode
batch_node window r q w = record { window = window; encoding = record { rows = r; ranges = q; below = w } }

node_at_lem : {nodes rows : List ℕ} {i j : ℕ} {r : List Row} {q : List Range} {w x : Forest} → NodesToCome nodes i (node r q w x) → RowsToCome rows j (node r q w x) → (window : Bool) → NodeStands nodes i rows j (batch_node window r q w)
unfolding flat_rows
node_at_lem {w = w} {x = x} h k window =
    record {
      fits = coming_fits h;
      size = coming_size h;
      ranges_are = coming_ranges h;
      fine = h.fine.0;
      own = record { rest = flat_rows w ++ flat_rows x; is = k.is };
      rows_fit = coming_rows_fit k;
    }

-- a node at the top does not break the first rule, nor does a window without windows; a window with windows does at row 0
top_fine : (number : ℕ) (r : List Row) (q : List Range) (w : Forest) → first_row has_windows (rows_of_node number (batch_node false r q w)) ≡ nothing
unfolding has_windows
top_fine number r q w = row_nowhere has_windows number (batch_node false r q w) 0 (max 1 (length r)) (λ k a b. refl)

window_fine : (number : ℕ) (r : List Row) (q : List Range) → first_row has_windows (rows_of_node number (batch_node true r q none)) ≡ nothing
unfolding has_windows
window_fine number r q = row_nowhere has_windows number (batch_node true r q none) 0 (max 1 (length r)) (λ k a b. refl)

window_broken : (number : ℕ) (r s : List Row) (q p : List Range) (w x : Forest) → first_row has_windows (rows_of_node number (batch_node true r q (node s p w x))) ≡ some (row_of number (batch_node true r q (node s p w x)) 0)
unfolding has_windows
window_broken number r s q p w x = row_first has_windows number (batch_node true r q (node s p w x)) 0 0 (max 1 (length r)) (omega arith) (rw (lt-ltb 0 (tops (node s p w x)) (omega arith))) (λ k h. absurd (omega arith))

-- ---- The walk

pub record Walking (nodes rows : List ℕ) (i j number left : ℕ) (best : Break) : Type 0 where
  pub f : Forest
  pub stores : Stores nodes rows f
  pub windows : Forest
  pub after : Forest
  pub before : Option Break
  pub nodes_come : NodesToCome nodes i (followed windows after)
  pub rows_come : RowsToCome rows j (followed windows after)
  pub left_is : left ≡ tops windows
  pub counted : i ≡ number * node_width
  pub best_is : best ≡ held before
  pub lowest : OfRule (λ n. 1 < n) before
  pub known : OfRule (λ n. n ≤ no_rule) before
  pub rest : first_broken f ≡ better before (first_break rules (node_rows number (batch_nodes true windows ++ batch_nodes false after)))

pub walking_start : {nodes rows : List ℕ} → Batch nodes rows → (best : Break) → best ≡ held nothing → Walking nodes rows 0 0 0 0 best
unfolding first_broken batch_nodes
walking_start (f, s) best e =
    record {
      f = f;
      stores = s;
      windows = none;
      after = f;
      before = nothing;
      nodes_come = all_to_come s.nodes_are s.well.fine;
      rows_come = record { is = sym s.rows_are; on = omega arith };
      left_is = refl;
      counted = omega arith;
      best_is = e;
      lowest = tt;
      known = tt;
      rest = sym (nothing_better (first_break rules (node_rows 0 (batch_nodes false f))));
    }

-- what the rows of one node and those after it break
rest_more : (before : Option Break) (number : ℕ) (N : BatchNode) (Ns : List BatchNode) → better before (first_break rules (node_rows number (N ∷ Ns))) ≡ better (better before (first_break rules (rows_of_node number N))) (first_break rules (node_rows (number + 1) Ns))
unfolding node_rows
rest_more before number N Ns =
    ap (better before) (first_append rules ascending_rules (rows_of_node number N) (node_rows (suc number) Ns))
    ∙ sym (better_assoc before (first_break rules (rows_of_node number N)) (first_break rules (node_rows (suc number) Ns)))
    ∙ ap (λ (n : ℕ). better (better before (first_break rules (rows_of_node number N))) (first_break rules (node_rows n Ns))) (sym (add-one number))

-- nothing goes before the first rule
first_stays : (b : Break) → b.rule ≡ 1 → (ps : List NodeRow) → better (some b) (first_break rules ps) ≡ some b
first_stays b e ps = go (first_break rules ps) (first_among (λ n. 1 ≤ n) rules (omega arith) ps)
  where
    go : (o : Option Break) → OfRule (λ n. 1 ≤ n) o → better (some b) o ≡ some b
    go nothing h = better_nothing (some b)
    go (some c) h = better_stays b c (omega (arith, e, h))

module _ {nodes rows : List ℕ} {i j number left : ℕ} {best : Break} (k : Walking nodes rows i j number left best) where
  same : (f : Forest) → Stores nodes rows f → held (first_broken k.f) ≡ held (first_broken f)
  same f s = ap (λ (g : Forest). held (first_broken g)) (unique nodes rows k.f f k.stores s)

  -- no node is to come
  pub walking_end : length nodes / node_width ≤ number → FirstFound nodes rows best
  unfolding batch_nodes node_rows first_break first_row
  walking_end past f s = go k.windows k.after k.nodes_come k.rest
    where
      go : (windows after : Forest) → NodesToCome nodes i (followed windows after) → first_broken k.f ≡ better k.before (first_break rules (node_rows number (batch_nodes true windows ++ batch_nodes false after))) → best ≡ held (first_broken f)
      go none none h e = k.best_is ∙ ap held (sym (e ∙ better_nothing k.before)) ∙ same f s
      go none (node r q w x) h e = absurd (omega (arith, coming_fits h, k.counted))
      go (node r q w x) after h e = absurd (omega (arith, coming_fits h, k.counted))

  module _ (inside : i < length nodes) where
    -- one is
    pub walking_there : NodeThere nodes i rows j best
    walking_there = go k.windows k.after k.nodes_come k.rows_come
      where
        few : best.rule ≤ no_rule
        few = omega (arith, ap (λ (b : Break). b.rule) k.best_is, held_known k.before k.known)

        go : (windows after : Forest) → NodesToCome nodes i (followed windows after) → RowsToCome rows j (followed windows after) → NodeThere nodes i rows j best
        go none none h c = absurd (omega (arith, nodes_left h))
        go none (node r q w x) h c = record { N = batch_node false r q w; at = node_at_lem h c false; known = few }
        go (node r q w x) after h c = record { N = batch_node true r q w; at = node_at_lem h c true; known = few }

    -- a window that has windows
    pub walking_stops : 0 < left → 0 < get_or nodes (i + 1) 0 → FirstFound nodes rows (record { rule = 1; node = number; row = 0 })
    unfolding batch_nodes
    walking_stops l m f s = go k.windows k.left_is k.nodes_come k.rest
      where
        go : (windows : Forest) → left ≡ tops windows → NodesToCome nodes i (followed windows k.after)
            → first_broken k.f ≡ better k.before (first_break rules (node_rows number (batch_nodes true windows ++ batch_nodes false k.after)))
            → record { rule = 1; node = number; row = 0 } ≡ held (first_broken f)
        go none t h e = absurd (omega (arith, t))
        go (node r q none x) t h e = absurd (omega (arith, coming_windows h))
        go (node r q (node s₁ p v y) x) t h e =
            let N = batch_node true r q (node s₁ p v y) in
            let Ns = (batch_nodes true (node s₁ p v y) ++ batch_nodes true x) ++ batch_nodes false k.after in
            let told : better k.before (first_break rules (rows_of_node number N)) ≡ some (break_at 1 (row_of number N 0)) = first_told k.before (rows_of_node number N) (row_of number N 0) k.lowest (window_broken number r s₁ q p v y) in
            sym (ap held (e ∙ rest_more k.before number N Ns ∙ ap (λ (o : Option Break). better o (first_break rules (node_rows (number + 1) Ns))) told ∙ first_stays (break_at 1 (row_of number N 0)) refl (node_rows (number + 1) Ns)))
            ∙ same f s

    -- the nodes after this one
    pub walking_next : (0 < left → get_or nodes (i + 1) 0 ≡ 0) → (r : Break) → NodeFound nodes i rows j number best r
        → Walking nodes rows (i + node_width) (j + get_or nodes i 0 * row_width) (number + 1) (left_after left (get_or nodes (i + 1) 0)) r
    unfolding batch_nodes
    walking_next plain r found = go k.windows k.after k.left_is k.nodes_come k.rows_come k.rest
      where
        -- whichever is next, of the windows or after them
        on : (windows after : Forest) (N : BatchNode) → NodeStands nodes i rows j N → first_row has_windows (rows_of_node number N) ≡ nothing
            → NodesToCome nodes (i + node_width) (followed windows after) → RowsToCome rows (j + length N.encoding.rows * row_width) (followed windows after)
            → left_after left (get_or nodes (i + 1) 0) ≡ tops windows
            → first_broken k.f ≡ better k.before (first_break rules (node_rows number (N ∷ (batch_nodes true windows ++ batch_nodes false after))))
            → Walking nodes rows (i + node_width) (j + get_or nodes i 0 * row_width) (number + 1) (left_after left (get_or nodes (i + 1) 0)) r
        on windows after N at unbroken h c t e =
            record {
              f = k.f;
              stores = k.stores;
              windows = windows;
              after = after;
              before = better k.before (first_break rules (rows_of_node number N));
              nodes_come = h;
              rows_come = rw at.size c;
              left_is = t;
              counted = omega (arith, k.counted);
              best_is = found N k.before at k.best_is unbroken;
              lowest = better_among (λ n. 1 < n) k.before (first_break rules (rows_of_node number N)) k.lowest (apart_above (rows_of_node number N) unbroken);
              known = better_among (λ n. n ≤ no_rule) k.before (first_break rules (rows_of_node number N)) k.known (first_among (λ n. n ≤ no_rule) rules (omega arith) (rows_of_node number N));
              rest = e ∙ rest_more k.before number N (batch_nodes true windows ++ batch_nodes false after);
            }

        go : (windows after : Forest) → left ≡ tops windows → NodesToCome nodes i (followed windows after) → RowsToCome rows j (followed windows after)
            → first_broken k.f ≡ better k.before (first_break rules (node_rows number (batch_nodes true windows ++ batch_nodes false after)))
            → Walking nodes rows (i + node_width) (j + get_or nodes i 0 * row_width) (number + 1) (left_after left (get_or nodes (i + 1) 0)) r
        go none none t h c e = absurd (omega (arith, nodes_left h))
        go none (node r₁ q w x) t h c e =
            on w x (batch_node false r₁ q w) (node_at_lem h c false) (top_fine number r₁ q w) (coming_next h) (coming_rows_next c)
            (ap (λ (b : Bool). cond b (get_or nodes (i + 1) 0) (left - 1)) (eq-eqb left 0 t) ∙ coming_windows h) e
        go (node r₁ q (node s₁ p v y) x) after t h c e = absurd (omega (arith, coming_windows h, plain (omega (arith, t))))
        go (node r₁ q none x) after t h c e =
            on x after (batch_node true r₁ q none) (node_at_lem h c true) (window_fine number r₁ q) (coming_next h) (coming_rows_next c)
            (ap (λ (b : Bool). cond b (get_or nodes (i + 1) 0) (left - 1)) (ne_eqb left 0 (λ z. omega (arith, t, z))) ∙ omega (arith, t)) e

    -- its numbers are within the lists, and few nodes were before it
    pub walking_fits : (i + node_width ≤ length nodes) × (j + get_or nodes i 0 * row_width ≤ length rows)
    walking_fits = let t = walking_there in (t.at.fits, omega (arith, t.at.size, t.at.rows_fit))

    pub walking_few : number < most_nodes
    walking_few = omega (arith, k.counted, nodes_few (nodes_of k.stores))
