-- A join in place: the row count added, P's ranges laid over S's, P's rows after S's.
-- Assumes nothing.
use mathlib.Core.Path.{◌≡◌, sym, ap, ap₂, ◌∙◌}
use mathlib.Core.Bool.{Bool}
use mathlib.Core.List.{List, [], ◌∷◌, flat_map}
use Prim.Native.Nat.{ℕ, ◌+◌, ◌*◌, ◌≤◌}
use native.Mathlib.Omega.{arith}
use lib.ListN.{length, get_or, set, length-set}
use lib.Seq.{sets, drop-set-lt, set-get_or, get_or-set_other}
use Rattle.record.specs.Tree.{Row, Encoding, windows}
use Rattle.record.specs.Flat.{row_width, row_numbers, range_numbers}
use Rattle.record.specs.Standing.{RowsAt}
use Rattle.record.proofs.Flat.{length_numbers, row_stored}
use Rattle.lists.proofs.Sets.{sets_append}
use Rattle.record.proofs.Walk.{numbers_append}
use Rattle.record.proofs.Here.{here_own}
use Rattle.join_trees.specs.Join.{base, join_ranges, window_count}
use Rattle.join_view.specs.declared.View.{View}
use Rattle.record.specs.declared.Spot.{Spot}
use Rattle.join_view.specs.View.{ranges_seen}
use Rattle.join_view.specs.Node.{node_numbers, own_numbers}
use Rattle.join_ranges.specs.Promises.{ranges_of, RangesAt, NodeAt, AskRanges, LaysRanges}
use Rattle.join_rows.specs.Promises.{AskMoved, MakesRows, moved_rows}
use Rattle.fold_append.specs.Promises.{AskAppend, Appends}
use Rattle.join_rows.proofs.Turning.{rows_there}
use Rattle.join_ranges.proofs.Nodes.{node_count_lem, node_windows, node_ranges, here_node, own_inside}
use Rattle.join_view.proofs.Node.{node_alone, rows_alone}

-- ---- Its node

-- the ranges stay when the row count changes
ranges_stay : {nodes : List ℕ} {E : Encoding} (n : ℕ) → NodeAt nodes 0 E → RangesAt (set nodes 0 n) 0 E.ranges
ranges_stay {nodes} n h =
    let r = node_ranges h in
    record { there = record { rest = r.there.rest; is = drop-set-lt (ranges_of 0) nodes 0 n (omega arith) ∙ r.there.is }; places = r.places }

numbers_appended : {nodes : List ℕ} {k : ℕ} {v : View} {out out₁ : List ℕ} (S P : Encoding) → NodeAt out 0 S → windows S ≡ [] → NodeAt nodes k P → windows P ≡ [] → LaysRanges v (set out 0 (get_or out 0 0 + get_or nodes k 0)) 0 (get_or out 0 0) nodes k out₁ → out₁ ≡ sets out 0 (node_numbers v S P)
numbers_appended {nodes} {k} {v} {out} {out₁} S P s alone p alone' laid =
    let n = get_or out 0 0 in
    let m = get_or nodes k 0 in
    let counted = set out 0 (n + m) in
    let W = window_count (length (windows S)) (length (windows P)) in
    let Y : ℕ → List ℕ = λ n. flat_map range_numbers (join_ranges n S.ranges (ranges_seen v (length P.rows) P.ranges)) in
    let none : get_or counted 1 0 ≡ W = get_or-set_other out 0 1 (n + m) 0 (λ e. omega arith) ∙ node_windows s ∙ ap length alone ∙ sym (ap₂ window_count (ap length alone) (ap length alone')) in
    (laid.laid P p).made S.ranges (ranges_stay (n + m) s)
    ∙ ap (λ (l : List ℕ). sets l (ranges_of 0) (Y n)) (sym (set-get_or counted 1 0) ∙ ap (set counted 1) none)
    ∙ ap₂ (λ (x y : ℕ). sets out 0 ((x + y) ∷ W ∷ Y x)) (node_count_lem s) (node_count_lem p)

-- ---- Its rows

rows_appended : (v : View) (g : Bool) {rows : List ℕ} {j count count' b : ℕ} {out out₁ : List ℕ} (S P : Encoding) → RowsAt out 0 S.rows → length S.rows ≡ count → RowsAt rows j P.rows → length P.rows ≡ count' → b ≡ base g S.rows
    → MakesRows (moved_rows v b) rows j count' out (count * row_width) out₁ → out₁ ≡ sets out 0 (own_numbers g v S P)
rows_appended v g {rows} {j} {count} {count'} {b} {out} {out₁} S P s n p m e made =
    let X = flat_map row_numbers S.rows in
    let Z : ℕ → List ℕ = λ b. flat_map row_numbers (moved_rows v b P.rows) in
    let place : count * row_width ≡ 0 + length X = omega (arith, length_numbers row_stored S.rows) in
    made.made P.rows p m
    ∙ ap₂ (λ (i b : ℕ). sets out i (Z b)) place e
    ∙ ap (λ (l : List ℕ). sets l (0 + length X) (Z (base g S.rows))) (rows_there s)
    ∙ sets_append out 0 X (Z (base g S.rows))
    ∙ ap (sets out 0) (sym (numbers_append S.rows (moved_rows v (base g S.rows) P.rows)))

-- ---- What is asked on the way, and what is given in the end

module _ {nodes rows : List ℕ} {p : Spot} {v : View} {out out' : List ℕ} where
  module _ {g : Bool} (ask : AskAppend nodes rows p v g out out') where
    pub asks_ranges : AskRanges (set out 0 (get_or out 0 0 + get_or nodes p.node 0)) 0 (get_or out 0 0) nodes p.node v
    asks_ranges =
        let s = here_node ask.here_s in
        record { P = ask.P; there = here_node ask.here_p; view_fine = ask.view_fine; few_rows = omega (arith, node_count_lem s, ask.few_rows); fits = omega (arith, length-set out 0 (get_or out 0 0 + get_or nodes p.node 0), s.inside) }

    module _ {count count' : ℕ} (e : count ≡ get_or out 0 0) (f : count' ≡ get_or nodes p.node 0) where
      counted : length ask.S.rows ≡ count
      counted = sym (e ∙ node_count_lem (here_node ask.here_s))

      counted' : length ask.P.rows ≡ count'
      counted' = sym (f ∙ node_count_lem (here_node ask.here_p))

      -- room for the rows of both
      pub rows_room : count * row_width + count' * row_width ≤ length out'
      rows_room = omega (arith, counted, counted', ask.rows_fit)

      pub asks_rows : {b : ℕ} → ((R : List Row) → RowsAt out' 0 R → length R ≡ count → b ≡ base g R) → AskMoved rows p.row count' b
      asks_rows moves =
          record { R = ask.P.rows; there = here_own ask.here_p; size = counted'; within = rw (moves ask.S.rows (here_own ask.here_s) counted) ask.within; inside = omega (arith, counted', own_inside ask.here_p) }

  pub appends : (g : Bool) {b count count' : ℕ} {out₁ out₁' : List ℕ} → ((R : List Row) → RowsAt out' 0 R → length R ≡ count → b ≡ base g R) → count ≡ get_or out 0 0 → count' ≡ get_or nodes p.node 0
      → LaysRanges v (set out 0 (get_or out 0 0 + get_or nodes p.node 0)) 0 (get_or out 0 0) nodes p.node out₁ → MakesRows (moved_rows v b) rows p.row count' out' (count * row_width) out₁'
      → Appends nodes rows p v g out out' out₁ out₁'
  appends g {b} {count} {count'} moves e f laid made S P s alone h alone' =
      let n : length S.rows ≡ count = sym (e ∙ node_count_lem (here_node s)) in
      let m : length P.rows ≡ count' = sym (f ∙ node_count_lem (here_node h)) in
      record {
        nodes_put = numbers_appended S P (here_node s) alone (here_node h) alone' laid ∙ ap (sets out 0) (sym (node_alone g v S P alone alone'));
        rows_put = rows_appended v g S P (here_own s) n (here_own h) m (moves S.rows (here_own s) n) made ∙ ap (sets out' 0) (sym (rows_alone g v S P alone alone'));
      }
