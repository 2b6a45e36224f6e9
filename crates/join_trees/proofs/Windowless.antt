-- Joins with an encoding that has no windows: one pass over the nodes of the other.
-- Assumes nothing.
use mathlib.Core.Path.{◌≡◌, refl, ap, ap₂, ◌∙◌}
use mathlib.Core.Bool.{Bool}
use mathlib.Core.List.{List, [], ◌∷◌, append-nil}
use Prim.Native.Nat.{suc, ◌+◌, ◌*◌}
use native.Mathlib.Nat.{zero-mul, suc-mul, add-mul}
use native.Mathlib.Omega.{arith}
use lib.ListN.{length}
use Rattle.record.specs.Tree.{Row, Range, Forest, none, node, Encoding, listed, forest, windows, encoding, tops}
use Rattle.record.specs.WellFormed.{nodes_in, rows_in, levels}
use Rattle.join_trees.specs.Join.{join_rows, join_ranges, with_each, each_with, join}
use Rattle.join_trees.proofs.Rows.{length_join_rows}

-- Every encoding of a forest, windows included, joined with rows rp and ranges qp: the forest keeps its shape.
abbrev pub join_along : Bool → List Row → List Range → Forest → Forest
join_along g rp qp none = none
join_along g rp qp (node r q w x) = node (join_rows g r rp) (join_ranges (length r) q qp) (join_along g rp qp w) (join_along g rp qp x)

module _ (g : Bool) (rp : List Row) (qp : List Range) where
  abbrev P : Encoding
  P = encoding rp qp []

  each_with_along : (f : Forest) → forest (each_with g f P) ≡ join_along g rp qp f
  unfolding each_with with_each
  each_with_along none = refl
  each_with_along (node r q w x) =
      ap₂ (node (join_rows g r rp) (join_ranges (length r) q qp)) (ap forest (append-nil (each_with g w P)) ∙ each_with_along w) (each_with_along x)

  -- S with an encoding that has no windows: S, each node with P's rows and ranges.
  pub join_windowless : (S : Encoding) → forest (join g S P ∷ []) ≡ join_along g rp qp (forest (S ∷ []))
  unfolding join with_each
  join_windowless S =
      ap (λ (w : Forest). node (join_rows g S.rows rp) (join_ranges (length S.rows) S.ranges qp) w none) (ap forest (append-nil (each_with g S.below P)) ∙ each_with_along S.below)

  -- Its sizes.
  pub along_nodes : (f : Forest) → nodes_in (join_along g rp qp f) ≡ nodes_in f
  along_nodes none = refl
  along_nodes (node r q w x) = omega (arith, along_nodes w, along_nodes x)

  pub along_tops : (f : Forest) → tops (join_along g rp qp f) ≡ tops f
  along_tops none = refl
  along_tops (node r q w x) = ap suc (along_tops x)

  pub along_rows : (f : Forest) → rows_in (join_along g rp qp f) ≡ rows_in f + nodes_in f * length rp
  along_rows none = omega (arith, zero-mul (length rp))
  along_rows (node r q w x) = omega (arith, length_join_rows g r rp, along_rows w, along_rows x, suc-mul (nodes_in w + nodes_in x) (length rp), add-mul (nodes_in w) (nodes_in x) (length rp))

-- Neither has windows: rows after rows.
pub join_both_windowless : (g : Bool) (r : List Row) (q : List Range) (rp : List Row) (qp : List Range) → join g (encoding r q []) (encoding rp qp []) ≡ encoding (join_rows g r rp) (join_ranges (length r) q qp) []
unfolding join each_with with_each
join_both_windowless g r q rp qp = refl

-- ---- How they are told: by the number of windows

pub no_windows : (E : Encoding) → length (windows E) ≡ 0 → E ≡ encoding E.rows E.ranges []
no_windows E e = λ i. record { rows = E.rows; ranges = E.ranges; below = go E.below e i }
  where
    go : (f : Forest) → length (listed f) ≡ 0 → f ≡ none
    go none e = refl
    go (node r q w x) e = absurd (omega arith)

module _ (g : Bool) (S P : Encoding) (s : length (windows S) ≡ 0) (p : length (windows P) ≡ 0) where
  pub join_plain : join g S P ≡ encoding (join_rows g S.rows P.rows) (join_ranges (length S.rows) S.ranges P.ranges) []
  join_plain = ap₂ (join g) (no_windows S s) (no_windows P p) ∙ join_both_windowless g S.rows S.ranges P.rows P.ranges

  pub join_plain_nodes : nodes_in (forest (join g S P ∷ [])) ≡ 1
  join_plain_nodes = ap (λ (E : Encoding). nodes_in (forest (E ∷ []))) join_plain

  pub join_plain_rows : rows_in (forest (join g S P ∷ [])) ≡ length S.rows + length P.rows
  join_plain_rows = ap (λ (E : Encoding). rows_in (forest (E ∷ []))) join_plain ∙ omega (arith, length_join_rows g S.rows P.rows)

  pub join_plain_levels : levels (forest (join g S P ∷ [])) ≡ 1
  join_plain_levels = ap (λ (E : Encoding). levels (forest (E ∷ []))) join_plain
