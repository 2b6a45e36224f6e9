-- The levels of a join have what the table says; and what an encoding has in all is what its levels have together.
-- Assumes nothing.
use mathlib.Core.Path.{◌≡◌, refl, ap, sym, ◌∙◌, fun_ext}
use mathlib.Core.Bool.{Bool}
use mathlib.Core.List.{List, [], ◌∷◌, ◌++◌, map, flat_map}
use Prim.Native.Nat.{ℕ, zero, suc, ◌+◌, ◌*◌, ◌≤◌, ◌<◌}
use native.Mathlib.Omega.{arith}
use lib.ListN.{length}
use Rattle.record.specs.Tree.{Row, Forest, none, node, Encoding, listed, forest, windows}
use Rattle.record.specs.WellFormed.{levels}
use Rattle.join_trees.specs.Join.{join_rows, join}
use Rattle.lists.proofs.FlatMap.{map_append}
use Rattle.join_trees.proofs.Join.{join_rows_lem, join_windows_lem}
use Rattle.join_trees.proofs.Rows.{length_join_rows}
use Rattle.join_trees.proofs.Sizes.{total}
use Rattle.join_levels.specs.Levels.{sum, weight_at, counted_once, nodes_at, rows_at}
use Rattle.join_table.specs.Table.{sum_below, later, joined_level}
use Rattle.join_table.proofs.Numbers.{joined_none_left, joined_none_right, joined_add_left, joined_add_right}

sum_append : (s t : List ℕ) → sum (s ++ t) ≡ sum s + sum t
sum_append [] t = omega arith
sum_append (n ∷ s) t = omega (arith, sum_append s t)

-- ---- The levels of a join, for whatever is a sum of two products at its top

-- the levels of all of a list, and of one encoding
abbrev pub each : (List Row → ℕ) → List Encoding → ℕ → ℕ
each c ts i = sum (map (weight_at c i) ts)

abbrev of : (List Row → ℕ) → Encoding → ℕ → ℕ
of c E i = weight_at c i E

module _ (g : Bool) (f a b c e : List Row → ℕ) (top : (r rp : List Row) → f (join_rows g r rp) ≡ a r * b rp + c r * e rp) where
  module _ (d : ℕ) (ih : (S P : Encoding) → weight_at f d (join g S P) ≡ joined_level d (of a S) (of b P) + joined_level d (of c S) (of e P)) where
    row : (S : Encoding) (ps : List Encoding) → sum (map (weight_at f d) (map (join g S) ps)) ≡ joined_level d (of a S) (each b ps) + joined_level d (of c S) (each e ps)
    row S [] = omega (arith, joined_none_right d (of a S), joined_none_right d (of c S))
    row S (p ∷ ps) = omega (arith, ih S p, row S ps, joined_add_right d (of a S) (of b p) (each b ps), joined_add_right d (of c S) (of e p) (each e ps))

    table : (ss ps : List Encoding) → sum (map (weight_at f d) (flat_map (λ s. map (join g s) ps) ss)) ≡ joined_level d (each a ss) (each b ps) + joined_level d (each c ss) (each e ps)
    unfolding flat_map
    table [] ps = omega (arith, joined_none_left d (each b ps), joined_none_left d (each e ps))
    table (s ∷ ss) ps =
        rw (map_append, sum_append)
        (omega (arith, row s ps, table ss ps, joined_add_left d (of a s) (each a ss) (each b ps), joined_add_left d (of c s) (each c ss) (each e ps)))

    next : (S P : Encoding) → weight_at f (suc d) (join g S P) ≡ joined_level (suc d) (of a S) (of b P) + joined_level (suc d) (of c S) (of e P)
    unfolding weight_at joined_level
    next S P =
        rw (join_windows_lem, map_append, sum_append)
        (omega (arith, table (windows S) (P ∷ windows P), row S (windows P), joined_add_right d (each a (windows S)) (of b P) (each b (windows P)), joined_add_right d (each c (windows S)) (of e P) (each e (windows P))))

  weight_join : (d : ℕ) (S P : Encoding) → weight_at f d (join g S P) ≡ joined_level d (of a S) (of b P) + joined_level d (of c S) (of e P)
  unfolding weight_at joined_level
  weight_join zero S P = ap f (join_rows_lem g S P) ∙ top S.rows P.rows
  weight_join (suc d) S P = next d (weight_join d) S P

nothing : List Row → ℕ
nothing r = 0

sum_none : (h : Encoding → ℕ) → ((E : Encoding) → h E ≡ 0) → (ts : List Encoding) → sum (map h ts) ≡ 0
sum_none h z [] = refl
sum_none h z (t ∷ ts) = omega (arith, z t, sum_none h z ts)

none_at : (d : ℕ) (E : Encoding) → weight_at nothing d E ≡ 0
unfolding weight_at nothing
none_at zero E = refl
none_at (suc d) E = sum_none (weight_at nothing d) (none_at d) (windows E)

pub nodes_join : (g : Bool) (d : ℕ) (S P : Encoding) → nodes_at d (join g S P) ≡ joined_level d (λ i. nodes_at i S) (λ i. nodes_at i P)
unfolding nothing
nodes_join g d S P =
    omega (
      arith,
      weight_join g counted_once counted_once counted_once nothing nothing (λ r rp. refl) d S P,
      ap (λ (u : ℕ → ℕ). joined_level d u (of nothing P)) (fun_ext (λ i. none_at i S)) ∙ joined_none_left d (of nothing P),
    )

pub rows_join : (g : Bool) (d : ℕ) (S P : Encoding)
    → rows_at d (join g S P) ≡ joined_level d (λ i. rows_at i S) (λ i. nodes_at i P) + joined_level d (λ i. nodes_at i S) (λ i. rows_at i P)
rows_join g d S P = weight_join g length length counted_once counted_once length (λ r rp. omega (arith, length_join_rows g r rp)) d S P

-- ---- Totals

sum_add : (h k : Encoding → ℕ) (ts : List Encoding) → sum (map (λ t. h t + k t) ts) ≡ sum (map h ts) + sum (map k ts)
sum_add h k [] = refl
sum_add h k (t ∷ ts) = omega (arith, sum_add h k ts)

below_later : (n : ℕ) (u : ℕ → ℕ) → sum_below (suc n) u ≡ u 0 + sum_below n (later u)
unfolding sum_below
below_later zero u = omega arith
below_later (suc n) u = omega (arith, below_later n u)

below_add : (n : ℕ) (u v : ℕ → ℕ) → sum_below n (λ d. u d + v d) ≡ sum_below n u + sum_below n v
unfolding sum_below
below_add zero u v = omega arith
below_add (suc n) u v = omega (arith, below_add n u v)

below_none : (n : ℕ) → sum_below n (λ d. 0) ≡ 0
unfolding sum_below
below_none zero = refl
below_none (suc n) = omega (arith, below_none n)

-- All nodes of a forest, level by level, down to the last level or further.
pub total_levels : (c : List Row → ℕ) (f : Forest) (n : ℕ) → levels f ≤ n → total c f ≡ sum_below n (each c (listed f))
unfolding weight_at
total_levels c none n h = sym (below_none n)
total_levels c (node r q w x) zero h = absurd (omega arith)
total_levels c (node r q w x) (suc n) h =
    let E : Encoding = record { rows = r; ranges = q; below = w } in
    omega (arith, total_levels c w n (omega arith), total_levels c x (suc n) (omega arith), below_add (suc n) (of c E) (each c (listed x)), below_later n (of c E))

-- Below its last level it has nothing.
pub beyond : (c : List Row → ℕ) (f : Forest) (d : ℕ) → levels f ≤ d → each c (listed f) d ≡ 0
unfolding weight_at
beyond c none d h = refl
beyond c (node r q w x) zero h = absurd (omega arith)
beyond c (node r q w x) (suc d) h = omega (arith, beyond c w d (omega arith), beyond c x (suc d) (omega arith))

-- ---- One encoding

module _ (c : List Row → ℕ) (E : Encoding) where
  pub total_one : (n : ℕ) → levels E.below < n → total c (forest (E ∷ [])) ≡ sum_below n (λ d. weight_at c d E)
  total_one n h = total_levels c (forest (E ∷ [])) n (omega arith) ∙ ap (sum_below n) (fun_ext (λ d. omega arith))

  pub beyond_one : (d : ℕ) → levels E.below < d → weight_at c d E ≡ 0
  beyond_one d h = omega (arith, beyond c (forest (E ∷ [])) d (omega arith))
