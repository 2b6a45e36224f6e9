-- An encoding that is seen through a view: its windows, its sizes, and that it stays well-formed.
-- Assumes nothing.
use mathlib.Core.Path.{◌≡◌, refl, ap, ap₂, ◌∙◌}
use mathlib.Core.Logic.{inr}
use mathlib.Core.List.{List, [], ◌∷◌, map}
use Prim.Native.Nat.{ℕ, suc, max}
use native.Mathlib.Omega.{arith}
use lib.ListN.{length, length-map, length-set}
use Rattle.record.specs.Tree.{Row, Range, Forest, none, node, Encoding, listed, forest, windows, tops}
use Rattle.record.specs.WellFormed.{RowFine, NodeFine, Fine, WellFormed, nodes_in, rows_in, levels}
use Rattle.lists.proofs.All.{all_map}
use Rattle.record_write.specs.Writing.{present_range}
use Rattle.record_write.proofs.RangeSet.{node_fine_set}
use Rattle.join_view.specs.declared.View.{View}
use Rattle.join_view.specs.declared.View.TheVariants.{Plain, Window, Piece}
use Rattle.join_view.specs.View.{below, typed_row, rows_seen, ranges_seen, all_seen, seen}

-- ---- As it stands

pub all_plain : (f : Forest) → all_seen Plain f ≡ f
all_plain none = refl
all_plain (node r q w x) = ap₂ (node r q) (all_plain w) (all_plain x)

pub seen_plain : (E : Encoding) → seen Plain E ≡ E
seen_plain E = λ i. record { rows = E.rows; ranges = E.ranges; below = all_plain E.below i }

-- ---- Encodings side by side are seen alike, their windows one level down

pub listed_seen : (v : View) (f : Forest) → listed (all_seen v f) ≡ map (seen v) (listed f)
listed_seen v none = refl
listed_seen v (node r q w x) = ap (seen v (record { rows = r; ranges = q; below = w }) ∷◌) (listed_seen v x)

pub forest_seen : (v : View) (l : List Encoding) → forest (map (seen v) l) ≡ all_seen v (forest l)
forest_seen v [] = refl
forest_seen v (E ∷ l) = ap (node (rows_seen v E.rows) (ranges_seen v (length E.rows) E.ranges) (all_seen (below v) E.below)) (forest_seen v l)

pub seen_windows : (v : View) (E : Encoding) → windows (seen v E) ≡ map (seen (below v)) (windows E)
seen_windows v E = listed_seen (below v) E.below

-- ---- Sizes

pub length_rows_seen : (v : View) (rs : List Row) → length (rows_seen v rs) ≡ length rs
length_rows_seen Plain rs = refl
length_rows_seen (Window k) rs = refl
length_rows_seen (Piece k t) rs = length-map rs (typed_row t)

pub length_ranges_seen : (v : View) (n : ℕ) (q : List Range) → length (ranges_seen v n q) ≡ length q
length_ranges_seen Plain n q = refl
length_ranges_seen (Window k) n q = length-set q k (present_range 0 n)
length_ranges_seen (Piece k t) n q = length-set q k (present_range 0 n)

pub tops_seen : (v : View) (f : Forest) → tops (all_seen v f) ≡ tops f
tops_seen v f = ap length (listed_seen v f) ∙ length-map (listed f) (seen v)

pub nodes_seen : (v : View) (f : Forest) → nodes_in (all_seen v f) ≡ nodes_in f
nodes_seen v none = refl
nodes_seen v (node r q w x) = omega (arith, nodes_seen (below v) w, nodes_seen v x)

pub rows_seen_lem : (v : View) (f : Forest) → rows_in (all_seen v f) ≡ rows_in f
rows_seen_lem v none = refl
rows_seen_lem v (node r q w x) = omega (arith, length_rows_seen v r, rows_seen_lem (below v) w, rows_seen_lem v x)

pub levels_seen : (v : View) (f : Forest) → levels (all_seen v f) ≡ levels f
levels_seen v none = refl
levels_seen v (node r q w x) = ap₂ (λ (m n : ℕ). max (suc m) n) (levels_seen (below v) w) (levels_seen v x)

-- ---- Well-formed encodings stay so

rows_fine : (v : View) {r : List Row} {q : List Range} → NodeFine r q → NodeFine (rows_seen v r) q
rows_fine Plain n = n
rows_fine (Window k) n = n
rows_fine (Piece k t) {r} n =
    record { places = n.places; ranges_fine = rw length-map n.ranges_fine; rows_fine = all_map RowFine RowFine (typed_row t) r (λ x h. h) n.rows_fine }

ranges_fine : (v : View) {r : List Row} {q : List Range} → NodeFine r q → NodeFine r (ranges_seen v (length r) q)
ranges_fine Plain n = n
ranges_fine (Window k) n = node_fine_set k _ n (inr (refl, omega arith, omega arith))
ranges_fine (Piece k t) n = node_fine_set k _ n (inr (refl, omega arith, omega arith))

pub node_fine_seen : (v : View) {r : List Row} {q : List Range} → NodeFine r q → NodeFine (rows_seen v r) (ranges_seen v (length r) q)
node_fine_seen v n = rows_fine v (ranges_fine v n)

pub all_fine : (v : View) (f : Forest) → Fine f → Fine (all_seen v f)
all_fine v none u = tt
all_fine v (node r q w x) (n, tw, tx) = (node_fine_seen v n, all_fine (below v) w tw, all_fine v x tx)

pub all_well : (v : View) (f : Forest) → WellFormed f → WellFormed (all_seen v f)
all_well v f h =
    record {
      fine = all_fine v f h.fine;
      fits = record { few_nodes = rw nodes_seen h.fits.few_nodes; few_rows = rw rows_seen_lem h.fits.few_rows; few_levels = rw levels_seen h.fits.few_levels };
    }

pub seen_well : (v : View) (E : Encoding) → WellFormed (forest (E ∷ [])) → WellFormed (forest (seen v E ∷ []))
seen_well v E h = all_well v (forest (E ∷ [])) h
