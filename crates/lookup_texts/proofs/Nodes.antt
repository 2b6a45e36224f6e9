-- The nodes of a whole batch by their numbers: the row count of each, and where its rows stand.
-- Assumes nothing.
use mathlib.Core.Path.{◌≡◌, refl, sym, ap, ap₂, ◌∙◌}
use Prim.Native.Nat.{ℕ, zero, suc, ◌+◌, ◌*◌, ◌≤◌, ◌<◌}
use native.Mathlib.Omega.{arith}
use mathlib.Core.List.{List, [], ◌∷◌, ◌++◌, flat_map}
use lib.ListN.{length, get_or, take, drop, length-append}
use lib.Seq.{take-suc, drop_at}
use Rattle.record.specs.Tree.{Row, Forest, none, node, Encoding, listed, empty, sequences}
use Rattle.lists.specs.Lists.{All}
use Rattle.record.specs.Flat.{row_width, node_width, row_numbers, range_numbers, flat_nodes}
use Rattle.record.specs.WellFormed.{Fine, Stores}
use Rattle.record.specs.Standing.{RowsAt}
use Rattle.record.specs.Walk.{all_rows, all_encodings}
use Rattle.lists.proofs.All.{all_append}
use Rattle.record.proofs.Flat.{length_numbers, row_stored, range_stored, node_width_lem, length_nodes}
use Rattle.record.proofs.Walk.{flat_rows_lem, length_all_encodings}
use Rattle.lookup_texts.specs.Promises.{rows_before}
use Rattle.lookup_texts.proofs.Numbered.{flat_map_around, number_at}
use Rattle.lists.proofs.FlatMap.{flat_map_append}

-- an encoding's own node
unfoldable pub node_numbers : Encoding → List ℕ
node_numbers E = length E.rows ∷ length (listed E.below) ∷ flat_map range_numbers E.ranges

abbrev pub own_rows : Encoding → List Row
own_rows E = E.rows

pub flat_nodes_lem : (f : Forest) → flat_nodes f ≡ flat_map node_numbers (all_encodings f)
unfolding flat_nodes flat_map all_encodings node_numbers
flat_nodes_lem none = refl
flat_nodes_lem (node r q w x) =
    ap (λ (l : List ℕ). length r ∷ length (listed w) ∷ (flat_map range_numbers q ++ l)) (ap₂ ◌++◌ (flat_nodes_lem w) (flat_nodes_lem x) ∙ sym (flat_map_append node_numbers (all_encodings w) (all_encodings x)))

pub all_rows_lem : (f : Forest) → all_rows f ≡ flat_map own_rows (all_encodings f)
unfolding flat_map all_rows all_encodings
all_rows_lem none = refl
all_rows_lem (node r q w x) = ap (r ++◌) (ap₂ ◌++◌ (all_rows_lem w) (all_rows_lem x) ∙ sym (flat_map_append own_rows (all_encodings w) (all_encodings x)))

nodes_wide : (f : Forest) → Fine f → All (λ E. length (node_numbers E) ≡ node_width) (all_encodings f)
unfolding all_encodings node_numbers
nodes_wide none h = tt
nodes_wide (node r q w x) (h, hw, hx) =
    let e : length (flat_map range_numbers q) ≡ sequences * 3 = length_numbers range_stored q ∙ ap (λ (n : ℕ). n * 3) h.places in
    (omega (arith, node_width_lem), all_append _ (all_encodings w) (all_encodings x) (nodes_wide w hw) (nodes_wide x hx))

module _ {nodes rows : List ℕ} {f : Forest} (s : Stores nodes rows f) where
  -- a node's width for each encoding
  pub nodes_long : length nodes ≡ length (all_encodings f) * node_width
  nodes_long = ap length (sym s.nodes_are) ∙ length_nodes f s.well.fine ∙ ap (λ (n : ℕ). n * node_width) (sym (length_all_encodings f))

  -- the row count of node k
  pub node_size : (k : ℕ) → k < length (all_encodings f) → get_or nodes (k * node_width) 0 ≡ length (get_or (all_encodings f) k empty).rows
  unfolding node_numbers
  node_size k h =
      let e : k * node_width ≡ k * node_width + 0 = omega arith in
      rw (← s.nodes_are, flat_nodes_lem f, e) (number_at node_numbers (all_encodings f) (nodes_wide f s.well.fine) k 0 empty h (omega arith))

  -- the rows before those of node k
  pub rows_before_lem : (k : ℕ) → k ≤ length (all_encodings f) → rows_before nodes k ≡ length (flat_map own_rows (take k (all_encodings f)))
  unfolding rows_before flat_map
  rows_before_lem zero h = refl
  rows_before_lem (suc k) h =
      let E = get_or (all_encodings f) k empty in
      let e : flat_map own_rows (take (suc k) (all_encodings f)) ≡ flat_map own_rows (take k (all_encodings f)) ++ (E.rows ++ []) = ap (flat_map own_rows) (take-suc (all_encodings f) k empty h) ∙ flat_map_append own_rows (take k (all_encodings f)) (E ∷ []) in
      rw e (omega (arith, rows_before_lem k (omega arith), node_size k h, length-append (flat_map own_rows (take k (all_encodings f))) (E.rows ++ []), length-append E.rows []))

  -- the rows of node k, after those of the nodes before it
  module _ (k : ℕ) (h : k < length (all_encodings f)) where
    abbrev E : Encoding
    E = get_or (all_encodings f) k empty

    abbrev before : List Row
    before = flat_map own_rows (take k (all_encodings f))

    abbrev after : List Row
    after = flat_map own_rows (drop (suc k) (all_encodings f))

    parts : rows ≡ flat_map row_numbers before ++ (flat_map row_numbers E.rows ++ flat_map row_numbers after)
    parts =
        sym s.rows_are
        ∙ flat_rows_lem f
        ∙ ap (flat_map row_numbers) (all_rows_lem f ∙ flat_map_around own_rows (all_encodings f) k empty h)
        ∙ flat_map_append row_numbers before (E.rows ++ after)
        ∙ ap (flat_map row_numbers before ++◌) (flat_map_append row_numbers E.rows after)

    long : length (flat_map row_numbers before) ≡ rows_before nodes k * row_width
    long = length_numbers row_stored before ∙ ap (λ (n : ℕ). n * row_width) (sym (rows_before_lem k (omega arith)))

    pub node_rows_lem : RowsAt rows (rows_before nodes k * row_width) E.rows
    node_rows_lem =
        record {
          rest = flat_map row_numbers after;
          is = ap (drop (rows_before nodes k * row_width)) parts ∙ drop_at (flat_map row_numbers before) (flat_map row_numbers E.rows ++ flat_map row_numbers after) (rows_before nodes k * row_width) long;
        }

    pub node_rows_within : (rows_before nodes k + length E.rows) * row_width ≤ length rows
    node_rows_within = omega (arith, ap length parts, long, length-append (flat_map row_numbers before) (flat_map row_numbers E.rows ++ flat_map row_numbers after), length-append (flat_map row_numbers E.rows) (flat_map row_numbers after), length_numbers row_stored E.rows)
