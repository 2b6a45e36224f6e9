-- How a pass over the nodes opens the forest that two lists store. Assumes nothing.
use mathlib.Core.Path.{◌≡◌, refl, sym, ap, ◌∙◌}
use Prim.Native.Nat.{ℕ, suc, ◌*◌, ◌≤◌}
use native.Mathlib.Nat.{suc_inj, suc-ne-zero}
use native.Mathlib.Omega.{arith}
use mathlib.Core.List.{List, [], ◌∷◌, ◌++◌, flat_map, append_assoc, append-nil}
use lib.ListN.{length, get_or, drop, length-append}
use lib.Seq.{drop_at}
use Rattle.record.specs.Tree.{Row, Range, Forest, none, node, tops, sequences}
use Rattle.record.specs.Flat.{row_width, node_width, row_numbers, range_numbers, flat_nodes, flat_rows, range_at}
use Rattle.record.specs.WellFormed.{most_levels}
use Rattle.record.specs.Read.{node_at}
use Rattle.record.proofs.Several.{length_several}
use Rattle.record.proofs.Flat.{length_numbers, row_stored, range_stored, node_width_lem}
use Rattle.record.proofs.Read.{shut}
use Rattle.record_check.specs.Promises.{Good, Builds, Built}

-- ---- a pass over the nodes

-- what is left to read: st has the windows still to come of each node that is open, the innermost first; after them m encodings at the top
unfoldable pub Closes : ℕ → List ℕ → List ℕ → List ℕ → Type 0
Closes m [] xs rs = Built m xs rs
Closes m (k ∷ st) xs rs = (f : Forest) × (ys : List ℕ) × (zs : List ℕ) × (tops f ≡ k) × (flat_nodes f ++ ys ≡ xs) × (flat_rows f ++ zs ≡ rs) × Good (suc (length st)) f × Closes m st ys zs

-- the same, with one node more before it, in the innermost list
unfoldable pub Next : ℕ → List ℕ → List ℕ → List ℕ → Type 0
unfolding Closes
Next m [] xs rs = Closes (suc m) [] xs rs
Next m (k ∷ st) xs rs = Closes m (suc k ∷ st) xs rs

-- a node at the front of the two lists, opened
pub record Opens (w x : Forest) (l : ℕ) (X R ys zs : List ℕ) : Type 0 where
  pub enough : node_width ≤ length X
  pub rows_enough : get_or X 0 0 * row_width ≤ length R
  pub level : l ≤ most_levels
  pub windows : tops w ≡ get_or X 1 0
  pub nodes_left : flat_nodes w ++ (flat_nodes x ++ ys) ≡ drop node_width X
  pub rows_left : flat_rows w ++ (flat_rows x ++ zs) ≡ drop (get_or X 0 0 * row_width) R
  pub below : Good (suc l) w
  pub after : Good l x

open_node : (r : List Row) (q : List Range) (w x : Forest) (l : ℕ) (X R ys zs : List ℕ) → Good l (node r q w x) → flat_nodes (node r q w x) ++ ys ≡ X → flat_rows (node r q w x) ++ zs ≡ R → Opens w x l X R ys zs
unfolding Good flat_nodes flat_rows
open_node r q w x l X R ys zs h e o =
    let en : length r ≡ get_or X 0 0 = ap (λ (l : List ℕ). get_or l 0 0) e in
    let es : length (flat_map row_numbers r) ≡ get_or X 0 0 * row_width = length_numbers row_stored r ∙ ap (λ (k : ℕ). k * row_width) en in
    let eq : length (flat_map range_numbers q) ≡ sequences * 3 = length_numbers range_stored q ∙ ap (λ (k : ℕ). k * 3) h.1 in
    record {
      enough = omega (arith, simp length-append at (ap length e), eq, node_width_lem);
      rows_enough = omega (arith, simp length-append at (ap length o), es);
      level = h.0;
      windows = ap (λ (l : List ℕ). get_or l 1 0) e;
      nodes_left = sym (drop_at (flat_map range_numbers q) _ (sequences * 3) eq) ∙ (simp append_assoc at (ap (drop node_width) e));
      rows_left = sym (drop_at (flat_map row_numbers r) _ _ es) ∙ (simp append_assoc at (ap (drop (get_or X 0 0 * row_width)) o));
      below = h.2;
      after = h.3;
    }

pub record Shut (w x : Forest) (l : ℕ) (X R ys zs : List ℕ) : Type 0 where
  pub good : Good l (node_at X R w x)
  pub nodes_are : flat_nodes (node_at X R w x) ++ ys ≡ X
  pub rows_are : flat_rows (node_at X R w x) ++ zs ≡ R

pub shut_node : (w x : Forest) (l : ℕ) (X R ys zs : List ℕ) → Opens w x l X R ys zs → Shut w x l X R ys zs
unfolding Good
shut_node w x l X R ys zs o =
    let s = shut X R ys zs w x o.enough o.rows_enough o.windows o.nodes_left o.rows_left in
    record { good = (o.level, length_several range_at 3 sequences (drop 2 X), o.below, o.after); nodes_are = s.0; rows_are = s.1 }

-- a node is next: what it must have, and what is left after it
pub record Ahead (m : ℕ) (st X R : List ℕ) : Type 0 where
  pub enough : node_width ≤ length X
  pub rows_enough : get_or X 0 0 * row_width ≤ length R
  pub level : length st ≤ most_levels
  pub left : Closes m (get_or X 1 0 ∷ st) (drop node_width X) (drop (get_or X 0 0 * row_width) R)

pub next_forth : (m : ℕ) (st X R : List ℕ) → Next m st X R → Ahead m st X R
unfolding Next Closes Built
next_forth m [] X R h = go h.0 h.1
  where
    go : (f : Forest) → Builds (suc m) X R f → Ahead m [] X R
    go none s = absurd (suc-ne-zero m (sym s.counts))
    go (node rs g w x) s =
        let o = open_node rs g w x 0 X R [] [] s.good (append-nil _ ∙ s.nodes_are) (append-nil _ ∙ s.rows_are) in
        record {
          enough = o.enough;
          rows_enough = o.rows_enough;
          level = o.level;
          left = (w, flat_nodes x ++ [], flat_rows x ++ [], o.windows, o.nodes_left, o.rows_left, o.below, (x, record { counts = suc_inj s.counts; nodes_are = sym (append-nil _); rows_are = sym (append-nil _); good = o.after }));
        }
next_forth m (k ∷ st) X R h = go h.0 h.1 h.2 h.3 h.4 h.5 h.6 h.7
  where
    go : (f : Forest) (ys zs : List ℕ) → tops f ≡ suc k → flat_nodes f ++ ys ≡ X → flat_rows f ++ zs ≡ R → Good (suc (length st)) f → Closes m st ys zs → Ahead m (k ∷ st) X R
    go none ys zs c e r good rest = absurd (suc-ne-zero k (sym c))
    go (node rs g w x) ys zs c e r good rest =
        let o = open_node rs g w x (suc (length st)) X R ys zs good e r in
        record {
          enough = o.enough;
          rows_enough = o.rows_enough;
          level = o.level;
          left = (w, flat_nodes x ++ ys, flat_rows x ++ zs, o.windows, o.nodes_left, o.rows_left, o.below, (x, ys, zs, suc_inj c, refl, refl, o.after, rest));
        }

pub next_back : (m : ℕ) (st X R : List ℕ) → Ahead m st X R → Next m st X R
unfolding Next Closes Built
next_back m [] X R a =
    let p = a.left in
    let s = p.7.1 in
    let o : Opens p.0 p.7.0 0 X R [] [] = record {
      enough = a.enough;
      rows_enough = a.rows_enough;
      level = a.level;
      windows = p.3;
      nodes_left = rw (append-nil, s.nodes_are) p.4;
      rows_left = rw (append-nil, s.rows_are) p.5;
      below = p.6;
      after = s.good;
    } in
    let c = shut_node p.0 p.7.0 0 X R [] [] o in
    (node_at X R p.0 p.7.0, record { counts = ap suc s.counts; nodes_are = sym (append-nil _) ∙ c.nodes_are; rows_are = sym (append-nil _) ∙ c.rows_are; good = c.good })
next_back m (k ∷ st) X R a =
    let p = a.left in
    let s = p.7 in
    let o : Opens p.0 s.0 (suc (length st)) X R s.1 s.2 = record {
      enough = a.enough;
      rows_enough = a.rows_enough;
      level = a.level;
      windows = p.3;
      nodes_left = rw s.4 p.4;
      rows_left = rw s.5 p.5;
      below = p.6;
      after = s.6;
    } in
    let c = shut_node p.0 s.0 (suc (length st)) X R s.1 s.2 o in
    (node_at X R p.0 s.0, s.1, s.2, ap suc s.3, c.nodes_are, c.rows_are, c.good, s.7)

-- a list of windows that is used up
pub pop_forth : (m : ℕ) (st X R : List ℕ) → Closes m (0 ∷ st) X R → Closes m st X R
unfolding Closes flat_nodes flat_rows
pop_forth m st X R h = go h.0 h.3 h.4 h.5 h.7
  where
    go : (f : Forest) → tops f ≡ 0 → flat_nodes f ++ h.1 ≡ X → flat_rows f ++ h.2 ≡ R → Closes m st h.1 h.2 → Closes m st X R
    go none c e r rest = rw (← e, ← r) rest
    go (node rs g w x) c e r rest = absurd (suc-ne-zero _ c)

pub pop_back : (m : ℕ) (st X R : List ℕ) → Closes m st X R → Closes m (0 ∷ st) X R
unfolding Closes flat_nodes flat_rows Good
pop_back m st X R h = (none, X, R, refl, refl, refl, tt, h)

-- windows below level 16
pub deep : (m k : ℕ) (st X R : List ℕ) → most_levels ≤ length st → Closes m (suc k ∷ st) X R → ⊥
unfolding Closes Good
deep m k st X R l h = go h.0 h.3 h.6
  where
    go : (f : Forest) → tops f ≡ suc k → Good (suc (length st)) f → ⊥
    go none c g = suc-ne-zero k (sym c)
    go (node rs g w x) c h' = omega (arith, h'.0)
