-- A batch of one encoding: what `read` says of it, and its numbers by their places.
-- Assumes nothing.
use mathlib.Core.Path.{◌≡◌, refl, sym, ap, ◌∙◌, subst}
use mathlib.Core.Bool.{true, false, false≢true}
use Prim.Native.Nat.{ℕ, suc, ◌+◌, ◌*◌, ◌≤◌, ◌<◌}
use native.Mathlib.Omega.{arith}
use mathlib.Core.List.{List, [], ◌∷◌}
use lib.Dec.{eqb}
use lib.ListN.{length, get_or}
use borrow.Author.Tests.{ne_eqb}
use Rattle.record.specs.Tree.{Range, Encoding, listed, forest, sequences}
use Rattle.record.specs.Flat.{row_width, node_width, range_numbers}
use Rattle.record.specs.WellFormed.{NodeFine, Stores}
use Rattle.record.specs.Read.{Reading, malformed, holds, read, sole, of_one, is_one}
use Rattle.record.specs.Standing.{At, One}
use Rattle.record.proofs.Tree.{forest_listed}
use Rattle.record.proofs.Flat.{length_nodes, length_rows}
use Rattle.record.proofs.Standing.{at_top, at_size, at_range}
use Rattle.record.proofs.Read.{found, stored}

-- ---- Reading one encoding

pub one_of : {A : Type 0} {nodes rows : List ℕ} {E : Encoding} (otherwise : A) (k : Encoding → A) → One nodes rows E → of_one otherwise k (read nodes rows) ≡ k E
unfolding of_one
one_of {A} {nodes} {rows} {E} otherwise k h = rw (found nodes rows (forest (E ∷ [])) h.stores)

pub not_one : {A : Type 0} (otherwise : A) (k : Encoding → A) (r : Reading) → is_one r ≡ false → of_one otherwise k r ≡ otherwise
unfolding of_one is_one
not_one otherwise k malformed e = refl
not_one otherwise k (holds f) e = go (listed f) e
  where
    go : (l : List Encoding) → sole false (λ E. true) l ≡ false → sole otherwise k l ≡ otherwise
    go [] e = refl
    go (E ∷ []) e = absurd (false≢true (sym e))
    go (E ∷ F ∷ l) e = refl

pub one_there : (nodes rows : List ℕ) → is_one (read nodes rows) ≡ true → (E : Encoding) × One nodes rows E
unfolding of_one is_one
one_there nodes rows e = go (read nodes rows) refl e
  where
    only : (l : List Encoding) → sole false (λ E. true) l ≡ true → (E : Encoding) × (l ≡ E ∷ [])
    only [] e = absurd (false≢true e)
    only (E ∷ []) e = (E, refl)
    only (E ∷ F ∷ l) e = absurd (false≢true e)

    go : (r : Reading) → read nodes rows ≡ r → is_one r ≡ true → (E : Encoding) × One nodes rows E
    go malformed s e = absurd (false≢true e)
    go (holds f) s e =
        let (E, p) = only (listed f) e in
        let q : f ≡ forest (E ∷ []) = sym (forest_listed f) ∙ ap forest p in
        (E, record { stores = subst (Stores nodes rows) q (stored nodes rows f s) })

-- the test by the number of encodings
pub one_counted : (l : List Encoding) → sole false (λ E. true) l ≡ eqb (length l) 1
one_counted [] = refl
one_counted (E ∷ []) = refl
one_counted (E ∷ F ∷ l) = sym (ne_eqb (suc (suc (length l))) 1 (λ e. omega arith))

-- ---- Its numbers

module _ {nodes rows : List ℕ} {E : Encoding} (h : One nodes rows E) where
  pub one_fine : NodeFine E.rows E.ranges
  one_fine = h.stores.well.fine.0

  pub one_at : At nodes rows 0 0 (forest (E ∷ []))
  one_at = at_top nodes rows (forest (E ∷ [])) h.stores

  pub one_nodes_long : node_width ≤ length nodes
  one_nodes_long = omega (arith, ap length h.stores.nodes_are, length_nodes (forest (E ∷ [])) h.stores.well.fine)

  pub one_rows_long : length E.rows * row_width ≤ length rows
  one_rows_long = omega (arith, ap length h.stores.rows_are, length_rows (forest (E ∷ [])))

  pub one_size : get_or nodes 0 0 ≡ length E.rows
  one_size = at_size one_at

  -- number m of the range of sequence k
  pub one_range : (k m : ℕ) (d : Range) → k < sequences → m < 3 → get_or nodes (2 + (k * 3 + m)) 0 ≡ get_or (range_numbers (get_or E.ranges k d)) m 0
  one_range k m d a b =
      let z : 0 + (2 + (k * 3 + m)) ≡ 2 + (k * 3 + m) = omega arith in
      ap (λ (i : ℕ). get_or nodes i 0) (sym z) ∙ at_range one_at one_fine k m d a b
