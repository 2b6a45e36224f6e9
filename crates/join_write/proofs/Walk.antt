-- The walk over encodings side by side: so many are left, from a place on, and what is to be written for them.
-- Assumes nothing.
use mathlib.Core.Path.{◌≡◌}
use mathlib.Core.List.{List, [], ◌∷◌}
use Prim.Native.Nat.{ℕ, suc, ◌+◌, ◌*◌, ◌-◌, ◌≤◌, ◌<◌}
use native.Mathlib.Omega.{arith}
use Rattle.record.specs.Tree.{Forest, none, node, Encoding, forest, tops}
use Rattle.record.specs.Flat.{row_width, node_width}
use Rattle.record.specs.WellFormed.{nodes_in, rows_in}
use Rattle.record.specs.Standing.{Here}
use Rattle.record.proofs.Here.{here_first, here_next}
use Rattle.record.specs.declared.Spot.{Spot}
use Rattle.join_walk.specs.Promises.{Follows}
use Rattle.join_walk.proofs.Places.{follows}
use Rattle.join_write.proofs.Going.{Going, going_start}

-- k encodings stand at x, and what `todo` makes of them is left of `all`
pub record Walk (todo : Forest → List Encoding) (all : List Encoding) (nodes rows : List ℕ) (x : Spot) (k : ℕ) (out out' : List ℕ) (at a : Spot) (out₁ out₁' : List ℕ) : Type 0 where
  pub left : Forest
  pub there : Here nodes rows x.node x.row left
  pub many : tops left ≡ k
  pub going : Going all (todo left) out out' at a out₁ out₁'

-- one of them, and then the others
pub record Turn (todo : Forest → List Encoding) (all : List Encoding) (nodes rows : List ℕ) (x : Spot) (k : ℕ) (out out' : List ℕ) (at a : Spot) (out₁ out₁' : List ℕ) : Type 0 where
  pub E : Encoding
  pub rest : Forest
  pub here : Here nodes rows x.node x.row (forest (E ∷ []))
  pub next : Here nodes rows (x.node + nodes_in (forest (E ∷ [])) * node_width) (x.row + rows_in (forest (E ∷ [])) * row_width) rest
  pub many : suc (tops rest) ≡ k
  pub going : Going all (todo (node E.rows E.ranges E.below rest)) out out' at a out₁ out₁'

module _ (todo : Forest → List Encoding) where
  pub walk_start : {nodes rows : List ℕ} {x : Spot} {k : ℕ} (f : Forest) (out out' : List ℕ) (at : Spot) → Here nodes rows x.node x.row f → tops f ≡ k → Walk todo (todo f) nodes rows x k out out' at at out out'
  walk_start f out out' at h n = record { left = f; there = h; many = n; going = going_start (todo f) out out' at }

module _ {todo : Forest → List Encoding} {all : List Encoding} {nodes rows : List ℕ} {x : Spot} {k : ℕ} {out out' : List ℕ} {at a : Spot} {out₁ out₁' : List ℕ} where
  pub walk_turn : Walk todo all nodes rows x k out out' at a out₁ out₁' → 0 < k → Turn todo all nodes rows x k out out' at a out₁ out₁'
  walk_turn w l = go w.left w.there w.many w.going
    where
      go : (f : Forest) → Here nodes rows x.node x.row f → tops f ≡ k → Going all (todo f) out out' at a out₁ out₁' → Turn todo all nodes rows x k out out' at a out₁ out₁'
      go none h n g = absurd (omega arith)
      go (node r q b y) h n g = record { E = record { rows = r; ranges = q; below = b }; rest = y; here = here_first h; next = here_next h; many = n; going = g }

  pub walk_on : (t : Turn todo all nodes rows x k out out' at a out₁ out₁') {r b : Spot} {out₂ out₂' : List ℕ} → Follows nodes x r → Going all (todo t.rest) out out' at b out₂ out₂' → Walk todo all nodes rows r (k - 1) out out' at b out₂ out₂'
  walk_on t f g = record { left = t.rest; there = rw (follows t.here f) t.next; many = omega (arith, t.many); going = g }

  pub walk_end : Walk todo all nodes rows x k out out' at a out₁ out₁' → k ≤ 0 → Going all (todo none) out out' at a out₁ out₁'
  walk_end w l = go w.left w.many w.going
    where
      go : (f : Forest) → tops f ≡ k → Going all (todo f) out out' at a out₁ out₁' → Going all (todo none) out out' at a out₁ out₁'
      go none n g = g
      go (node r q b y) n g = absurd (omega arith)
