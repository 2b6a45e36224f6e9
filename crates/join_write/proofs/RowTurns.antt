-- The loop that joins one encoding with each of several, side by side.
-- Assumes nothing.
use mathlib.Core.Path.{◌≡◌, refl, sym, ap, subst}
use mathlib.Core.Bool.{Bool}
use mathlib.Core.List.{List, [], ◌∷◌, map}
use Prim.Native.Nat.{ℕ, ◌+◌, ◌-◌, ◌≤◌, ◌<◌}
use native.Mathlib.Omega.{arith}
use lib.ListN.{length, get_or}
use Rattle.record.specs.Tree.{Forest, Encoding, listed, forest, tops}
use Rattle.record.specs.WellFormed.{Fine}
use Rattle.record.specs.Standing.{Here}
use Rattle.join_trees.specs.Join.{join}
use Rattle.join_view.specs.declared.View.{View}
use Rattle.join_view.specs.declared.View.TheVariants.{Plain, Window, Piece}
use Rattle.record.specs.declared.Spot.{Spot}
use Rattle.join_view.specs.View.{below, all_seen, ViewFine}
use Rattle.join_view.proofs.Seen.{all_fine}
use Rattle.join_write.specs.Joins.{joined, rowed}
use Rattle.join_write.specs.Promises.{AskJoining, Wrote, WritesJoining}
use Rattle.join_walk.specs.Promises.{first_window, Follows}
use Rattle.join_write.proofs.Going.{Room, room_first, going_room, going_on, going_end}
use Rattle.join_write.proofs.Joined.{each_fine, room_asked, ask_in}
use Rattle.join_write.proofs.Walk.{Walk, Turn, walk_start, walk_turn, walk_on, walk_end}
use Rattle.join_walk.proofs.Places.{one_fits, windows_there, windows_many, follows}
use Rattle.join_write.proofs.Falling.{left_of}

-- S with each of a forest, seen
abbrev pub with_seen : View → Bool → Encoding → Forest → List Encoding
with_seen b g S f = map (join g S) (listed (all_seen b f))

with_fine : (b : View) (g : Bool) (S : Encoding) (f : Forest) → Fine (forest (S ∷ [])) → Fine f → Fine (forest (with_seen b g S f))
with_fine b g S f s t = each_fine g S (all_seen b f) s (all_fine b f t)

-- a view one level down
below_fine : (v : View) → ViewFine v → ViewFine (below v)
below_fine Plain l = tt
below_fine (Window k) l = tt
below_fine (Piece k t) l = l

-- ---- What is known before the loop

-- S stands at s and `count` encodings F at `first`, seen through b; from `at` on there is room for S with each of them
pub record RowAsk (nodes rows : List ℕ) (s : Spot) (nodes' rows' : List ℕ) (first : Spot) (count : ℕ) (b : View) (g : Bool) (out out' : List ℕ) (at : Spot) : Type 0 where
  pub S : Encoding
  pub F : Forest
  pub here_s : Here nodes rows s.node s.row (forest (S ∷ []))
  pub there : Here nodes' rows' first.node first.row F
  pub many : tops F ≡ count
  pub view_fine : ViewFine b
  pub room : Room (with_seen b g S F) out out' at

pub row_ask : {nodes rows : List ℕ} {s : Spot} {nodes' rows' : List ℕ} {p : Spot} {v : View} {g : Bool} {out out' : List ℕ} {at first : Spot} {count : ℕ} {b : View} → AskJoining rowed nodes rows s nodes' rows' p v g out out' at
    → first ≡ first_window nodes' p → count ≡ get_or nodes' (p.node + 1) 0 → b ≡ below v → RowAsk nodes rows s nodes' rows' first count b g out out' at
row_ask {v = v} {g = g} {out = out} {out' = out'} {at = at} a e n u =
    record {
      S = a.S;
      F = a.P.below;
      here_s = a.here_s;
      there = windows_there a.here_p e;
      many = windows_many a.here_p n;
      view_fine = rw u (below_fine v a.view_fine);
      room = subst (λ (b : View). Room (with_seen b g a.S a.P.below) out out' at) (sym u) (room_asked rowed a (with_fine (below v) g a.S a.P.below a.here_s.well.fine a.here_p.well.fine.1));
    }

-- ---- The loop: k are left, from y on

pub record RowGoing (nodes rows : List ℕ) (s : Spot) (nodes' rows' : List ℕ) (g : Bool) (out out' : List ℕ) (first : Spot) (count : ℕ) (at : Spot) (b : View) (out₁ out₁' : List ℕ) (y : Spot) (k : ℕ) (a : Spot) : Type 0 where
  pub far : first.node ≤ y.node
  pub walk : (S : Encoding) (F : Forest) → Here nodes rows s.node s.row (forest (S ∷ [])) → Here nodes' rows' first.node first.row F → tops F ≡ count → Walk (with_seen b g S) (with_seen b g S F) nodes' rows' y k out out' at a out₁ out₁'

module _ {nodes rows : List ℕ} {s : Spot} {nodes' rows' : List ℕ} {g : Bool} {out out' : List ℕ} {first : Spot} {count : ℕ} {at : Spot} {b : View} where
  pub row_start : RowGoing nodes rows s nodes' rows' g out out' first count at b out out' first count at
  row_start = record { far = omega arith; walk = λ S F hs hf n. walk_start (with_seen b g S) F out out' at hf n }

  module _ {out₁ out₁' : List ℕ} {y : Spot} {k : ℕ} {a : Spot} (r : RowGoing nodes rows s nodes' rows' g out out' first count at b out₁ out₁' y k a) where
    module _ (w : RowAsk nodes rows s nodes' rows' first count b g out out' at) where
      pub row_walk : Walk (with_seen b g w.S) (with_seen b g w.S w.F) nodes' rows' y k out out' at a out₁ out₁'
      row_walk = r.walk w.S w.F w.here_s w.there w.many

      pub row_turn : 0 < k → Turn (with_seen b g w.S) (with_seen b g w.S w.F) nodes' rows' y k out out' at a out₁ out₁'
      row_turn l = walk_turn row_walk l

      -- fewer numbers of nodes are left from it on than from P on
      pub row_falls : (p : Spot) {t : ℕ} → first ≡ first_window nodes' p → 0 < k → left_of (length nodes) s.node (length nodes') p.node ≡ t → left_of (length nodes) s.node (length nodes') y.node + 2 < t
      row_falls p e l m = omega (arith, r.far, ap (λ (z : Spot). z.node) e, one_fits (row_turn l).here)

      -- one of them: what the join with it asks
      pub row_asks : 0 < k → AskJoining joined nodes rows s nodes' rows' y b g out₁ out₁' a
      row_asks l =
          let t = row_turn l in
          ask_in joined w.S t.E w.here_s t.here w.view_fine (room_first (joined b g w.S t.E) (with_seen b g w.S t.rest) (going_room t.going w.room))

      -- it was joined, and the next one stands at y'
      pub row_on : {c y' : Spot} {out₂ out₂' : List ℕ} → 0 < k → WritesJoining joined nodes rows s nodes' rows' y b g out₁ out₁' a c out₂ out₂' → Follows nodes' y y' → RowGoing nodes rows s nodes' rows' g out out' first count at b out₂ out₂' y' (k - 1) c
      row_on l wr f =
          record {
            far = omega (arith, r.far, ap (λ (z : Spot). z.node) (follows (row_turn l).here f));
            walk = λ S F hs hf n.
                let t = walk_turn (r.walk S F hs hf n) l in
                walk_on t f (going_on t.going (with_fine b g S F hs.well.fine hf.well.fine) refl (wr S t.E hs t.here));
          }

    pub row_end : k ≤ 0 → (S : Encoding) (F : Forest) → Here nodes rows s.node s.row (forest (S ∷ [])) → Here nodes' rows' first.node first.row F → tops F ≡ count → Wrote (with_seen b g S F) out out' at a out₁ out₁'
    row_end l S F hs hf n = going_end (walk_end (r.walk S F hs hf n) l)

    -- the windows of P stood there, seen through the view below P's
    pub row_all : {p : Spot} (v : View) → k ≤ 0 → first ≡ first_window nodes' p → count ≡ get_or nodes' (p.node + 1) 0 → b ≡ below v → WritesJoining rowed nodes rows s nodes' rows' p v g out out' at a out₁ out₁'
    row_all v l e n u S P hs hp =
        subst (λ (b : View). Wrote (with_seen b g S P.below) out out' at a out₁ out₁') u (row_end l S P.below hs (windows_there hp e) (windows_many hp n))
