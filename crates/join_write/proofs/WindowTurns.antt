-- The loop that joins each window of S with P and with each window of P.
-- Assumes nothing.
use mathlib.Core.Path.{◌≡◌, refl, sym, ap}
use mathlib.Core.Bool.{Bool}
use mathlib.Core.List.{List, [], ◌∷◌, ◌++◌, flat_map, append_assoc, append-nil}
use Prim.Native.Nat.{ℕ, ◌+◌, ◌-◌, ◌≤◌, ◌<◌}
use native.Mathlib.Omega.{arith}
use lib.ListN.{length, get_or}
use Rattle.record.specs.Tree.{Forest, node, Encoding, listed, forest}
use Rattle.record.specs.Standing.{Here}
use Rattle.join_trees.specs.Join.{join}
use Rattle.join_view.specs.declared.View.{View}
use Rattle.record.specs.declared.Spot.{Spot}
use Rattle.join_view.specs.View.{seen}
use Rattle.join_write.specs.Joins.{joined, windowed, rowed}
use Rattle.join_write.specs.Promises.{AskJoining, WritesJoining}
use Rattle.join_walk.specs.Promises.{first_window, Follows}
use Rattle.join_write.proofs.Going.{Room, room_first, room_after, going_room, going_on, going_end}
use Rattle.join_write.proofs.Joined.{windowed_fine, room_asked, ask_in}
use Rattle.join_write.proofs.Walk.{Walk, Turn, walk_start, walk_turn, walk_on, walk_end}
use Rattle.join_walk.proofs.Places.{one_fits, windows_there, windows_many, follows}
use Rattle.join_write.proofs.Falling.{left_of}

-- What is left to be written while f are left of S's windows: each of f with P and with each window of P; after these S
-- with each window of P.
abbrev pub left_over : View → Bool → Encoding → Encoding → Forest → List Encoding
left_over v g S P f = flat_map (λ s. join g s (seen v P) ∷ rowed v g s P) (listed f) ++ rowed v g S P

left_one : (v : View) (g : Bool) (S P E : Encoding) (f : Forest) → left_over v g S P (node E.rows E.ranges E.below f) ≡ joined v g E P ++ (rowed v g E P ++ left_over v g S P f)
unfolding flat_map
left_one v g S P E f =
    ap (join g E (seen v P) ∷◌) (append_assoc (rowed v g E P) (flat_map (λ s. join g s (seen v P) ∷ rowed v g s P) (listed f)) (rowed v g S P))

-- ---- The loop: k windows of S are left, from x on

pub record WindowsGoing (nodes rows : List ℕ) (s : Spot) (nodes' rows' : List ℕ) (p : Spot) (v : View) (g : Bool) (out out' : List ℕ) (at : Spot) (out₁ out₁' : List ℕ) (x : Spot) (k : ℕ) (a : Spot) : Type 0 where
  pub far : s.node < x.node
  pub walk : (S P : Encoding) → Here nodes rows s.node s.row (forest (S ∷ [])) → Here nodes' rows' p.node p.row (forest (P ∷ [])) → Walk (left_over v g S P) (windowed v g S P) nodes rows x k out out' at a out₁ out₁'

module _ {nodes rows : List ℕ} {s : Spot} {nodes' rows' : List ℕ} {p : Spot} {v : View} {g : Bool} {out out' : List ℕ} {at : Spot} where
  pub windows_start : {first : Spot} {count : ℕ} → first ≡ first_window nodes s → count ≡ get_or nodes (s.node + 1) 0 → WindowsGoing nodes rows s nodes' rows' p v g out out' at out out' first count at
  windows_start e n =
      record {
        far = omega (arith, ap (λ (z : Spot). z.node) e);
        walk = λ S P hs hp. walk_start (left_over v g S P) S.below out out' at (windows_there hs e) (windows_many hs n);
      }

  module _ {out₁ out₁' : List ℕ} {x : Spot} {k : ℕ} {a : Spot} (r : WindowsGoing nodes rows s nodes' rows' p v g out out' at out₁ out₁' x k a) where
    module _ (w : AskJoining windowed nodes rows s nodes' rows' p v g out out' at) where
      windows_walk : Walk (left_over v g w.S w.P) (windowed v g w.S w.P) nodes rows x k out out' at a out₁ out₁'
      windows_walk = r.walk w.S w.P w.here_s w.here_p

      room : Room (windowed v g w.S w.P) out out' at
      room = room_asked windowed w (windowed_fine v g w.S w.P w.here_s.well.fine w.here_p.well.fine)

      module _ (l : 0 < k) where
        pub windows_turn : Turn (left_over v g w.S w.P) (windowed v g w.S w.P) nodes rows x k out out' at a out₁ out₁'
        windows_turn = walk_turn windows_walk l

        -- fewer numbers of nodes are left from it on than from S on
        pub windows_deeper : {t : ℕ} → left_of (length nodes) s.node (length nodes') p.node + 1 ≡ t → left_of (length nodes) x.node (length nodes') p.node + 2 < t
        windows_deeper m = omega (arith, r.far, one_fits windows_turn.here)

        pub windows_row_deeper : {t : ℕ} → left_of (length nodes) s.node (length nodes') p.node + 1 ≡ t → left_of (length nodes) x.node (length nodes') p.node < t
        windows_row_deeper m = omega (arith, r.far, one_fits windows_turn.here)

        room_left : Room (joined v g windows_turn.E w.P ++ (rowed v g windows_turn.E w.P ++ left_over v g w.S w.P windows_turn.rest)) out₁ out₁' a
        room_left = rw left_one at (going_room windows_turn.going room)

        -- one window: what the join of it with P asks
        pub windows_asks : AskJoining joined nodes rows x nodes' rows' p v g out₁ out₁' a
        windows_asks = ask_in joined windows_turn.E w.P windows_turn.here w.here_p w.view_fine (room_first (joined v g windows_turn.E w.P) (rowed v g windows_turn.E w.P ++ left_over v g w.S w.P windows_turn.rest) room_left)

        module _ {b : Spot} {out₂ out₂' : List ℕ} (wr : WritesJoining joined nodes rows x nodes' rows' p v g out₁ out₁' a b out₂ out₂') where
          -- and then with each window of P
          pub windows_row_asks : AskJoining rowed nodes rows x nodes' rows' p v g out₂ out₂' b
          windows_row_asks =
              let E = windows_turn.E in
              let rest = left_over v g w.S w.P windows_turn.rest in
              ask_in rowed E w.P windows_turn.here w.here_p w.view_fine
              (room_first (rowed v g E w.P) rest (room_after (joined v g E w.P) (rowed v g E w.P ++ rest) room_left (wr E w.P windows_turn.here w.here_p)))

          -- the two were written, and the next window stands at x'
          pub windows_on : {c x' : Spot} {out₃ out₃' : List ℕ} → WritesJoining rowed nodes rows x nodes' rows' p v g out₂ out₂' b c out₃ out₃' → Follows nodes x x' → WindowsGoing nodes rows s nodes' rows' p v g out out' at out₃ out₃' x' (k - 1) c
          windows_on wr' f =
              record {
                far = omega (arith, r.far, ap (λ (z : Spot). z.node) (follows windows_turn.here f));
                walk = λ S P hs hp.
                    let t = walk_turn (r.walk S P hs hp) l in
                    let fine = windowed_fine v g S P hs.well.fine hp.well.fine in
                    walk_on t f (going_on (going_on t.going fine (left_one v g S P t.E t.rest) (wr t.E P t.here hp)) fine refl (wr' t.E P t.here hp));
              }

      -- none is left: S with each window of P
      pub windows_last_asks : k ≤ 0 → AskJoining rowed nodes rows s nodes' rows' p v g out₁ out₁' a
      unfolding flat_map
      windows_last_asks l = ask_in rowed w.S w.P w.here_s w.here_p w.view_fine (going_room (walk_end windows_walk l) room)

    pub windows_end : {b : Spot} {out₂ out₂' : List ℕ} → k ≤ 0 → WritesJoining rowed nodes rows s nodes' rows' p v g out₁ out₁' a b out₂ out₂' → WritesJoining windowed nodes rows s nodes' rows' p v g out out' at b out₂ out₂'
    unfolding flat_map
    windows_end l wr S P hs hp =
        going_end (going_on (walk_end (r.walk S P hs hp) l) (windowed_fine v g S P hs.well.fine hp.well.fine) (sym (append-nil (rowed v g S P))) (wr S P hs hp))
