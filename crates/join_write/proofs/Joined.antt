-- A join, and its windows: what is asked of the one gives what the others ask, and what they wrote makes up the join.
-- Assumes nothing.
use mathlib.Core.Path.{◌≡◌, sym, ap, ap₂, ◌∙◌, subst}
use mathlib.Core.Bool.{Bool}
use mathlib.Core.List.{List, [], ◌∷◌, map}
use Prim.Native.Nat.{ℕ, suc, ◌+◌, ◌*◌}
use native.Mathlib.Omega.{arith}
use lib.ListN.{length}
use lib.Seq.{sets, length-sets}
use Rattle.record.specs.Tree.{Row, Forest, none, node, Encoding, listed, forest, windows, tops}
use Rattle.record.specs.Flat.{row_width, node_width, flat_nodes, flat_rows}
use Rattle.record.specs.WellFormed.{Fine, nodes_in, rows_in, levels}
use Rattle.record.specs.Standing.{Here, spot}
use Rattle.lists.proofs.Sets.{sets_append}
use Rattle.join_trees.specs.Join.{base, join_rows, join_ranges, join, window_count}
use Rattle.join_trees.proofs.Join.{join_node, join_rows_lem}
use Rattle.join_trees.proofs.Rows.{length_join_rows}
use Rattle.join_trees.proofs.Sizes.{length_join}
use Rattle.join_trees.proofs.Fine.{join_fine}
use Rattle.join_trees.proofs.Offsets.{OffsetsFit, tells_offsets, rows_fit_right}
use Rattle.join_trees.specs.Offsets.{MovedWithin}
use Rattle.join_view.specs.declared.View.{View}
use Rattle.join_view.specs.declared.View.TheVariants.{Plain, Window, Piece}
use Rattle.record.specs.declared.Spot.{Spot}
use Rattle.join_view.specs.View.{below, rows_seen, ranges_seen, seen, ViewFine}
use Rattle.join_view.specs.Node.{node_numbers, own_numbers}
use Rattle.join_node.specs.Promises.{AskNode, NodeWritten, WritesNode}
use Rattle.join_view.proofs.Seen.{length_rows_seen, tops_seen, all_fine}
use Rattle.join_view.proofs.Node.{node_then_windows, rows_then_windows, node_long, own_long}
use Rattle.join_write.specs.Joins.{joined, windowed}
use Rattle.join_write.specs.Promises.{AskJoining, Wrote, WritesJoining}
use Rattle.join_write.proofs.Sides.{Sound}
use Rattle.record.proofs.Counts.{tops_few}
use Rattle.join_write.proofs.Going.{Room}

-- ---- What is written is fine

module _ (v : View) (g : Bool) (S P : Encoding) where
  pub joined_fine : Fine (forest (S ∷ [])) → Fine (forest (P ∷ [])) → Fine (forest (joined v g S P))
  joined_fine s p = join_fine g S (seen v P) s (all_fine v (forest (P ∷ [])) p)

  -- the node of a join, then its windows
  joined_is : forest (joined v g S P) ≡ node (join_rows g S.rows (rows_seen v P.rows)) (join_ranges (length S.rows) S.ranges (ranges_seen v (length P.rows) P.ranges)) (forest (windowed v g S P)) none
  joined_is = ap (λ (E : Encoding). forest (E ∷ [])) (join_node g S (seen v P))

  pub windowed_fine : Fine (forest (S ∷ [])) → Fine (forest (P ∷ [])) → Fine (forest (windowed v g S P))
  windowed_fine s p = (subst Fine joined_is (joined_fine s p)).1

  pub sound_windows : Sound (joined v g S P) → Sound (windowed v g S P)
  sound_windows s =
      record {
        fine = (subst Fine joined_is s.fine).1;
        within = (subst OffsetsFit joined_is s.within).1;
        limits = record {
          few_nodes = omega (arith, ap nodes_in joined_is, s.limits.few_nodes);
          few_rows = omega (arith, ap rows_in joined_is, s.limits.few_rows);
          few_levels = omega (arith, ap levels joined_is, s.limits.few_levels);
        };
      }

  pub own_rows_lem : length (join_rows g S.rows (rows_seen v P.rows)) ≡ length S.rows + length P.rows
  own_rows_lem = length_join_rows g S.rows (rows_seen v P.rows) ∙ ap (λ (n : ℕ). length S.rows + n) (length_rows_seen v P.rows)

  pub joined_nodes : nodes_in (forest (joined v g S P)) ≡ suc (nodes_in (forest (windowed v g S P)))
  joined_nodes = omega (arith, ap nodes_in joined_is)

  pub joined_rows : rows_in (forest (joined v g S P)) ≡ length S.rows + length P.rows + rows_in (forest (windowed v g S P))
  joined_rows = omega (arith, ap rows_in joined_is, own_rows_lem)

-- encodings with each of a forest
pub each_fine : (g : Bool) (S : Encoding) (f : Forest) → Fine (forest (S ∷ [])) → Fine f → Fine (forest (map (join g S) (listed f)))
each_fine g S none s t = tt
each_fine g S (node r q w x) s (n, tw, tx) =
    let j = join_fine g S (record { rows = r; ranges = q; below = w }) s (n, tw, tt) in
    (j.0, j.1, each_fine g S x s tx)

-- ---- From what is asked to the room for it, and back

module _ (f : View → Bool → Encoding → Encoding → List Encoding) {nodes rows : List ℕ} {s : Spot} {nodes' rows' : List ℕ} {p : Spot} {v : View} {g : Bool} {out out' : List ℕ} {at : Spot} where
  pub room_asked : (a : AskJoining f nodes rows s nodes' rows' p v g out out' at) → Fine (forest (f v g a.S a.P)) → Room (f v g a.S a.P) out out' at
  room_asked a t =
      record {
        sound = record { fine = t; within = (tells_offsets (forest (f v g a.S a.P))).so a.within; limits = a.limits };
        nodes_fit = a.nodes_fit;
        rows_fit = a.rows_fit;
      }

  pub ask_in : (S P : Encoding) → Here nodes rows s.node s.row (forest (S ∷ [])) → Here nodes' rows' p.node p.row (forest (P ∷ [])) → ViewFine v → Room (f v g S P) out out' at → AskJoining f nodes rows s nodes' rows' p v g out out' at
  ask_in S P hs hp l r =
      record {
        S = S;
        P = P;
        here_s = hs;
        here_p = hp;
        view_fine = l;
        within = (tells_offsets (forest (f v g S P))).back r.sound.within;
        limits = r.sound.limits;
        nodes_fit = r.nodes_fit;
        rows_fit = r.rows_fit;
      }

-- ---- The node

-- a view leaves offsets alone
moved_unseen : (v : View) (n : ℕ) (ps : List Row) → MovedWithin n (rows_seen v ps) → MovedWithin n ps
moved_unseen Plain n ps h = h
moved_unseen (Window k) n ps h = h
moved_unseen (Piece k t) n [] h = tt
moved_unseen (Piece k t) n (p ∷ ps) (h, hs) = (h, moved_unseen (Piece k t) n ps hs)

module _ {nodes rows : List ℕ} {s : Spot} {nodes' rows' : List ℕ} {p : Spot} {v : View} {g : Bool} {out out' : List ℕ} {at : Spot} where
  pub ask_node : AskJoining joined nodes rows s nodes' rows' p v g out out' at → AskNode nodes rows s nodes' rows' p v g out out' at
  ask_node a =
      let S = a.S in
      let P = a.P in
      let J = join g S (seen v P) in
      let few : window_count (length (windows S)) (length (windows P)) ≡ tops J.below = ap (window_count (length (windows S))) (sym (tops_seen (below v) P.below)) ∙ sym (length_join g S (seen v P)) in
      let w = (tells_offsets (forest (J ∷ []))).so a.within in
      record {
        S = S;
        P = P;
        here_s = a.here_s;
        here_p = a.here_p;
        view_fine = a.view_fine;
        few_windows = omega (arith, few, tops_few J.below, a.limits.few_nodes);
        few_rows = omega (arith, joined_rows v g S P, a.limits.few_rows);
        within = moved_unseen v (base g S.rows) P.rows (rows_fit_right g S.rows (rows_seen v P.rows) (rw join_rows_lem at w.0));
        nodes_fit = omega (arith, joined_nodes v g S P, a.nodes_fit);
        rows_fit = omega (arith, joined_rows v g S P, a.rows_fit);
      }

module _ {v : View} {g : Bool} {S P : Encoding} {out out' : List ℕ} {at r : Spot} {out₁ out₁' : List ℕ} (n : NodeWritten v g S P out out' at r out₁ out₁') where
  node_after : r.node ≡ at.node + node_width
  node_after = ap (λ (s : Spot). s.node) n.next

  row_after : r.row ≡ at.row + (length S.rows + length P.rows) * row_width
  row_after = ap (λ (s : Spot). s.row) n.next

  -- its windows have room after it
  pub room_windows : Room (joined v g S P) out out' at → Room (windowed v g S P) out₁ out₁' r
  room_windows a =
      record {
        sound = sound_windows v g S P a.sound;
        nodes_fit = omega (arith, a.nodes_fit, joined_nodes v g S P, node_after, ap length n.nodes_are, length-sets out at.node (node_numbers v S P));
        rows_fit = omega (arith, a.rows_fit, joined_rows v g S P, row_after, ap length n.rows_are, length-sets out' at.row (own_numbers g v S P));
      }

  -- and make up the join with it
  pub join_wrote : {b : Spot} {out₂ out₂' : List ℕ} → Fine (forest (S ∷ [])) → Fine (forest (P ∷ [])) → Wrote (windowed v g S P) out₁ out₁' r b out₂ out₂' → Wrote (joined v g S P) out out' at b out₂ out₂'
  join_wrote ts tp w =
      let W = forest (windowed v g S P) in
      let i : r.node ≡ at.node + length (node_numbers v S P) = node_after ∙ ap (λ (k : ℕ). at.node + k) (sym (node_long g v S P ts.0 tp.0)) in
      let j : r.row ≡ at.row + length (own_numbers g v S P) = row_after ∙ ap (λ (k : ℕ). at.row + k) (sym (own_long g v S P)) in
      let e : r.node + nodes_in W * node_width ≡ at.node + nodes_in (forest (joined v g S P)) * node_width = omega (arith, joined_nodes v g S P, node_after) in
      let e' : r.row + rows_in W * row_width ≡ at.row + rows_in (forest (joined v g S P)) * row_width = omega (arith, joined_rows v g S P, row_after) in
      record {
        put = record {
          nodes_put = w.put.nodes_put ∙ ap₂ (λ (l : List ℕ) (k : ℕ). sets l k (flat_nodes W)) n.nodes_are i ∙ sets_append out at.node (node_numbers v S P) (flat_nodes W) ∙ ap (sets out at.node) (node_then_windows g v S P);
          rows_put = w.put.rows_put ∙ ap₂ (λ (l : List ℕ) (k : ℕ). sets l k (flat_rows W)) n.rows_are j ∙ sets_append out' at.row (own_numbers g v S P) (flat_rows W) ∙ ap (sets out' at.row) (rows_then_windows g v S P);
        };
        next = w.next ∙ λ k. spot (e k) (e' k);
      }

module _ {nodes rows : List ℕ} {s : Spot} {nodes' rows' : List ℕ} {p : Spot} {v : View} {g : Bool} {out out' : List ℕ} {at r : Spot} {out₁ out₁' : List ℕ} (n : WritesNode nodes rows s nodes' rows' p v g out out' at r out₁ out₁') where
  pub ask_windows : AskJoining joined nodes rows s nodes' rows' p v g out out' at → AskJoining windowed nodes rows s nodes' rows' p v g out₁ out₁' r
  ask_windows a =
      ask_in windowed a.S a.P a.here_s a.here_p a.view_fine
      (room_windows (n a.S a.P a.here_s a.here_p) (room_asked joined a (joined_fine v g a.S a.P a.here_s.well.fine a.here_p.well.fine)))

  pub writes_join : {b : Spot} {out₂ out₂' : List ℕ} → WritesJoining windowed nodes rows s nodes' rows' p v g out₁ out₁' r b out₂ out₂' → WritesJoining joined nodes rows s nodes' rows' p v g out out' at b out₂ out₂'
  writes_join w S P hs hp = join_wrote (n S P hs hp) hs.well.fine hp.well.fine (w S P hs hp)
