-- What becomes of two batches of one encoding each that are to be joined: each refusal, and the result.
-- Assumes nothing.
use Rattle.std.specs.Prelude.{Ok}
use mathlib.Core.Path.{◌≡◌, ◌∙◌}
use mathlib.Core.Bool.{Bool, true, false}
use mathlib.Core.List.{List, [], ◌∷◌}
use Prim.Native.Nat.{ℕ}
use native.Mathlib.Omega.{arith}
use lib.ListN.{length}
use Rattle.record.specs.Tree.{Encoding, forest}
use Rattle.record.specs.Read.{read}
use Rattle.record.specs.Standing.{One, Here, Put, spot}
use Rattle.record.specs.Outcome.{Room, refused, Writes}
use Rattle.record.specs.declared.Refusal.TheVariants.{NoRoom, OffsetTooLarge}
use Rattle.record.proofs.One.{one_at}
use Rattle.record.proofs.Outcome.{writes_done, room_lengths}
use Rattle.join_trees.specs.Join.{join}
use Rattle.join_trees.specs.Offsets.{join_fits}
use Rattle.join_trees.specs.Outcomes.{join_outcome}
use Rattle.join_trees.proofs.Fine.{join_fine}
use Rattle.join_trees.proofs.Outcomes.{join_of, join_no_room, join_too_large, join_done}
use Rattle.join_view.specs.declared.View.TheVariants.{Plain}
use Rattle.join_view.specs.View.{seen}
use Rattle.join_write.specs.Promises.{AskJoin}
use Rattle.record_room.specs.declared.Size.{Size}
use Rattle.join_size.specs.Promises.{Sizes}
use Rattle.record_room.specs.Room.{has_room}
use Rattle.join_size.proofs.Sizes.{roomy_room, not_roomy, roomy_takes}
use Rattle.join_view.proofs.Seen.{seen_plain}

pub one_here : {nodes rows : List ℕ} {E : Encoding} → One nodes rows E → Here nodes rows 0 0 (forest (E ∷ []))
one_here h = record { at = one_at h; on = omega arith; well = h.stores.well }

module _ {xs rs ys ss : List ℕ} {S P : Encoding} (s : One xs rs S) (p : One ys ss P) (g : Bool) (out out' : List ℕ) {size : Size} (sized : Sizes (join g S P) size) where
  pub outcome_no_room : has_room size (length out) (length out') ≡ false → join_outcome g (read xs rs) (read ys ss) out out' ≡ refused NoRoom
  outcome_no_room e = join_of g out out' s p ∙ join_no_room g out out' S P (not_roomy sized out out' e)

  module _ (e : has_room size (length out) (length out') ≡ true) where
    room : Room out out' (forest (join g S P ∷ []))
    room = roomy_room sized out out' e

    pub outcome_too_large : join_fits g S P ≡ false → join_outcome g (read xs rs) (read ys ss) out out' ≡ refused OffsetTooLarge
    outcome_too_large f = join_of g out out' s p ∙ join_too_large g out out' S P room f

    module _ (f : join_fits g S P ≡ true) where
      pub join_asks : AskJoin xs rs (spot 0 0) ys ss (spot 0 0) Plain g out out' (spot 0 0)
      join_asks =
          record {
            S = S;
            P = P;
            here_s = one_here s;
            here_p = one_here p;
            view_fine = tt;
            within = rw (seen_plain P) f;
            limits = rw (seen_plain P) room.fits;
            nodes_fit = rw (seen_plain P) (omega (arith, room.nodes_fit));
            rows_fit = rw (seen_plain P) (omega (arith, room.rows_fit));
          }

      pub join_writes : {out₁ out₁' : List ℕ} → Put (join g S (seen Plain P) ∷ []) out 0 out' 0 out₁ out₁'
          → Writes (join_outcome g (read xs rs) (read ys ss) out out') (Ok (record { nodes = size.nodes; rows = size.rows })) out out' out₁ out₁'
      join_writes put =
          let J = forest (join g S P ∷ []) in
          let t = roomy_takes sized out out' e in
          let q = rw (seen_plain P) at put in
          let l = room_lengths (join_fine g S P s.stores.well.fine p.stores.well.fine) room in
          writes_done J (join_of g out out' s p ∙ join_done g out out' S P room f) l.0 l.1 (rw (t.nodes, t.rows)) q.nodes_put q.rows_put
