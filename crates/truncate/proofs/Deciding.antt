-- What becomes of a batch of one encoding that is to be cut: each refusal, and the result.
-- Assumes nothing.
use Rattle.std.specs.Prelude.{Ok}
use mathlib.Core.Path.{◌≡◌, sym, ap, ap₂, subst, ◌∙◌}
use mathlib.Core.Bool.{Bool, true, false, cond}
use Prim.Native.Nat.{ℕ, ◌+◌, ◌*◌, ◌≤◌}
use native.Mathlib.Omega.{arith}
use mathlib.Core.List.{List, [], ◌∷◌}
use lib.ListN.{length, get_or}
use Rattle.record.specs.Tree.{Encoding, Forest, forest}
use Rattle.record.specs.Flat.{row_width, node_width}
use Rattle.record.specs.Read.{Reading, read, is_one}
use Rattle.record.specs.Standing.{One, Here, Put}
use Rattle.record.specs.Outcome.{refused, done, in_room, Writes}
use Rattle.record.specs.declared.Refusal.TheVariants.{MalformedRecord, NoRoom, Stride}
use Rattle.record.proofs.Flat.{length_nodes, length_rows}
use Rattle.record.proofs.One.{one_of, not_one, one_at, one_size}
use Rattle.record.proofs.Outcome.{writes_done}
use Rattle.cut_plan.specs.declared.Direction.{Direction}
use Rattle.record_extent.specs.declared.Extent.{Extent}
use Rattle.record_extent.proofs.Stands.{here_stands}
use Rattle.record_extent.proofs.Room.{room_by_size, roomy_fits}
use Rattle.record_extent.specs.Size.{size_of, roomy}
use Rattle.record_extent.specs.Promises.{Stands}
use Rattle.truncate_size.specs.Size.{size_after, stride_refused}
use Rattle.truncate.specs.Truncate.{cut_outcome, truncate_outcome}
use Rattle.truncate_write.specs.Truncated.{truncated}
use Rattle.truncate_write.specs.Promises.{AskTruncating}
use Rattle.truncate_write.proofs.Sizes.{truncated_size}
use Rattle.truncate_write.proofs.Fineness.{truncated_fine}

-- ---- An encoding, where it stands and what it holds

module _ {nodes rows : List ℕ} {E : Encoding} (h : One nodes rows E) where
  pub one_here : Here nodes rows 0 0 (forest (E ∷ []))
  one_here = record { at = one_at h; on = omega arith; well = h.stores.well }

  pub one_stands : Stands nodes 0 1 (forest (E ∷ []))
  one_stands = here_stands one_here

-- ---- The outcome

pub outcome_malformed : (out out' : List ℕ) (max stride : ℕ) (d : Direction) (r : Reading) → is_one r ≡ false → truncate_outcome out out' max stride d r ≡ refused MalformedRecord
unfolding truncate_outcome
outcome_malformed out out' max stride d r e = not_one (refused MalformedRecord) _ r e

module _ {nodes rows : List ℕ} {E : Encoding} (h : One nodes rows E) (out out' : List ℕ) (max stride : ℕ) (d : Direction) where
  pub outcome_one : truncate_outcome out out' max stride d (read nodes rows) ≡ cut_outcome out out' max stride d E
  unfolding truncate_outcome
  outcome_one = one_of (refused MalformedRecord) _ h

  abbrev result : Forest
  result = forest (truncated max stride d E ∷ [])

  outcome_cut : cut_outcome out out' max stride d E ≡ cond (stride_refused (get_or nodes 0 0) max stride) (refused Stride) (in_room out out' result)
  unfolding cut_outcome
  outcome_cut = ap (λ (n : ℕ). cond (stride_refused n max stride) (refused Stride) (in_room out out' result)) (sym (one_size h))

  pub outcome_stride : stride_refused (get_or nodes 0 0) max stride ≡ true → cut_outcome out out' max stride d E ≡ refused Stride
  outcome_stride t = outcome_cut ∙ ap (λ (b : Bool). cond b (refused Stride) (in_room out out' result)) t

  module _ (t : stride_refused (get_or nodes 0 0) max stride ≡ false) {own : Extent} (e : own ≡ size_of (forest (E ∷ []))) where
    taken : stride_refused (length E.rows) max stride ≡ false
    taken = ap (λ (n : ℕ). stride_refused n max stride) (sym (one_size h)) ∙ t

    size_here : size_of result ≡ size_after (get_or nodes 0 0) max stride own
    size_here = truncated_size max stride d E taken ∙ ap₂ (λ (n : ℕ) (s : Extent). size_after n max stride s) (sym (one_size h)) (sym e)

    outcome_room : cut_outcome out out' max stride d E ≡ cond (roomy (size_after (get_or nodes 0 0) max stride own) (length out) (length out')) (done result) (refused NoRoom)
    outcome_room =
        outcome_cut ∙ ap (λ (b : Bool). cond b (refused Stride) (in_room out out' result)) t ∙ room_by_size out out' result
        ∙ ap (λ (s : Extent). cond (roomy s (length out) (length out')) (done result) (refused NoRoom)) size_here

    pub outcome_no_room : roomy (size_after (get_or nodes 0 0) max stride own) (length out) (length out') ≡ false → cut_outcome out out' max stride d E ≡ refused NoRoom
    outcome_no_room r = outcome_room ∙ ap (λ (b : Bool). cond b (done result) (refused NoRoom)) r

    module _ (r : roomy (size_after (get_or nodes 0 0) max stride own) (length out) (length out') ≡ true) where
      pub one_asks : AskTruncating nodes rows 0 0 own max stride out 0 out' 0
      one_asks =
          let f = roomy_fits (size_after (get_or nodes 0 0) max stride own) (length out) (length out') r in
          record {
            E = E;
            here = one_here h;
            measured = e;
            taken = taken;
            nodes_fit = subst (λ (n : ℕ). 0 + (size_after n max stride own).nodes * node_width ≤ length out) (one_size h) (omega (arith, f.0));
            rows_fit = subst (λ (n : ℕ). 0 + (size_after n max stride own).rows * row_width ≤ length out') (one_size h) (omega (arith, f.1));
          }

      pub one_writes : {size : Extent} {nodes₁ rows₁ : List ℕ} → size ≡ size_after (get_or nodes 0 0) max stride own → Put (truncated max stride d E ∷ []) out 0 out' 0 nodes₁ rows₁
          → Writes (cut_outcome out out' max stride d E) (Ok (record { nodes = size.nodes; rows = size.rows })) out out' nodes₁ rows₁
      one_writes {size} {nodes₁} {rows₁} z p =
          let f = roomy_fits (size_after (get_or nodes 0 0) max stride own) (length out) (length out') r in
          let w = z ∙ sym size_here in
          let fine = truncated_fine max stride d E (h.stores.well.fine.0, h.stores.well.fine.1) in
          writes_done result (outcome_room ∙ ap (λ (b : Bool). cond b (done result) (refused NoRoom)) r)
          (omega (arith, f.0, ap (λ (s : Extent). s.nodes) size_here, length_nodes result (fine.0, fine.1, tt)))
          (omega (arith, f.1, ap (λ (s : Extent). s.rows) size_here, length_rows result))
          (ap (λ (s : Extent). Ok (record { nodes = s.nodes; rows = s.rows })) w)
          p.nodes_put
          p.rows_put
