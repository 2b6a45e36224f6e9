-- What becomes of stored encodings that are to be padded: no room, or the result.
-- Assumes nothing.
use Rattle.record.specs.declared.Written.{Written}
use Rattle.record.specs.declared.Refusal.{Refusal}
use Rattle.std.specs.Prelude.{Ok, Result}
use mathlib.Core.Path.{◌≡◌, refl, sym, ap, ap₂, ◌∙◌}
use Prim.Native.Nat.{ℕ, ◌*◌, ◌/◌, ◌≤◌, ◌<◌}
use native.Mathlib.Nat.{mul-div_cancel}
use native.Mathlib.Omega.{arith}
use mathlib.Core.List.{List}
use lib.ListN.{length}
use Rattle.record.specs.Tree.{Forest, none, node, tops}
use Rattle.record.specs.Flat.{row_width, node_width, flat_nodes, flat_rows}
use Rattle.record.specs.WellFormed.{Stores, nodes_in, most_rows}
use Rattle.record.specs.Outcome.{Room, refused, in_room, Writes}
use Rattle.record.specs.declared.Refusal.TheVariants.{NoRoom}
use Rattle.record.proofs.Outcome.{in_room_lem, no_room, room_lengths, writes_done}
use Rattle.cut_plan.specs.declared.Direction.{Direction}
use Rattle.pad_rows.specs.declared.PadToken.{PadToken}
use Rattle.pad_write.specs.Padded.{padded}
use Rattle.pad_length.specs.Target.{rows_with}
use Rattle.pad_write.specs.Promises.{AskPadded, Filled}
use Rattle.record.proofs.Passing.{nodes_of, nodes_come, nodes_left}
use Rattle.pad_write.proofs.Laws.{padded_nodes, padded_rows_lem, padded_fine, padded_well}
use Rattle.pad_room.proofs.Limits.{long_refused, none_done}

abbrev written : ℕ → ℕ → Result Written Refusal
written k n = Ok (record { nodes = k; rows = n })

module _ {nodes rows : List ℕ} {f : Forest} (s : Stores nodes rows f) (target : ℕ) (token : PadToken) (d : Direction) (out out' : List ℕ) where
  nodes_long : length nodes ≡ nodes_in f * node_width
  nodes_long = nodes_left (nodes_come (nodes_of s)) ∙ omega arith

  -- no room, whichever of the three is exceeded
  pub stored_no_room : (rows_with target f ≤ most_rows → length nodes ≤ length out → rows_with target f * row_width ≤ length out' → ⊥) → in_room out out' (padded target token d f) ≡ refused NoRoom
  stored_no_room h =
      no_room out out' (padded target token d f)
      (λ r.
      h (omega (arith, r.fits.few_rows, padded_rows_lem target token d f))
      (omega (arith, r.nodes_fit, padded_nodes target token d f, nodes_long))
      (omega (arith, r.rows_fit, padded_rows_lem target token d f)))

  -- room, and the result written
  module _ (few : rows_with target f ≤ most_rows) (nodes_fit : length nodes ≤ length out) (rows_fit : rows_with target f * row_width ≤ length out') where
    pub stored_asks : AskPadded nodes rows target out out'
    stored_asks = record { f = f; stores = s; few_rows = few; nodes_fit = nodes_fit; rows_fit = rows_fit }

    room : Room out out' (padded target token d f)
    room = record { fits = (padded_well target token d f s.well few).fits; nodes_fit = omega (arith, padded_nodes target token d f, nodes_long); rows_fit = omega (arith, padded_rows_lem target token d f) }

    pub stored_writes : {total : ℕ} {out₁ out₁' : List ℕ} → total ≡ rows_with target f → Filled (padded target token d f) out out' out₁ out₁'
        → Writes (in_room out out' (padded target token d f)) (Ok (record { nodes = (length nodes / node_width); rows = total })) out out' out₁ out₁'
    stored_writes {total} {out₁} {out₁'} t p =
        let l = room_lengths (padded_fine target token d f s.well.fine) room in
        let n : length nodes / node_width ≡ nodes_in (padded target token d f) = ap (λ (k : ℕ). k / node_width) nodes_long ∙ mul-div_cancel (nodes_in f) (omega arith) ∙ sym (padded_nodes target token d f) in
        writes_done (padded target token d f) (in_room_lem out out' (padded target token d f) room) l.0 l.1 (ap₂ written n (t ∙ sym (padded_rows_lem target token d f))) p.nodes_put p.rows_put

  -- no encodings: nothing is written
  pub stored_none : length nodes ≡ 0 → Writes (in_room out out' (padded target token d f)) (Ok (record { nodes = 0; rows = 0 })) out out' out out'
  unfolding flat_nodes flat_rows
  stored_none e = go f (sym nodes_long ∙ e)
    where
      go : (y : Forest) → nodes_in y * node_width ≡ 0 → Writes (in_room out out' (padded target token d y)) (Ok (record { nodes = 0; rows = 0 })) out out' out out'
      go (node r q w x) z = absurd (omega arith)
      go none z = writes_done none (none_done target token d out out') (omega arith) (omega arith) refl refl refl

  -- a target that no encoding can have
  pub stored_above : (length nodes ≡ 0 → ⊥) → most_rows < target → in_room out out' (padded target token d f) ≡ refused NoRoom
  stored_above e h = long_refused target token d out out' h f (go f nodes_long)
    where
      go : (y : Forest) → length nodes ≡ nodes_in y * node_width → 0 < tops y
      go none l = absurd (e (omega arith))
      go (node r q w x) l = omega arith
