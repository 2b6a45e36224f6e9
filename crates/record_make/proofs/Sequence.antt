-- An encoding with the range of a sequence set: it is fine, its numbers, when it has room, and what `set_sequence_id` says then.
-- Assumes nothing.
use Rattle.record.specs.declared.Refusal.{Refusal}
use Rattle.record.specs.declared.Written.{Written}
use Rattle.std.specs.Prelude.{Ok, Result}
use mathlib.Core.Path.{◌≡◌, refl, sym, ap, ap₂, ◌∙◌}
use mathlib.Core.Bool.{Bool, false, cond}
use mathlib.Core.Logic.{inr}
use Prim.Native.Nat.{ℕ, ◌+◌, ◌*◌, ◌/◌, ◌≤◌, ◌<◌}
use native.Mathlib.Omega.{arith}
use mathlib.Core.List.{List, [], ◌∷◌}
use lib.ListN.{length, get_or}
use lib.Seq.{sets}
use borrow.Author.Tests.{lt-ltb, le-ltb}
use Rattle.record.specs.Tree.{Forest, none, Encoding, forest, sequences}
use Rattle.record.specs.Flat.{row_width, node_width, range_numbers, flat_nodes, flat_rows}
use Rattle.record.specs.WellFormed.{Fine, nodes_in, rows_in}
use Rattle.record.specs.Read.{Reading, read, is_one}
use Rattle.record.specs.Standing.{One}
use Rattle.record.specs.Outcome.{Room, refused, in_room, Writes}
use Rattle.record.specs.declared.Refusal.TheVariants.{MalformedRecord, NoRoom, SequenceIdAboveLast}
use Rattle.record.proofs.Flat.{length_nodes, length_rows, range_stored}
use Rattle.record.proofs.One.{one_of, not_one, one_fine, one_size, one_nodes_long}
use Rattle.record.proofs.Outcome.{in_room_lem, no_room, room_lengths, writes_done}
use Rattle.record_write.specs.Writing.{present_range}
use Rattle.record_make.specs.Making.{whole_range, set_sequence, set_sequence_id}
use Rattle.lists.proofs.Writing.{sets_inside}
use Rattle.record_write.proofs.RangeSet.{node_fine_set, node_set}

module _ (id : ℕ) {nodes rows : List ℕ} {E : Encoding} (h : One nodes rows E) where
  abbrev set_forest : Forest
  set_forest = forest (set_sequence id E ∷ [])

  set_fine : Fine set_forest
  set_fine = (node_fine_set id (whole_range E) (one_fine h) (inr (refl, omega arith, omega arith)), h.stores.well.fine.1, tt)

  -- three numbers of the nodes change, the rows stay
  pub set_nodes : id < sequences → flat_nodes set_forest ≡ sets nodes (2 + id * 3) (range_numbers (present_range 0 (get_or nodes 0 0)))
  set_nodes a =
      sym (node_set E.rows E.ranges E.below none id (whole_range E) (omega (arith, (one_fine h).places)))
      ∙ ap (λ (l : List ℕ). sets l (2 + id * 3) (range_numbers (whole_range E))) h.stores.nodes_are
      ∙ ap (λ (n : ℕ). sets nodes (2 + id * 3) (range_numbers (present_range 0 n))) (sym (one_size h))

  set_rows : flat_rows set_forest ≡ rows
  unfolding flat_rows
  set_rows = h.stores.rows_are

  -- as many nodes and rows as before
  nodes_long : nodes_in set_forest * node_width ≡ length nodes
  nodes_long = sym (length_nodes (forest (E ∷ [])) h.stores.well.fine) ∙ ap length h.stores.nodes_are

  rows_long : rows_in set_forest * row_width ≡ length rows
  rows_long = sym (length_rows (forest (E ∷ []))) ∙ ap length h.stores.rows_are

  set_counted : ◌≡◌ {A = Result Written Refusal} (Ok (record { nodes = length nodes / node_width; rows = length rows / row_width })) (Ok (record { nodes = nodes_in set_forest; rows = rows_in set_forest }))
  set_counted = ap₂ (λ (n m : ℕ). Ok (record { nodes = n; rows = m })) (omega (arith, nodes_long)) (omega (arith, rows_long))

  -- so it has room in just the outputs that hold the input
  module _ (out_nodes out_rows : List ℕ) where
    set_room : length nodes ≤ length out_nodes → length rows ≤ length out_rows → Room out_nodes out_rows set_forest
    set_room a b =
        let f = h.stores.well.fits in
        record { fits = record { few_nodes = f.few_nodes; few_rows = f.few_rows; few_levels = f.few_levels }; nodes_fit = omega (arith, nodes_long); rows_fit = omega (arith, rows_long) }

    -- the nodes copied, and the range then written
    set_written : id < sequences → length nodes ≤ length out_nodes → sets (sets out_nodes 0 nodes) (2 + id * 3) (range_numbers (present_range 0 (get_or nodes 0 0))) ≡ sets out_nodes 0 (flat_nodes set_forest)
    set_written a b =
        sets_inside out_nodes nodes (2 + id * 3) (range_numbers (present_range 0 (get_or nodes 0 0))) b (omega (arith, one_nodes_long h, range_stored.long (present_range 0 (get_or nodes 0 0)))) ∙ ap (sets out_nodes 0) (sym (set_nodes a))

    -- ---- The outcome

    pub sequence_above : sequences ≤ id → set_sequence_id (read nodes rows) id out_nodes out_rows ≡ refused SequenceIdAboveLast
    unfolding set_sequence_id
    sequence_above a =
        one_of _ _ h ∙ ap (λ (b : Bool). cond b (in_room out_nodes out_rows set_forest) (refused SequenceIdAboveLast)) (le-ltb id sequences a)

    sequence_set : id < sequences → set_sequence_id (read nodes rows) id out_nodes out_rows ≡ in_room out_nodes out_rows set_forest
    unfolding set_sequence_id
    sequence_set a =
        one_of _ _ h ∙ ap (λ (b : Bool). cond b (in_room out_nodes out_rows set_forest) (refused SequenceIdAboveLast)) (lt-ltb id sequences a)

    pub sequence_no_room : id < sequences → (length nodes ≤ length out_nodes → length rows ≤ length out_rows → ⊥) → set_sequence_id (read nodes rows) id out_nodes out_rows ≡ refused NoRoom
    sequence_no_room a full =
        sequence_set a ∙ no_room out_nodes out_rows set_forest (λ r. full (omega (arith, nodes_long, r.nodes_fit)) (omega (arith, rows_long, r.rows_fit)))

    -- the promise: nodes and rows copied, then the range written
    pub sequence_written : {copied nodes' rows' : List ℕ} → id < sequences → length nodes ≤ length out_nodes → length rows ≤ length out_rows → copied ≡ sets out_nodes 0 nodes → nodes' ≡ sets copied (2 + id * 3) (range_numbers (present_range 0 (get_or nodes 0 0))) → rows' ≡ sets out_rows 0 rows → Writes (set_sequence_id (read nodes rows) id out_nodes out_rows) (Ok (record { nodes = length nodes / node_width; rows = length rows / row_width })) out_nodes out_rows nodes' rows'
    sequence_written a b c e n r =
        let room = set_room b c in
        let lengths = room_lengths set_fine room in
        writes_done set_forest (sequence_set a ∙ in_room_lem out_nodes out_rows set_forest room) lengths.0 lengths.1 set_counted (n ∙ rw e (set_written a b)) (r ∙ ap (sets out_rows 0) (sym set_rows))

pub sequence_malformed : (r : Reading) (id : ℕ) (nodes rows : List ℕ) → is_one r ≡ false → set_sequence_id r id nodes rows ≡ refused MalformedRecord
unfolding set_sequence_id
sequence_malformed r id nodes rows e = not_one _ _ r e
