-- "Converting there and back gives the batch we began with, and so does back and there, wherever the first step is accepted and the
-- second has room": what the first operation writes is read by the second as a batch whose outcome is the batch that the first began
-- with, room alone deciding. Assumes nothing.
use Rattle.std.specs.Prelude.{Option, None, Some}
use mathlib.Core.Path.{◌≡◌, refl, ap, sym, ◌∙◌}
use mathlib.Core.Bool.{Bool, true, false, cond, ◌&&◌}
use Prim.Native.Nat.{ℕ, ◌*◌}
use native.Mathlib.Omega.{arith}
use mathlib.Core.List.{List}
use lib.Dec.{leb}
use lib.ListN.{length}
use Rattle.record.specs.Tree.{Forest}
use Rattle.record.specs.Flat.{node_width, row_width, flat_nodes, flat_rows}
use Rattle.record.specs.Read.{Reading, holds, read, fits_ok}
use Rattle.record.specs.WellFormed.{nodes_in, rows_in}
use Rattle.record.specs.Outcome.{refused, done, in_room}
use Rattle.record.specs.declared.Refusal.TheVariants.{NoRoom, NotText}
use Rattle.record.proofs.Read.{stored, reads_back}
use Rattle.offsets_trees.specs.declared.Way.{Way}
use Rattle.offsets_trees.specs.declared.Fault.{Fault}
use Rattle.offsets_trees.specs.declared.Fault.TheVariants.{PastEnd, InsideCharacter}
use Rattle.offsets_trees.specs.Offsets.{converted, convert_by, fault_by, batch_fault, other_way}
use Rattle.offsets_trees.proofs.Converted.{converted_well}
use Rattle.offsets_trees.proofs.RoundTrips.{round_trip}
use Rattle.offsets_verdict.specs.Verdicts.{is_text}
use Rattle.offsets_verdict.proofs.Deciding.{text_both}
use Rattle.offsets.specs.Outcomes.{unless_fault, offsets_outcome}

-- what has room is written as it is
room_same : (nodes rows : List ℕ) (f g : Forest) → in_room nodes rows f ≡ done g → f ≡ g
unfolding in_room
room_same nodes rows f g e = go (fits_ok f && (leb (nodes_in f * node_width) (length nodes) && leb (rows_in f * row_width) (length rows))) e
  where
    go : (t : Bool) → cond t (done f) (refused NoRoom) ≡ done g → f ≡ g
    go true e = cc
    go false e = let never : ◌≡◌ {A = ℕ} 0 1 = cc in absurd (omega arith)

-- The first step was accepted.
record Step (way : Way) (f : Forest) (text : List ℕ) (g : Forest) : Type 0 where
  is_text_lem : is_text text ≡ true
  fine : batch_fault (fault_by way text) f ≡ None
  is : converted (convert_by way text) f ≡ g

step : (way : Way) (f : Forest) (text nodes rows : List ℕ) (g : Forest) → offsets_outcome way (holds f) text nodes rows ≡ done g → Step way f text g
unfolding offsets_outcome
step way f text nodes rows g e = go (is_text text) (batch_fault (fault_by way text) f) refl refl e
  where
    go : (t : Bool) (b : Option Fault) → is_text text ≡ t → batch_fault (fault_by way text) f ≡ b
        → cond t (unless_fault b (in_room nodes rows (converted (convert_by way text) f))) (refused NotText) ≡ done g → Step way f text g
    go true None t b e = record { is_text_lem = t; fine = b; is = room_same nodes rows (converted (convert_by way text) f) g e }
    go true (Some PastEnd) t b e = let never : ◌≡◌ {A = ℕ} 0 1 = cc in absurd (omega arith)
    go true (Some InsideCharacter) t b e = let never : ◌≡◌ {A = ℕ} 0 1 = cc in absurd (omega arith)
    go false b t b' e = let never : ◌≡◌ {A = ℕ} 0 1 = cc in absurd (omega arith)

-- a batch with nothing wrong: room alone decides
room_alone : (way : Way) (f : Forest) (text nodes rows : List ℕ) → is_text text ≡ true → batch_fault (fault_by way text) f ≡ None
    → offsets_outcome way (holds f) text nodes rows ≡ in_room nodes rows (converted (convert_by way text) f)
unfolding offsets_outcome
room_alone way f text nodes rows t b = rw (t, b)

pub there_and_back : (way : Way) (nodes rows text out_nodes out_rows : List ℕ) (f g : Forest)
    → read nodes rows ≡ holds f
    → offsets_outcome way (read nodes rows) text out_nodes out_rows ≡ done g
    → (out_nodes' out_rows' : List ℕ)
    → offsets_outcome (other_way way) (read (flat_nodes g) (flat_rows g)) text out_nodes' out_rows' ≡ in_room out_nodes' out_rows' f
there_and_back way nodes rows text out_nodes out_rows f g reads e out_nodes' out_rows' =
    let s = step way f text out_nodes out_rows g (ap (λ (r : Reading). offsets_outcome way r text out_nodes out_rows) (sym reads) ∙ e) in
    let back = round_trip text (text_both text s.is_text_lem).1 way f s.fine in
    let again : read (flat_nodes g) (flat_rows g) ≡ holds (converted (convert_by way text) f)
    = ap (λ (h : Forest). read (flat_nodes h) (flat_rows h)) (sym s.is)
    ∙ reads_back (converted (convert_by way text) f) (converted_well (convert_by way text) f (stored nodes rows f reads).well) in
    ap (λ (r : Reading). offsets_outcome (other_way way) r text out_nodes' out_rows') again
    ∙ room_alone (other_way way) (converted (convert_by way text) f) text out_nodes' out_rows' s.is_text_lem back.0
    ∙ ap (in_room out_nodes' out_rows') back.1
