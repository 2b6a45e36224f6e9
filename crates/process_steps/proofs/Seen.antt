-- A piece of an input encoding, as document 01 has it, is that encoding seen through a view.
-- Assumes nothing.
use mathlib.Core.Path.{◌≡◌, refl, sym, ap₂}
use mathlib.Core.List.{map}
use Prim.Native.Nat.{ℕ}
use lib.ListN.{length, set}
use lib.Seq.{set-set}
use Rattle.record.specs.Tree.{Forest, none, node, Encoding, listed, forest}
use Rattle.record_write.specs.Writing.{present_range}
use Rattle.record_make.specs.Making.{set_sequence, whole_range}
use Rattle.join_view.specs.declared.View.TheVariants.{Window, Piece as PieceView}
use Rattle.join_view.specs.View.{typed_row, all_seen, seen}
use Rattle.join_view.proofs.Seen.{all_plain}
use Rattle.process_steps.specs.Applied.{of_sequence}

windows_seen : (i : ℕ) (f : Forest) → all_seen (Window i) f ≡ forest (map (set_sequence i) (listed f))
windows_seen i none = refl
windows_seen i (node r q w x) = ap₂ (node r (set q i (present_range 0 (length r)))) (all_plain w) (windows_seen i x)

pub seen_piece : (i t : ℕ) (E : Encoding) → seen (PieceView i t) E ≡ of_sequence i t E
seen_piece i t E = λ k. record { rows = map (typed_row t) E.rows; ranges = sym (set-set E.ranges i (whole_range E) (whole_range E)) k; below = windows_seen i E.below k }
