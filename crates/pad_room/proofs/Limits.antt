-- Room for padded encodings, by the target alone: none above the limits, and always for no encodings at all.
-- Assumes nothing.
use mathlib.Core.Path.{◌≡◌}
use Prim.Native.Nat.{ℕ, ◌<◌}
use native.Mathlib.Omega.{arith}
use mathlib.Core.List.{List}
use Rattle.record.specs.Tree.{Forest, none, node, tops}
use Rattle.record.specs.WellFormed.{most_rows}
use Rattle.record.specs.Outcome.{refused, done, in_room}
use Rattle.record.specs.declared.Refusal.TheVariants.{NoRoom}
use Rattle.record.proofs.Outcome.{in_room_lem, no_room}
use Rattle.cut_plan.specs.declared.Direction.{Direction}
use Rattle.pad_rows.specs.declared.PadToken.{PadToken}
use Rattle.pad_write.specs.Padded.{padded}
use Rattle.pad_write.proofs.Laws.{padded_rows_lem}

module _ (target : ℕ) (token : PadToken) (d : Direction) (out out' : List ℕ) where
  -- "2 means the result needs more rows […] than the limits": a target above them is refused, if there is anything to pad
  pub long_refused : most_rows < target → (f : Forest) → 0 < tops f → in_room out out' (padded target token d f) ≡ refused NoRoom
  long_refused h none some = absurd (omega arith)
  long_refused h (node r q w x) some = no_room out out' (padded target token d (node r q w x)) (λ m. omega (arith, m.fits.few_rows, padded_rows_lem target token d (node r q w x)))

  -- nothing has room, whatever the target
  pub none_done : in_room out out' (padded target token d none) ≡ done none
  none_done = in_room_lem out out' none (record { fits = record { few_nodes = omega arith; few_rows = omega arith; few_levels = omega arith }; nodes_fit = omega arith; rows_fit = omega arith })
