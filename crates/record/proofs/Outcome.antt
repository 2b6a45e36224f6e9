-- When a result has room, and how an operation that writes meets its promise.
-- Assumes nothing.
use Rattle.std.specs.Prelude.{Result, Ok, Err}
use mathlib.Core.Path.{◌≡◌, refl, ap, ◌∙◌}
use mathlib.Core.Bool.{Bool, true, false, ◌&&◌, cond}
use Prim.Native.Nat.{ℕ, ◌*◌, ◌≤◌}
use native.Mathlib.Omega.{arith}
use mathlib.Core.List.{List}
use lib.Dec.{leb, eqb}
use lib.ListN.{length}
use lib.Seq.{sets}
use Rattle.record.specs.Tree.{Forest}
use Rattle.record.specs.Flat.{row_width, node_width, flat_nodes, flat_rows}
use Rattle.record.specs.WellFormed.{Fine, Fits, nodes_in, rows_in}
use Rattle.record.specs.Read.{fits_ok}
use Rattle.record.specs.Refusals.{number_of}
use Rattle.record.specs.Outcome.{Outcome, refused, done, in_room, Room, left, after_refusal, Writes}
use Rattle.record.specs.declared.Refusal.{Refusal}
use Rattle.record.specs.declared.Refusal.TheVariants.{NoRoom}
use Rattle.record.specs.declared.Written.{Written}
use Rattle.record.proofs.Flat.{length_nodes, length_rows}
use Rattle.lists.proofs.Sets.{sets_over}
use Rattle.record.proofs.WellFormed.{Tells, tells_le, tells_and₃, tells_fits}

tells_room : (nodes rows : List ℕ) (f : Forest) → Tells (fits_ok f && (leb (nodes_in f * node_width) (length nodes) && leb (rows_in f * row_width) (length rows))) (Fits f × (nodes_in f * node_width ≤ length nodes) × (rows_in f * row_width ≤ length rows))
tells_room nodes rows f = tells_and₃ (tells_fits f) (tells_le (nodes_in f * node_width) (length nodes)) (tells_le (rows_in f * row_width) (length rows))

pub in_room_lem : (nodes rows : List ℕ) (f : Forest) → Room nodes rows f → in_room nodes rows f ≡ done f
unfolding in_room
in_room_lem nodes rows f h = ap (λ (b : Bool). cond b (done f) (refused NoRoom)) ((tells_room nodes rows f).back (h.fits, h.nodes_fit, h.rows_fit))

pub no_room : (nodes rows : List ℕ) (f : Forest) → (Room nodes rows f → ⊥) → in_room nodes rows f ≡ refused NoRoom
unfolding in_room
no_room nodes rows f h = go _ (λ e. let p = (tells_room nodes rows f).so e in h (record { fits = p.0; nodes_fit = p.1; rows_fit = p.2 }))
  where
    go : (b : Bool) → (b ≡ true → ⊥) → cond b (done f) (refused NoRoom) ≡ refused NoRoom
    go true no_way = absurd (no_way refl)
    go false no_way = refl

-- ---- The promise

module _ {o : Outcome} {answer : Result Written Refusal} {nodes rows nodes' rows' : List ℕ} where
  -- refused, save with 6: nothing has changed
  pub writes_refused : (k : Refusal) → o ≡ refused k → eqb (number_of k) 6 ≡ false → answer ≡ Err k → nodes' ≡ nodes → rows' ≡ rows → Writes o answer nodes rows nodes' rows'
  unfolding left
  writes_refused k e six a n r = rw e (record { answers = a; nodes_left = n ∙ kept nodes; rows_left = r ∙ kept rows })
    where
      kept : (was : List ℕ) → was ≡ after_refusal k was
      kept was = rw six

  -- done: the result was written from the front of the two lists
  pub writes_done : (f : Forest) → o ≡ done f → length (flat_nodes f) ≤ length nodes → length (flat_rows f) ≤ length rows → answer ≡ Ok (record { nodes = nodes_in f; rows = rows_in f }) → nodes' ≡ sets nodes 0 (flat_nodes f) → rows' ≡ sets rows 0 (flat_rows f) → Writes o answer nodes rows nodes' rows'
  unfolding left
  writes_done f e ln lr a n r = rw e (record { answers = a; nodes_left = n ∙ sets_over nodes (flat_nodes f) ln; rows_left = r ∙ sets_over rows (flat_rows f) lr })

-- a result that has room fits the two lists
pub room_lengths : {nodes rows : List ℕ} {f : Forest} → Fine f → Room nodes rows f → (length (flat_nodes f) ≤ length nodes) × (length (flat_rows f) ≤ length rows)
room_lengths {nodes} {rows} {f} h r = (omega (arith, length_nodes f h), omega (arith, length_rows f))
