-- What the pass over the nodes keeps, turn by turn, and what each way out of it shows.
-- Assumes nothing.
use mathlib.Core.Path.{◌≡◌, refl, sym, subst}
use Prim.Native.Nat.{ℕ, suc, ◌+◌, ◌-◌, ◌*◌, ◌≤◌, ◌<◌}
use native.Mathlib.Nat.{zero-add}
use native.Mathlib.Omega.{arith}
use mathlib.Core.List.{List, ◌∷◌}
use lib.ListN.{length, get_or, set, drop, length-set}
use borrow.Author.Count.{below_more}
use Rattle.record.specs.Flat.{row_width, node_width}
use Rattle.record.specs.WellFormed.{most_levels}
use Rattle.record_fields.specs.Promises.{RangesOk, NodeFits, NodesFine}
use Rattle.record_check.specs.Promises.{Passes}
use Rattle.std.specs.Prelude.{Some, None}
use Rattle.record_check.proofs.Passes.{Closes, Next}
use Rattle.record_check.proofs.Track.{Track, Nothing, stack_of, top_at, inner_at, pop_at, short_at, read_at, end_at, over_at, deep_at, push_at, skip_at}

-- ---- The ranges of the nodes before place i are fine

pub record FineTo (nodes : List ℕ) (i : ℕ) : Type 0 where
  pub passed : ℕ
  pub place : i ≡ passed * node_width
  pub each : (k : ℕ) → k < passed → RangesOk nodes (k * node_width)

fine_more : {nodes : List ℕ} {i : ℕ} → FineTo nodes i → RangesOk nodes i → FineTo nodes (i + node_width)
fine_more {nodes} f h = record { passed = f.passed + 1; place = omega arith; each = below_more _ _ f.each (subst (RangesOk nodes) f.place h) }

fine_end : {nodes : List ℕ} {i : ℕ} → FineTo nodes i → i ≡ length nodes → NodesFine nodes
fine_end f e k h = f.each k (omega arith)

fine_at : {nodes : List ℕ} {i : ℕ} → FineTo nodes i → i + node_width ≤ length nodes → NodesFine nodes → RangesOk nodes i
fine_at {nodes} f l all = subst (RangesOk nodes) (sym f.place) (all f.passed (omega arith))

-- ---- The loop's invariant, and what holds once the next node is due

pub record Kept (nodes rows pending : List ℕ) (depth i j tops : ℕ) : Type 0 where
  pub shallow : depth ≤ most_levels
  pub in_nodes : i ≤ length nodes
  pub in_rows : j ≤ length rows
  pub places : length pending ≡ most_levels
  pub few : tops ≤ i
  pub fine : FineTo nodes i
  pub track : Track nodes rows tops (λ m. Closes m (stack_of pending depth) (drop i nodes) (drop j rows))

pub record Due (nodes rows pending : List ℕ) (depth i j tops : ℕ) : Type 0 where
  pub places : length pending ≡ most_levels
  pub few : tops ≤ i + 1
  pub track : Track nodes rows tops (λ m. Next m (stack_of pending depth) (drop i nodes) (drop j rows))

pub kept_start : (nodes rows pending : List ℕ) → length pending ≡ most_levels → Kept nodes rows pending 0 0 0 0
unfolding stack_of Closes
kept_start nodes rows pending e = record {
  shallow = omega arith;
  in_nodes = omega arith;
  in_rows = omega arith;
  places = e;
  few = omega arith;
  fine = record { passed = 0; place = refl; each = λ k h. absurd (omega arith) };
  track = record { back = λ m h. rw zero-add h; forth = λ m b. (m, omega arith, b) };
}

nothing : (nodes rows : List ℕ) → Nothing nodes rows → Passes nodes rows None
nothing nodes rows h m b f = h m b

module _ {nodes rows pending : List ℕ} {depth i j tops : ℕ} (h : Kept nodes rows pending depth i j tops) where
  pub kept_end : depth ≡ 0 → i ≡ length nodes → j ≡ length rows → Passes nodes rows (Some tops)
  kept_end d e r =
      let b = end_at nodes rows tops pending depth i j d e r h.track in
      (b.0, b.1, fine_end h.fine e)

  pub kept_over : depth ≡ 0 → i ≡ length nodes → (j ≡ length rows → ⊥) → Passes nodes rows None
  kept_over d e r = nothing nodes rows (over_at nodes rows tops pending depth i j d e (omega arith) h.track)

  pub kept_pop : (e : ℕ) → depth ≡ suc e → get_or pending e 0 ≡ 0 → Kept nodes rows pending e i j tops
  kept_pop e d v = record { shallow = omega arith; in_nodes = h.in_nodes; in_rows = h.in_rows; places = h.places; few = h.few; fine = h.fine; track = pop_at nodes rows tops pending depth i j e d v h.track }

  pub due_top : depth ≡ 0 → (i ≡ length nodes → ⊥) → Due nodes rows pending depth i j (tops + 1)
  due_top d e = record { places = h.places; few = omega arith; track = top_at nodes rows tops pending depth i j d (omega arith) h.track }

  pub due_inner : (e k : ℕ) → depth ≡ suc e → get_or pending e 0 ≡ suc k → Due nodes rows (set pending e k) depth i j tops
  due_inner e k d v = record { places = simp length-set h.places; few = omega arith; track = inner_at nodes rows tops pending depth i j e k d v (omega arith) h.track }

-- ---- The next node, with what was kept before it

module _ {nodes rows pending pending' : List ℕ} {depth i j tops tops' : ℕ} (h : Kept nodes rows pending depth i j tops) (u : Due nodes rows pending' depth i j tops') where
  pub due_unfit : (NodeFits nodes i (length rows - j) → ⊥) → Passes nodes rows None
  due_unfit not m b f = short_at nodes rows tops' pending' depth i j (λ a r. not (record { whole = a; rows = r; fine = fine_at h.fine (omega (arith, h.in_nodes)) f })) u.track m b

  module _ (fits : NodeFits nodes i (length rows - j)) where
    after : Track nodes rows tops' (λ m. Closes m (get_or nodes (i + 1) 0 ∷ stack_of pending' depth) (drop (i + node_width) nodes) (drop (j + get_or nodes i 0 * row_width) rows))
    after = read_at nodes rows tops' pending' depth i j (omega (arith, fits.whole)) (omega (arith, fits.rows, h.in_rows)) (omega (arith, h.shallow)) u.track

    pub due_deep : 0 < get_or nodes (i + 1) 0 → most_levels ≤ depth → Passes nodes rows None
    due_deep w d = nothing nodes rows (deep_at nodes rows tops' pending' depth (i + node_width) (j + get_or nodes i 0 * row_width) (get_or nodes (i + 1) 0) w d after)

    -- its row count, as it was read
    module _ (n : ℕ) (e : n ≡ get_or nodes i 0) where
      pub due_push : depth < most_levels → Kept nodes rows (set pending' depth (get_or nodes (i + 1) 0)) (depth + 1) (i + node_width) (j + n * row_width) tops'
      due_push d = rw e (record {
        shallow = omega arith;
        in_nodes = omega (arith, fits.whole);
        in_rows = omega (arith, fits.rows);
        places = simp length-set u.places;
        few = omega arith;
        fine = fine_more h.fine fits.fine;
        track = push_at nodes rows tops' pending' depth (i + node_width) (j + get_or nodes i 0 * row_width) (get_or nodes (i + 1) 0) (omega arith) after;
      })

      pub due_skip : get_or nodes (i + 1) 0 ≤ 0 → Kept nodes rows pending' depth (i + node_width) (j + n * row_width) tops'
      due_skip w = rw e (record {
        shallow = h.shallow;
        in_nodes = omega (arith, fits.whole);
        in_rows = omega (arith, fits.rows);
        places = u.places;
        few = omega arith;
        fine = fine_more h.fine fits.fine;
        track = skip_at nodes rows tops' pending' depth (i + node_width) (j + get_or nodes i 0 * row_width) (get_or nodes (i + 1) 0) w after;
      })
