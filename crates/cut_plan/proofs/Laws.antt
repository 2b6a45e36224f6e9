-- What holds of the windows of every cut, in both directions at once: each inside the rows, more than stride and at
-- most max of them; the first and the last; each a step from the one before; every row in one of them.
-- Assumes nothing.
use mathlib.Core.Path.{◌≡◌, sym, ap, ap₂, subst}
use mathlib.Core.Logic.{⊎_elim}
use Prim.Native.Nat.{ℕ, suc, ◌+◌, ◌-◌, ◌*◌, ◌/◌, ◌≤◌, ◌<◌, min}
use native.Mathlib.Nat.{suc-mul, zero-mul, mul-le-mul_right, div-mul-le_self, lt-div-mul-add, div-lt_iff_lt-mul}
use native.Mathlib.Omega.{arith}
use lib.ListN.{length, get_or}
use Rattle.lists.specs.Lists.{All}
use Rattle.cut_plan.specs.Cut.{bounds, windows_of, Cuts, ceiling, count_of, seen_from, window_at}
use Rattle.cut_plan.specs.declared.Direction.{Direction}
use Rattle.cut_plan.specs.declared.Direction.TheVariants.{Left, Right}
use Rattle.record.specs.declared.Bounds.{Bounds}
use Rattle.cut_plan.proofs.Ceiling.{ceiling_reaches, ceiling_close, ceiling_least}
use Rattle.lists.proofs.All.{all_places}
use Rattle.lists.proofs.Numbers.{either}
use Rattle.cut_plan.proofs.Windows.{window_cut, windows_count, window_at_lem}

-- inside the rows, with more than stride and at most max of them
pub record Sized (rows max stride : ℕ) (b : Bounds) : Type 0 where
  pub inside : b.end ≤ rows
  pub above_stride : b.start + stride < b.end
  pub within_max : b.end ≤ b.start + max

-- c is the next after b, seen from the side that is kept, and shares `stride` rows with it: no difference of numbers, which
-- would be 0 over a gap too
abbrev pub Shares : ℕ → Direction → Bounds → Bounds → Type 0
Shares stride Right b c = c.start + stride ≡ b.end
Shares stride Left b c = b.start + stride ≡ c.end

-- how far it stands from it
abbrev pub moved : Direction → Bounds → Bounds → ℕ
moved Right b c = c.start - b.start
moved Left b c = b.end - c.end

-- row k lies in b
pub record Holds (b : Bounds) (k : ℕ) : Type 0 where
  pub from : b.start ≤ k
  pub before : k < b.end

module _ {rows max stride : ℕ} (h : Cuts rows max stride) where
  -- the last window's number
  abbrev last : ℕ
  last = ceiling (rows - max) (max - stride)

  -- a window of a right cut starts more than stride rows before the end
  starts_below : (i : ℕ) → i ≤ last → i * (max - stride) + stride < rows
  starts_below i k = omega (arith, h.fewer, h.less, mul-le-mul_right (max - stride) k, ceiling_close (rows - max) (max - stride) (omega (arith, h.less)))

  pub window_sized : (d : Direction) (i : ℕ) → i < count_of rows max stride → Sized rows max stride (window_at rows max stride d i)
  window_sized Right i k = let s = starts_below i (omega arith) in record { inside = omega arith; above_stride = omega (arith, h.less); within_max = omega arith }
  window_sized Left i k = let s = starts_below i (omega arith) in record { inside = omega arith; above_stride = omega (arith, h.less); within_max = omega (arith, h.less) }

  -- all but the last have max rows
  pub window_full : (d : Direction) (i : ℕ) → i < last → (window_at rows max stride d i).end ≡ (window_at rows max stride d i).start + max
  window_full d i k = go d (ceiling_least (rows - max) (max - stride) i (omega (arith, h.less)) k)
    where
      go : (d : Direction) → i * (max - stride) < rows - max → (window_at rows max stride d i).end ≡ (window_at rows max stride d i).start + max
      go Right e = omega (arith, h.fewer)
      go Left e = omega (arith, h.fewer)

  -- the kept one stands at the side that is kept
  pub window_first : (d : Direction) → window_at rows max stride d 0 ≡ seen_from d rows (bounds 0 max)
  window_first d =
      let a : 0 * (max - stride) ≡ 0 = zero-mul (max - stride) in
      let b : min (0 * (max - stride) + max) rows ≡ max = omega (arith, a, h.fewer) in
      ap (seen_from d rows) (ap₂ bounds a b)

  -- the last one reaches the other side
  pub window_last : (d : Direction) → window_at rows max stride d last ≡ seen_from d rows (bounds (last * (max - stride)) rows)
  window_last d =
      let b : min (last * (max - stride) + max) rows ≡ rows = omega (arith, h.fewer, ceiling_reaches (rows - max) (max - stride) (omega (arith, h.less))) in
      ap (λ (e : ℕ). seen_from d rows (bounds (last * (max - stride)) e)) b

  -- each stands a step from the one before, and shares stride rows with it
  pub window_moved : (d : Direction) (i : ℕ) → i < last → moved d (window_at rows max stride d i) (window_at rows max stride d (suc i)) ≡ max - stride
  window_moved d i k = go d (starts_below (suc i) k)
    where
      go : (d : Direction) → suc i * (max - stride) + stride < rows → moved d (window_at rows max stride d i) (window_at rows max stride d (suc i)) ≡ max - stride
      go Right e = omega (arith, suc-mul i (max - stride))
      go Left e = omega (arith, suc-mul i (max - stride))

  pub window_shared : (d : Direction) (i : ℕ) → i < last → Shares stride d (window_at rows max stride d i) (window_at rows max stride d (suc i))
  window_shared Right i k = omega (arith, window_moved Right i k, window_full Right i k, h.less)
  window_shared Left i k = omega (arith, window_moved Left i k, window_full Left i k, h.less)

  -- every row is in a window
  covered : (k : ℕ) → k < rows → (i : ℕ) × (i < count_of rows max stride) × Holds (window_at rows max stride Right i) k
  covered k r = ⊎_elim late early (either (last * (max - stride)) k)
    where
      step : 0 < max - stride
      step = omega (arith, h.less)

      late : last * (max - stride) ≤ k → (i : ℕ) × (i < count_of rows max stride) × Holds (window_at rows max stride Right i) k
      late e = (last, omega arith, record { from = e; before = omega (arith, h.fewer, ceiling_reaches (rows - max) (max - stride) step) })

      early : k < last * (max - stride) → (i : ℕ) × (i < count_of rows max stride) × Holds (window_at rows max stride Right i) k
      early e =
          let i : k / (max - stride) < last = (div-lt_iff_lt-mul step).1 e in
          (k / (max - stride), omega arith, record { from = div-mul-le_self k (max - stride); before = omega (arith, lt-div-mul-add {a = k} {b = max - stride} step) })

  pub window_covers : (d : Direction) (k : ℕ) → k < rows → (i : ℕ) × (i < count_of rows max stride) × Holds (window_at rows max stride d i) k
  window_covers Right k r = covered k r
  window_covers Left k r =
      let (i, a, c) = covered (rows - suc k) (omega arith) in
      (i, a, record { from = omega (arith, c.before); before = omega (arith, c.from) })

-- ---- A number below the number of windows

-- i is a window's number
pub record Numbers (rows max stride i : ℕ) : Type 0 where
  pub cut : Cuts rows max stride
  pub below : i < count_of rows max stride

pub numbers : (rows max stride i : ℕ) (d : Direction) → i < length (windows_of rows max stride d) → Numbers rows max stride i
numbers rows max stride i d h = let u = window_cut rows max stride d {i = i} h in record { cut = u; below = omega (arith, windows_count u d) }

module _ {rows max stride i : ℕ} (n : Numbers rows max stride i) where
  pub number_starts : i * (max - stride) + stride < rows
  number_starts = starts_below n.cut i (omega (arith, n.below))

  pub number_at : (d : Direction) (b : Bounds) → get_or (windows_of rows max stride d) i b ≡ window_at rows max stride d i
  number_at d b = window_at_lem n.cut d i b n.below

-- ---- All windows at once

pub windows_sized : {rows max stride : ℕ} → Cuts rows max stride → (d : Direction) → All (Sized rows max stride) (windows_of rows max stride d)
windows_sized {rows} {max} {stride} h d =
    all_places (Sized rows max stride) (bounds 0 0) (windows_of rows max stride d) λ i k.
    let m : i < count_of rows max stride = omega (arith, windows_count h d) in
    subst (Sized rows max stride) (sym (window_at_lem h d i (bounds 0 0) m)) (window_sized h d i m)
