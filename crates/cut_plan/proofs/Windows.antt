-- The windows of a cut in closed form: how many there are, where each stands, and how many rows they have together.
-- Right windows by induction; left windows are their mirror image, so that one proof serves both.
-- Assumes nothing.
use mathlib.Core.Path.{◌≡◌, refl, sym, ap, ap₂, ◌∙◌}
use mathlib.Core.Bool.{Bool, true, false, ◌&&◌, cond}
use mathlib.Core.Logic.{⊎_elim}
use Prim.Native.Nat.{ℕ, zero, suc, ◌+◌, ◌-◌, ◌*◌, ◌≤◌, ◌<◌, min}
use native.Mathlib.Nat.{suc-mul, zero-mul}
use native.Mathlib.Numerals.{one-add}
use native.Mathlib.Omega.{arith}
use mathlib.Core.List.{List, [], ◌∷◌, map}
use lib.Dec.{leb, ltb}
use lib.ListN.{length, get_or, length-map}
use borrow.Author.Tests.{le-leb, lt-leb, lt-ltb, le-ltb}
use Rattle.cut_plan.specs.Cut.{bounds, right_from, left_from, Cuts, cuts, windows_of, ceiling, count_of, mirror, seen_from, window_at, rows_of}
use Rattle.cut_plan.specs.declared.Direction.{Direction}
use Rattle.cut_plan.specs.declared.Direction.TheVariants.{Left, Right}
use Rattle.record.specs.declared.Bounds.{Bounds}
use Rattle.cut_plan.proofs.Ceiling.{ceiling_none, ceiling_step}
use Rattle.lists.proofs.Numbers.{either}

-- ---- Right windows, from a start on

-- s is a start, and there are steps enough to the end
record Runs (rows max step most s : ℕ) : Type 0 where
  pub moves : 0 < step
  pub near : step ≤ max
  pub starts : s < rows
  pub enough : rows ≤ s + most

-- the windows after the one that starts at s
abbrev after : ℕ → ℕ → ℕ → ℕ → ℕ
after rows max step s = ceiling (rows - (s + max)) step

module _ (rows max step : ℕ) where
  -- the last window, or one more
  last_or_more : (P : List Bounds → Type 0) (most s : ℕ) → Runs rows max step (suc most) s
      → (rows ≤ s + max → P (bounds s (min (s + max) rows) ∷ []))
      → (s + max < rows → Runs rows max step most (s + step) → P (bounds s (min (s + max) rows) ∷ right_from most rows max step (s + step)))
      → P (right_from (suc most) rows max step s)
  unfolding right_from
  last_or_more P most s h ends goes =
      ⊎_elim
      (λ (e : rows ≤ s + max). rw (le-leb rows (s + max) e) (ends e))
      (λ (e : s + max < rows). rw (lt-leb rows (s + max) e) (goes e (record { moves = h.moves; near = h.near; starts = omega arith; enough = omega arith })))
      (either rows (s + max))

  after_none : (s : ℕ) → 0 < step → rows ≤ s + max → after rows max step s ≡ 0
  after_none s h e = let z : rows - (s + max) ≡ 0 = omega arith in ap (λ (a : ℕ). ceiling a step) z ∙ ceiling_none step h

  after_more : (s : ℕ) → 0 < step → s + max < rows → after rows max step s ≡ suc (after rows max step (s + step))
  after_more s h e =
      let z : rows - (s + max) - step ≡ rows - (s + step + max) = omega arith in
      ceiling_step (rows - (s + max)) step h (omega arith) ∙ ap (λ (a : ℕ). suc (ceiling a step)) z

  right_length : (most s : ℕ) → Runs rows max step most s → length (right_from most rows max step s) ≡ suc (after rows max step s)
  right_length zero s h = absurd (omega arith)
  right_length (suc most) s h =
      last_or_more (λ l. length l ≡ suc (after rows max step s)) most s h
      (λ e. ap suc (sym (after_none s h.moves e)))
      (λ e g. ap suc (right_length most (s + step) g ∙ sym (after_more s h.moves e)))

  -- window i, where it stands
  abbrev standing : ℕ → Bounds
  standing s = bounds s (min (s + max) rows)

  right_at : (most s i : ℕ) (d : Bounds) → Runs rows max step most s → i ≤ after rows max step s → get_or (right_from most rows max step s) i d ≡ standing (s + i * step)
  right_at zero s i d h k = absurd (omega arith)
  right_at (suc most) s zero d h k =
      let here : s ≡ s + zero * step = omega (arith, zero-mul step) in
      last_or_more (λ l. get_or l zero d ≡ standing (s + zero * step)) most s h (λ e. ap standing here) (λ e g. ap standing here)
  right_at (suc most) s (suc i) d h k =
      let there : s + step + i * step ≡ s + suc i * step = omega (arith, suc-mul i step) in
      last_or_more (λ l. get_or l (suc i) d ≡ standing (s + suc i * step)) most s h
      (λ e. absurd (omega (arith, after_none s h.moves e)))
      (λ e g. right_at most (s + step) i d g (omega (arith, after_more s h.moves e)) ∙ ap standing there)

  -- neighbours share max - step rows
  right_rows : (most s : ℕ) → Runs rows max step most s → rows_of (right_from most rows max step s) ≡ rows - s + after rows max step s * (max - step)
  right_rows zero s h = absurd (omega arith)
  right_rows (suc most) s h =
      last_or_more (λ l. rows_of l ≡ rows - s + after rows max step s * (max - step)) most s h
      (λ e. rw (after_none s h.moves e) (omega (arith, zero-mul (max - step))))
      (λ e g. rw (after_more s h.moves e) (omega (arith, right_rows most (s + step) g, suc-mul (after rows max step (s + step)) (max - step), h.near)))

  left_mirrors : (most s : ℕ) → step ≤ max → s ≤ rows → left_from most max step (rows - s) ≡ map (mirror rows) (right_from most rows max step s)
  unfolding left_from right_from
  left_mirrors zero s n h = refl
  left_mirrors (suc most) s n h =
      let a : rows - s - max ≡ rows - min (s + max) rows = omega arith in
      ap₂ (λ (k : ℕ) (l : List Bounds). bounds k (rows - s) ∷ l) a
      (⊎_elim
      (λ (e : rows ≤ s + max). rw (le-leb rows (s + max) e, le-leb (rows - s) max (omega arith)))
      (λ (e : s + max < rows).
      let z : rows - s - step ≡ rows - (s + step) = omega arith in
      rw (lt-leb rows (s + max) e, lt-leb (rows - s) max (omega arith), z) (left_mirrors most (s + step) n (omega arith)))
      (either rows (s + max)))

  mirrored_rows : (most s : ℕ) → rows_of (map (mirror rows) (right_from most rows max step s)) ≡ rows_of (right_from most rows max step s)
  unfolding right_from
  mirrored_rows zero s = refl
  mirrored_rows (suc most) s =
      let size : rows - s - (rows - min (s + max) rows) ≡ min (s + max) rows - s = omega arith in
      ap₂ ◌+◌ size (go (right_from most rows max step (s + step)) (leb rows (s + max)) (mirrored_rows most (s + step)))
    where
      go : (l : List Bounds) (t : Bool) → rows_of (map (mirror rows) l) ≡ rows_of l → rows_of (map (mirror rows) (cond t [] l)) ≡ rows_of (cond t [] l)
      go l true e = refl
      go l false e = e

-- ---- Both directions

map_same : (l : List Bounds) → map (λ b. b) l ≡ l
map_same [] = refl
map_same (b ∷ l) = ap (b ∷◌) (map_same l)

at_map : (f : Bounds → Bounds) (l : List Bounds) (i : ℕ) (b c : Bounds) → i < length l → get_or (map f l) i b ≡ f (get_or l i c)
at_map f [] i b c h = absurd (omega arith)
at_map f (x ∷ l) zero b c h = refl
at_map f (x ∷ l) (suc i) b c h = at_map f l i b c (omega arith)

-- no such cut, no windows
module _ (rows max stride : ℕ) (d : Direction) where
  no_windows : cuts rows max stride ≡ false → windows_of rows max stride d ≡ []
  unfolding windows_of
  no_windows e = rw e

  pub no_windows_whole : rows ≤ max → windows_of rows max stride d ≡ []
  no_windows_whole h = no_windows (ap (◌&& ltb stride max) (le-ltb max rows h))

  pub no_windows_stride : max ≤ stride → windows_of rows max stride d ≡ []
  no_windows_stride h = no_windows (ap (ltb max rows &&◌) (le-ltb stride max h) ∙ false_after (ltb max rows))
    where
      false_after : (t : Bool) → (t && false) ≡ false
      false_after true = refl
      false_after false = refl

  -- where there is a window there is a cut
  pub window_cut : {i : ℕ} → i < length (windows_of rows max stride d) → Cuts rows max stride
  window_cut {i} h =
      ⊎_elim
      (λ (e : rows ≤ max). absurd (omega (arith, ap length (no_windows_whole e))))
      (λ (e : max < rows).
      ⊎_elim
      (λ (f : max ≤ stride). absurd (omega (arith, ap length (no_windows_stride f))))
      (λ (f : stride < max). record { fewer = e; less = f })
      (either max stride))
      (either rows max)

module _ {rows max stride : ℕ} (h : Cuts rows max stride) where
  runs : Runs rows max (max - stride) rows 0
  runs = record { moves = omega (arith, h.less); near = omega arith; starts = omega (arith, h.fewer); enough = omega arith }

  cut_here : cuts rows max stride ≡ true
  cut_here = ap₂ ◌&&◌ (lt-ltb max rows h.fewer) (lt-ltb stride max h.less)

  right_here : windows_of rows max stride Right ≡ right_from rows rows max (max - stride) 0
  unfolding windows_of
  right_here = rw cut_here

  after_here : after rows max (max - stride) 0 ≡ ceiling (rows - max) (max - stride)
  after_here = let z : rows - (0 + max) ≡ rows - max = omega arith in ap (λ (a : ℕ). ceiling a (max - stride)) z

  -- both directions at once: the windows of a right cut, as they are seen from the side that is kept
  pub windows_seen : (d : Direction) → windows_of rows max stride d ≡ map (seen_from d rows) (windows_of rows max stride Right)
  unfolding windows_of
  windows_seen Right = sym (map_same _)
  windows_seen Left =
      let z : rows ≡ rows - 0 = omega arith in
      rw cut_here (ap (left_from rows max (max - stride)) z ∙ left_mirrors rows max (max - stride) rows 0 (omega arith) (omega arith))

  -- "The number of windows is one plus the rows beyond max divided by max less stride, rounded up."
  pub windows_count : (d : Direction) → length (windows_of rows max stride d) ≡ count_of rows max stride
  windows_count d =
      ap length (windows_seen d) ∙ length-map (windows_of rows max stride Right) (seen_from d rows) ∙ ap length right_here
      ∙ right_length rows max (max - stride) rows 0 runs ∙ ap suc after_here ∙ sym (one-add _)

  -- window number i
  pub window_at_lem : (d : Direction) (i : ℕ) (b : Bounds) → i < count_of rows max stride → get_or (windows_of rows max stride d) i b ≡ window_at rows max stride d i
  window_at_lem d i b k =
      let z : 0 + i * (max - stride) ≡ i * (max - stride) = omega arith in
      ap (λ (l : List Bounds). get_or l i b) (windows_seen d) ∙ at_map (seen_from d rows) (windows_of rows max stride Right) i b b (omega (arith, windows_count Right))
      ∙ ap (seen_from d rows) (ap (λ (l : List Bounds). get_or l i b) right_here ∙ right_at rows max (max - stride) rows 0 i b runs (omega (arith, after_here)) ∙ ap (standing rows max (max - stride)) z)

  -- the rows of all windows: stride more for each but one
  pub windows_rows : (d : Direction) → rows_of (windows_of rows max stride d) ≡ rows + ceiling (rows - max) (max - stride) * stride
  windows_rows d =
      let shared : max - (max - stride) ≡ stride = omega (arith, h.less) in
      let z : rows - 0 ≡ rows = omega arith in
      ap rows_of (windows_seen d) ∙ same d ∙ ap rows_of right_here ∙ right_rows rows max (max - stride) rows 0 runs
      ∙ ap₂ ◌+◌ z (ap₂ ◌*◌ after_here shared)
    where
      same : (d : Direction) → rows_of (map (seen_from d rows) (windows_of rows max stride Right)) ≡ rows_of (windows_of rows max stride Right)
      same Right = ap rows_of (map_same (windows_of rows max stride Right))
      same Left = rw right_here (mirrored_rows rows max (max - stride) rows 0)
