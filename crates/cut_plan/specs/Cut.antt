-- How an encoding is cut (document 01, "Truncate").
-- Assumes nothing: these are definitions.
use Rattle.std.specs.Prelude.{ℕ, zero, suc, ◌+◌, ◌-◌, ◌*◌, ◌/◌, ◌<◌, min, Bool, ◌&&◌, cond, List, [], ◌∷◌, leb, ltb, eqb, length}
use Rattle.cut_plan.specs.declared.Direction.{Direction}
use Rattle.cut_plan.specs.declared.Direction.TheVariants.{Left, Right}
use Rattle.record.specs.declared.Bounds.{Bounds}
use Rattle.cut_plan.specs.declared.Decision.{Decision}
use Rattle.cut_plan.specs.declared.Decision.TheVariants.{Whole, Emptied, StrideRefused, Windows}

-- A stretch of rows: its first row, and the row after its last.
abbrev pub bounds : ℕ → ℕ → Bounds
bounds s e = record { start = s; end = e }

-- ---- The windows

-- "right windows start at 0, step, ..; each stops at start + max or the end, and the first to reach the end is last":
-- those from `start` on, at most `most` of them
unfoldable pub right_from : ℕ → ℕ → ℕ → ℕ → ℕ → List Bounds
right_from zero rows max step start = []
right_from (suc most) rows max step start = bounds start (min (start + max) rows) ∷ cond (leb rows (start + max)) [] (right_from most rows max step (start + step))

-- "Left windows stop at the row count, then step less; each starts max earlier or at 0, and the first to reach 0 is
-- last": those from the one that ends at `stop` on, at most `most` of them
unfoldable pub left_from : ℕ → ℕ → ℕ → ℕ → List Bounds
left_from zero max step stop = []
left_from (suc most) max step stop = bounds (stop - max) stop ∷ cond (leb stop max) [] (left_from most max step (stop - step))

-- "With step max − stride", the kept one first. Each starts a row or more after the one before, so there are no more
-- than rows.
abbrev pub windows_from : ℕ → ℕ → ℕ → Direction → List Bounds
windows_from rows max stride Right = right_from rows rows max (max - stride) 0
windows_from rows max stride Left = left_from rows max (max - stride) rows

-- there is such a cut: 0 < max < rows, and the stride is below max
pub record Cuts (rows max stride : ℕ) : Type 0 where
  pub fewer : max < rows
  pub less : stride < max

abbrev pub cuts : ℕ → ℕ → ℕ → Bool
cuts rows max stride = ltb max rows && ltb stride max

-- the windows of a cut, and none where there is no such cut
unfoldable pub windows_of : ℕ → ℕ → ℕ → Direction → List Bounds
windows_of rows max stride d = cond (cuts rows max stride) (windows_from rows max stride d) []

-- ---- What becomes of an encoding

-- "Max at or above the row count: nothing"; "Max 0: an empty encoding with the whole former one as its only window";
-- "3 exactly if 0 < max < row count and stride ≥ max"; else windows, this many with the kept one
unfoldable pub decision_of : ℕ → ℕ → ℕ → Decision
decision_of rows max stride =
    cond (leb rows max) Whole
    (cond (eqb max 0) Emptied
    (cond (leb max stride) StrideRefused
    (Windows (length (windows_of rows max stride Right)))))

-- ---- The same in closed form, as proofs/Windows shows

-- a / b rounded up
abbrev pub ceiling : ℕ → ℕ → ℕ
ceiling a b = (a + (b - 1)) / b

-- "one plus the rows beyond max divided by max less stride, rounded up"
abbrev pub count_of : ℕ → ℕ → ℕ → ℕ
count_of rows max stride = 1 + ceiling (rows - max) (max - stride)

-- the same stretch counted from the other end of the rows
abbrev pub mirror : ℕ → Bounds → Bounds
mirror rows b = bounds (rows - b.end) (rows - b.start)

-- as it is seen from the side that is kept
abbrev pub seen_from : Direction → ℕ → Bounds → Bounds
seen_from Right rows b = b
seen_from Left rows b = mirror rows b

-- window number i
abbrev pub window_at : ℕ → ℕ → ℕ → Direction → ℕ → Bounds
window_at rows max stride d i = seen_from d rows (bounds (i * (max - stride)) (min (i * (max - stride) + max) rows))

-- the rows of all of them
abbrev pub rows_of : List Bounds → ℕ
rows_of [] = 0
rows_of (b ∷ bs) = b.end - b.start + rows_of bs
