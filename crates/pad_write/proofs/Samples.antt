-- An encoding of two rows with a range and a window of one row, padded by computing.
-- Assumes nothing.
use mathlib.Core.Path.{◌≡◌, refl}
use Prim.Native.Nat.{ℕ}
use mathlib.Core.List.{List, [], ◌∷◌}
use Rattle.record.specs.Tree.{Row, Range, Forest, none, node, absent}
use Rattle.record_write.specs.Writing.{present_range}
use Rattle.cut_plan.specs.declared.Direction.TheVariants.{Left, Right}
use Rattle.pad_rows.specs.declared.PadToken.{PadToken}
use Rattle.pad_write.specs.Padded.{padded}
use Rattle.pad_rows.specs.NewRows.{pad_row}

token : PadToken
token = record { id = 9; type_id = 1; text_start = 0; text_length = 5 }

row : ℕ → Row
row n = record { id = n; type_id = 0; pool = 0; text_start = n; text_length = 1; word_mark = 1; word = n; offset_start = n; offset_end = 4; special = 0; attention = 1 }

-- an encoding with these rows and ranges, and a window with these rows
over : List Row → List Range → List Row → Forest
over r q v = node r q (node v (absent ∷ []) none none) none

start : Forest
start = over (row 1 ∷ row 2 ∷ []) (present_range 0 2 ∷ absent ∷ []) (row 3 ∷ [])

-- the new rows come first, and the range goes with its rows
left_three : padded 3 token Left start ≡ over (pad_row token ∷ row 1 ∷ row 2 ∷ []) (present_range 1 3 ∷ absent ∷ []) (pad_row token ∷ pad_row token ∷ row 3 ∷ [])
unfolding token row over start
left_three = refl

-- the new rows come last, and the range stays
right_three : padded 3 token Right start ≡ over (row 1 ∷ row 2 ∷ pad_row token ∷ []) (present_range 0 2 ∷ absent ∷ []) (row 3 ∷ pad_row token ∷ pad_row token ∷ [])
unfolding token row over start
right_three = refl

-- a window is padded also where its encoding is long enough
window_two : padded 2 token Left start ≡ over (row 1 ∷ row 2 ∷ []) (present_range 0 2 ∷ absent ∷ []) (pad_row token ∷ row 3 ∷ [])
unfolding token row over start
window_two = refl

-- nothing is padded
unchanged : padded 1 token Right start ≡ start
unfolding token row over start
unchanged = refl
