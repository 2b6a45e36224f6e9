-- What a cut makes of one encoding (document 01, "Truncate").
-- Assumes nothing: these are definitions.
use Rattle.std.specs.Prelude.{ℕ, cond, [], ◌∷◌, map, leb, eqb, length}
use Rattle.record.specs.Tree.{Encoding}
use Rattle.cut_windows.specs.Made.{plain, stretch_of, gathered}
use Rattle.cut_plan.specs.Cut.{windows_of}
use Rattle.cut_plan.specs.declared.Direction.{Direction}

-- "Max at or above the row count: nothing, windows kept. Max 0: an empty encoding with the whole former one, its windows
-- and ranges included, as its only window. Else ranges and old windows are dropped", and the windows of the cut
unfoldable pub truncated : ℕ → ℕ → Direction → Encoding → Encoding
truncated max stride d E =
    cond (leb (length E.rows) max) E
    (cond (eqb max 0) (plain [] (E ∷ []))
    (gathered (map (stretch_of E.rows) (windows_of (length E.rows) max stride d))))
