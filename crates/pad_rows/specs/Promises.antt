-- What the functions that write new rows give.
-- Assumes nothing: these are definitions.
use Rattle.std.specs.Prelude.{ℕ, replicate}
use mathlib.Core.List.{List, flat_map}
use Rattle.record.specs.Flat.{row_numbers}
use Rattle.pad_rows.specs.declared.PadToken.{PadToken}
use Rattle.pad_rows.specs.NewRows.{pad_row}

-- the numbers of so many new rows
abbrev pub pad_numbers : PadToken → ℕ → List ℕ
pad_numbers token count = flat_map row_numbers (replicate count (pad_row token))
