-- The rows of a padded node (document 01, "Pad").
-- Assumes nothing: these are definitions.
use Rattle.std.specs.Prelude.{ℕ, ◌-◌, List, ◌++◌, length, replicate}
use Rattle.record.specs.Tree.{Row}
use Rattle.cut_plan.specs.declared.Direction.{Direction}
use Rattle.cut_plan.specs.declared.Direction.TheVariants.{Left, Right}
use Rattle.pad_rows.specs.declared.PadToken.{PadToken}

-- "New rows: pad id, pad type, pad text in pool 1, word none, attention 0, special 1, offsets 0."
abbrev pub pad_row : PadToken → Row
pad_row token = record { id = token.id; type_id = token.type_id; pool = 1; text_start = token.text_start; text_length = token.text_length; word_mark = 0; word = 0; offset_start = 0; offset_end = 0; special = 1; attention = 0 }

-- the new ones on the side of the padding
abbrev pub beside : {A : Type 0} → Direction → List A → List A → List A
beside Left new own = new ++ own
beside Right new own = own ++ new

abbrev pub padded_rows : ℕ → PadToken → Direction → List Row → List Row
padded_rows target token d r = beside d (replicate (target - length r) (pad_row token)) r
