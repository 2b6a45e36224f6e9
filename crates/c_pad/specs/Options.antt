-- The options of padding, as they cross the C interface.
-- Assumes nothing: these are definitions.
use Rattle.std.specs.Prelude.{Bool, true, false, ℕ}
use Rattle.pad_rows.specs.declared.PadToken as pad
use Rattle.pad_length.specs.declared.PaddingStrategy as pads

-- what is added in padding
abbrev pub pad_token : ℕ → ℕ → ℕ → ℕ → pad.PadToken
pad_token id type_id start size = record { id = id; type_id = type_id; text_start = start; text_length = size }

-- a fixed length, or that of the longest
abbrev pub padding_of : Bool → ℕ → pads.PaddingStrategy
padding_of true n = pads.TheVariants.Fixed n
padding_of false n = pads.TheVariants.BatchLongest
