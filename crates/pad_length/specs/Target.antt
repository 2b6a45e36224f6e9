-- What padding is told by: the length to which a batch is padded, and whether the pad text lies in its pool (document 01, "Pad
-- batch").
-- Assumes nothing: these are definitions.
use Rattle.std.specs.Prelude.{Bool, ℕ, ◌+◌, max, leb, length}
use Rattle.record.specs.Tree.{Forest, none, node}
use Rattle.pad_rows.specs.declared.PadToken.{PadToken}
use Rattle.pad_length.specs.Rounding.{rounded_up}
use Rattle.pad_length.specs.declared.PaddingStrategy.{PaddingStrategy}
use Rattle.pad_length.specs.declared.PaddingStrategy.TheVariants.{BatchLongest, Fixed}

-- ---- The length

-- "that of the longest top encoding"
abbrev pub longest : Forest → ℕ
longest none = 0
longest (node r q w x) = max (length r) (longest x)

-- "length fixed or that of the longest top encoding"
abbrev pub length_by : PaddingStrategy → Forest → ℕ
length_by BatchLongest f = longest f
length_by (Fixed n) f = n

-- "rounded up to a multiple"
abbrev pub target_of : PaddingStrategy → ℕ → Forest → ℕ
target_of strategy multiple f = rounded_up (length_by strategy f) multiple

-- ---- The pad text

-- "14 text outside its pool": the pad text ends within a pool of so many bytes
abbrev pub text_inside : PadToken → ℕ → Bool
text_inside token pool = leb (token.text_start + token.text_length) pool

-- ---- The rows of the result

-- the rows of encodings of which none has fewer than the target (`padded_rows_lem`)
abbrev pub rows_with : ℕ → Forest → ℕ
rows_with target none = 0
rows_with target (node r q w x) = max (length r) target + (rows_with target w + rows_with target x)
