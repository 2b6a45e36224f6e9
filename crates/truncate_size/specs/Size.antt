-- Whether a cut is refused, and how much an encoding holds once it is cut (document 01, "Truncate").
-- Assumes nothing: these are definitions.
use Rattle.std.specs.Prelude.{ℕ, ◌+◌, ◌*◌, ◌-◌, Bool, ◌&&◌, leb, ltb}
use Rattle.cut_plan.specs.Cut.{decision_of}
use Rattle.cut_plan.specs.declared.Decision.{Decision}
use Rattle.cut_plan.specs.declared.Decision.TheVariants.{Whole, Emptied, StrideRefused, Windows}
use Rattle.record_extent.specs.Size.{extent}
use Rattle.record_extent.specs.declared.Extent.{Extent}

-- "3 exactly if 0 < max < row count and stride ≥ max"
abbrev pub stride_refused : ℕ → ℕ → ℕ → Bool
stride_refused rows max stride = ltb 0 max && (ltb max rows && leb max stride)

-- how much an encoding of n rows, which holds `own`, holds once it is cut, by the decision on it
abbrev pub size_cut : Decision → ℕ → ℕ → Extent → Extent
size_cut Whole n stride own = own
size_cut Emptied n stride own = extent (own.nodes + 1) own.rows (own.levels + 1)
size_cut StrideRefused n stride own = own
size_cut (Windows count) n stride own = extent count (n + (count - 1) * stride) 2

abbrev pub size_after : ℕ → ℕ → ℕ → Extent → Extent
size_after n max stride own = size_cut (decision_of n max stride) n stride own
