-- What writing two cut encodings asks and gives.
-- Assumes nothing: these are definitions.
use Rattle.std.specs.Prelude.{◌≡◌, false, ℕ, ◌+◌, ◌*◌, ◌≤◌, List, [], ◌∷◌, length}
use Rattle.record.specs.Tree.{Encoding, forest}
use Rattle.record.specs.Flat.{row_width, node_width}
use Rattle.record.specs.Standing.{Here, Put}
use Rattle.cut_plan.specs.declared.Direction.{Direction}
use Rattle.record_extent.specs.Size.{size_of}
use Rattle.record_extent.specs.declared.Extent.{Extent}
use Rattle.truncate_size.specs.Size.{size_after, stride_refused}
use Rattle.truncate_write.specs.Truncated.{truncated}

-- E and F stand at the front, hold `own` and `other`, neither cut is refused, and E holds `kept` once it is cut
pub record Two (nodes rows : List ℕ) (own other kept : Extent) (n m stride : ℕ) (E F : Encoding) : Type 0 where
  pub here : Here nodes rows 0 0 (forest (E ∷ F ∷ []))
  pub own_is : own ≡ size_of (forest (E ∷ []))
  pub other_is : other ≡ size_of (forest (F ∷ []))
  pub kept_is : kept ≡ size_after (length E.rows) n stride own
  pub taken : stride_refused (length E.rows) n stride ≡ false
  pub other_taken : stride_refused (length F.rows) m stride ≡ false

-- and there is room for both
pub record AskTwo (nodes rows : List ℕ) (own other kept : Extent) (n m stride : ℕ) (nodes' rows' : List ℕ) : Type 0 where
  pub E : Encoding
  pub F : Encoding
  pub two : Two nodes rows own other kept n m stride E F
  pub nodes_fit : (kept.nodes + (size_after (length F.rows) m stride other).nodes) * node_width ≤ length nodes'
  pub rows_fit : (kept.rows + (size_after (length F.rows) m stride other).rows) * row_width ≤ length rows'

-- whatever two stand there, they were written cut, one after the other
abbrev pub MakesTwo : List ℕ → List ℕ → Extent → Extent → Extent → ℕ → ℕ → ℕ → Direction → List ℕ → List ℕ → List ℕ → List ℕ → Type 0
MakesTwo nodes rows own other kept n m stride d nodes₀ rows₀ nodes₁ rows₁ =
    (E F : Encoding) → Two nodes rows own other kept n m stride E F → Put (truncated n stride d E ∷ truncated m stride d F ∷ []) nodes₀ 0 rows₀ 0 nodes₁ rows₁
