-- What the functions that write a cut encoding ask and give.
-- Assumes nothing: these are definitions.
use Rattle.std.specs.Prelude.{◌≡◌, false, ℕ, ◌+◌, ◌*◌, ◌≤◌, List, [], ◌∷◌, length}
use Rattle.record.specs.Tree.{Encoding, forest}
use Rattle.record.specs.Flat.{row_width, node_width}
use Rattle.record.specs.Standing.{Here, Put}
use Rattle.record_extent.specs.Size.{size_of}
use Rattle.record_extent.specs.declared.Extent.{Extent}
use Rattle.truncate_size.specs.Size.{stride_refused, size_after}

-- whatever encoding stands there and holds `own`, what `make` makes of it was written from a and b on
abbrev pub Makes : (Encoding → Encoding) → List ℕ → List ℕ → ℕ → ℕ → Extent → List ℕ → ℕ → List ℕ → ℕ → List ℕ → List ℕ → Type 0
Makes make nodes rows i j own nodes₀ a rows₀ b nodes₁ rows₁ = (E : Encoding) → Here nodes rows i j (forest (E ∷ [])) → own ≡ size_of (forest (E ∷ [])) → Put (make E ∷ []) nodes₀ a rows₀ b nodes₁ rows₁

-- an encoding that holds `own` stands there, and from a and b on there is room for it
pub record AskCopy (nodes rows : List ℕ) (i j : ℕ) (own : Extent) (nodes' : List ℕ) (a : ℕ) (rows' : List ℕ) (b : ℕ) : Type 0 where
  pub E : Encoding
  pub here : Here nodes rows i j (forest (E ∷ []))
  pub measured : own ≡ size_of (forest (E ∷ []))
  pub nodes_fit : a + own.nodes * node_width ≤ length nodes'
  pub rows_fit : b + own.rows * row_width ≤ length rows'

-- an encoding that holds `own` stands there, its cut is not refused, and from a and b on there is room for what it makes
pub record AskTruncating (nodes rows : List ℕ) (i j : ℕ) (own : Extent) (max stride : ℕ) (nodes' : List ℕ) (a : ℕ) (rows' : List ℕ) (b : ℕ) : Type 0 where
  pub E : Encoding
  pub here : Here nodes rows i j (forest (E ∷ []))
  pub measured : own ≡ size_of (forest (E ∷ []))
  pub taken : stride_refused (length E.rows) max stride ≡ false
  pub nodes_fit : a + (size_after (length E.rows) max stride own).nodes * node_width ≤ length nodes'
  pub rows_fit : b + (size_after (length E.rows) max stride own).rows * row_width ≤ length rows'
