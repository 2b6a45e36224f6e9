-- Where encodings stand in the two lists, and that they were written there.
-- Assumes nothing: these are definitions.
use Rattle.std.specs.Prelude.{◌≡◌, ℕ, ◌≤◌, length, drop}
use Rattle.std.proofs.Math.Option.{Option, none as nothing, some}
use mathlib.Core.List.{List, [], ◌∷◌, ◌++◌, flat_map}
use Rattle.std.proofs.lemmas.List.Edits.{sets}
use Rattle.record.specs.Tree.{Row, Forest, Encoding, forest}
use Rattle.record.specs.Flat.{row_numbers, flat_nodes, flat_rows}
use Rattle.record.specs.WellFormed.{WellFormed, Stores}
use Rattle.record.specs.declared.Spot.{Spot}

abbrev pub spot : ℕ → ℕ → Spot
spot i j = record { node = i; row = j }

-- The nodes from place i on begin with f's, and so do the rows from place j on.
pub record At (nodes rows : List ℕ) (i j : ℕ) (f : Forest) : Type 0 where
  pub rest : List ℕ
  pub is : drop i nodes ≡ flat_nodes f ++ rest
  pub rest_rows : List ℕ
  pub is_rows : drop j rows ≡ flat_rows f ++ rest_rows

-- The two lists store the one encoding E.
pub record One (nodes rows : List ℕ) (E : Encoding) : Type 0 where
  pub stores : Stores nodes rows (forest (E ∷ []))

-- An encoding, and after it the second, if there is one.
abbrev pub with_second : Encoding → Option Encoding → List Encoding
with_second E nothing = E ∷ []
with_second E (some F) = E ∷ F ∷ []

-- The two lists store the encoding E and after it the second, if there is one.
pub record OneOrTwo (nodes rows : List ℕ) (E : Encoding) (second : Option Encoding) : Type 0 where
  pub stores : Stores nodes rows (forest (with_second E second))

-- The rows from place j on begin with R.
pub record RowsAt (rows : List ℕ) (j : ℕ) (R : List Row) : Type 0 where
  pub rest : List ℕ
  pub is : drop j rows ≡ flat_map row_numbers R ++ rest

-- The encodings f, well-formed, stand at places i and j.
pub record Here (nodes rows : List ℕ) (i j : ℕ) (f : Forest) : Type 0 where
  pub at : At nodes rows i j f
  pub on : j ≤ length rows
  pub well : WellFormed f

-- The encodings fs were written from places a and b on; every other number is as it was.
pub record Put (fs : List Encoding) (nodes : List ℕ) (a : ℕ) (rows : List ℕ) (b : ℕ) (nodes' rows' : List ℕ) : Type 0 where
  pub nodes_put : nodes' ≡ sets nodes a (flat_nodes (forest fs))
  pub rows_put : rows' ≡ sets rows b (flat_rows (forest fs))
