-- What converting offsets asks and gives.
-- Assumes nothing: these are definitions.
use Rattle.std.specs.Prelude.{◌≡◌, true, ℕ, ◌+◌, ◌*◌, ◌≤◌, List, length, get_or, set, drop, None}
use Rattle.record.specs.Flat.{row_width, row_at}
use Rattle.record.specs.Read.{several}
use Rattle.chars_text.specs.Characters.{well_formed}
use Rattle.chars_places.specs.declared.Grain.{Grain}
use Rattle.chars_places.specs.Promises.{Tabled}
use Rattle.chars_back.specs.Promises.{BackTabled}
use Rattle.chars_places.specs.Lengths.{text_largest}
use Rattle.chars_stretch.specs.declared.Stretch.{Stretch}
use Rattle.chars_stretch.specs.Promises.{CharsStretched, PlacesStretched}
use Rattle.offsets_trees.specs.declared.Way.{Way}
use Rattle.offsets_trees.specs.declared.Way.TheVariants.{ToCharacters, ToBytes}
use Rattle.offsets_trees.specs.Offsets.{fault_by, row_fault, rows_fault}

-- which table each way needs
abbrev pub TabledBy : Way → List ℕ → List ℕ → Grain → Type 0
TabledBy ToCharacters text table grain = Tabled text table grain
TabledBy ToBytes text table grain = BackTabled text table grain

-- The text is well-formed and not too long, and the table is its table.
pub record TableReady (way : Way) (text table : List ℕ) (grain : Grain) : Type 0 where
  pub well : well_formed text ≡ true
  pub short : length text ≤ text_largest
  pub tabled : TabledBy way text table grain

-- Nothing is wrong with the offset.
pub record Accepted (text table : List ℕ) (grain : Grain) (way : Way) (offset : ℕ) : Type 0 where
  pub ready : TableReady way text table grain
  pub fine : fault_by way text offset ≡ None

-- what a stretch of offsets is, by the way
abbrev pub StretchedBy : Way → List ℕ → Stretch → Type 0
StretchedBy ToCharacters text stretch = CharsStretched text stretch
StretchedBy ToBytes text stretch = PlacesStretched text stretch

-- Nothing is wrong with the row at a place.
pub record RowAccepted (text table : List ℕ) (grain : Grain) (way : Way) (rows : List ℕ) (at : ℕ) : Type 0 where
  pub ready : TableReady way text table grain
  pub inside : at + row_width ≤ length rows
  pub fine : row_fault (fault_by way text) (row_at (drop at rows)) ≡ None

-- Nothing is wrong with so many rows.
pub record RowsAccepted (text table : List ℕ) (grain : Grain) (way : Way) (rows : List ℕ) (count : ℕ) : Type 0 where
  pub ready : TableReady way text table grain
  pub inside : count * row_width ≤ length rows
  pub fine : rows_fault (fault_by way text) (several row_at row_width count rows) ≡ None

-- the rows with the offsets of the one at a place converted
abbrev pub row_converted : (ℕ → ℕ) → List ℕ → ℕ → List ℕ
row_converted convert rows at = set (set rows (at + 7) (convert (get_or rows (at + 7) 0))) (at + 8) (convert (get_or rows (at + 8) 0))
