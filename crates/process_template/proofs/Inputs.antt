-- The one or two encodings that a template is applied to: where they stand, and whether there is a second.
-- Assumes nothing.
use mathlib.Core.Path.{◌≡◌, refl}
use mathlib.Core.Bool.{Bool, true, false, not, ◌&&◌}
use mathlib.Core.Option.{Option, none as nothing, some}
use mathlib.Core.List.{List, [], ◌∷◌}
use Prim.Native.Nat.{ℕ, ◌*◌}
use native.Mathlib.Omega.{arith}
use lib.Dec.{ltb}
use lib.ListN.{length}
use borrow.Author.Tests.{lt-ltb, le-ltb}
use Rattle.record.specs.Tree.{Encoding, forest}
use Rattle.record.specs.Flat.{row_width, node_width}
use Rattle.record.specs.Standing.{OneOrTwo, spot}
use Rattle.record.proofs.Here.{here_nodes_fit}
use Rattle.record_extent.specs.Size.{size_of}
use Rattle.record_extent.specs.declared.Extent.{Extent}
use Rattle.record_extent.proofs.Pair.{pair_here, first_here, second_here, second_ends}
use Rattle.record.specs.declared.Spot.{Spot}
use Rattle.template_pieces.specs.Piece.{Piece}
use Rattle.template_walk.specs.Sequences.{some_ok, is_b}
use Rattle.process_steps.specs.Applied.{lacks_second}
use Rattle.process_steps.specs.Promises.{Inputs}

-- the second stands where the first ends
pub inputs_of : {nodes rows : List ℕ} {E : Encoding} (second : Option Encoding) → OneOrTwo nodes rows E second → {own : Extent} → own ≡ size_of (forest (E ∷ [])) → Inputs nodes rows (spot (own.nodes * node_width) (own.rows * row_width)) E second
inputs_of nothing h e = record { first_here = first_here nothing h; second_here = second_ends h e }
inputs_of (some F) h e = record { first_here = first_here (some F) h; second_here = second_here (pair_here h) e }

abbrev pub has_second : Option Encoding → Bool
has_second nothing = false
has_second (some F) = true

-- whether there is one is told by its place
pub second_told : {nodes rows : List ℕ} {s : Spot} {E : Encoding} (second : Option Encoding) → Inputs nodes rows s E second → ltb s.node (length nodes) ≡ has_second second
second_told {nodes} {rows} {s} nothing i = le-ltb s.node (length nodes) i.second_here
second_told {nodes} {rows} {s} (some F) i = lt-ltb s.node (length nodes) (omega (arith, here_nodes_fit i.second_here))

pub lacks_told : (second : Option Encoding) (pieces : List Piece) → lacks_second second pieces ≡ (not (has_second second) && some_ok is_b pieces)
lacks_told nothing pieces = refl
lacks_told (some F) pieces = refl
