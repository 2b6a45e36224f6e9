-- The row count of the second of two encodings that stand one after another at the front of a record.
-- Assumes nothing.
use mathlib.Core.Path.{◌≡◌}
use mathlib.Core.Option.{Option, none as nothing, some}
use Prim.Native.Nat.{ℕ, ◌*◌}
use native.Mathlib.Omega.{arith}
use mathlib.Core.List.{List, [], ◌∷◌}
use lib.ListN.{length}
use borrow.Author.Tests.{lt-ltb, le-ltb}
use Rattle.record.specs.Tree.{Encoding, forest}
use Rattle.record.specs.Flat.{node_width}
use Rattle.record.specs.Standing.{OneOrTwo}
use Rattle.record.proofs.Here.{here_nodes_fit, here_size}
use Rattle.record_extent.specs.Size.{size_of}
use Rattle.record_extent.specs.declared.Extent.{Extent}
use Rattle.record_extent.proofs.Pair.{pair_here, second_here, second_ends}
use Rattle.cut_lengths.specs.Lengths.{rows_of_second}
use Rattle.truncate_pair.specs.Promises.{second_rows_at}

-- its row count is what stands there
pub second_at : {nodes rows : List ℕ} {E : Encoding} (second : Option Encoding) → OneOrTwo nodes rows E second → {own : Extent} → own ≡ size_of (forest (E ∷ [])) → second_rows_at nodes (own.nodes * node_width) ≡ rows_of_second second
second_at {nodes} {rows} {E} nothing h {own} e = rw (le-ltb (own.nodes * node_width) (length nodes) (second_ends h e))
second_at {nodes} {rows} {E} (some F) h {own} e =
    let there = second_here (pair_here h) e in
    rw (lt-ltb (own.nodes * node_width) (length nodes) (omega (arith, here_nodes_fit there)), here_size there)
