-- The numbers of the empty encoding, from which a fold goes on.
-- Assumes nothing.
use mathlib.Core.Path.{◌≡◌, ap, ◌∙◌}
use mathlib.Core.List.{List, [], ◌∷◌}
use Prim.Native.Nat.{ℕ}
use native.Mathlib.Omega.{arith}
use lib.ListN.{length, take, drop}
use lib.Seq.{take_all}
use Rattle.record.specs.Tree.{forest, empty}
use Rattle.record.specs.Flat.{node_width, flat_nodes}
use Rattle.record.proofs.Flat.{length_nodes}
use Rattle.join_trees.proofs.Fine.{empty_fine}

pub empty_long : {X : List ℕ} → X ≡ flat_nodes (forest (empty ∷ [])) → length X ≡ node_width
empty_long e = ap length e ∙ length_nodes (forest (empty ∷ [])) empty_fine

pub empty_taken : {X : List ℕ} → X ≡ flat_nodes (forest (empty ∷ [])) → take node_width (drop 0 X) ≡ flat_nodes (forest (empty ∷ []))
empty_taken {X} e = take_all node_width X (omega (arith, empty_long e)) ∙ e
