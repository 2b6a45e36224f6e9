-- What is written for S and P, seen through a view.
-- Assumes nothing: these are definitions.
use Rattle.std.specs.Prelude.{Bool}
use mathlib.Core.List.{List, [], ◌∷◌, ◌++◌, map, flat_map}
use Rattle.record.specs.Tree.{Encoding, windows}
use Rattle.join_trees.specs.Join.{join}
use Rattle.join_view.specs.declared.View.{View}
use Rattle.join_view.specs.View.{seen}

-- their join
abbrev pub joined : View → Bool → Encoding → Encoding → List Encoding
joined v g S P = join g S (seen v P) ∷ []

-- "S with each p"
abbrev pub rowed : View → Bool → Encoding → Encoding → List Encoding
rowed v g S P = map (join g S) (windows (seen v P))

-- "for each s of S, s with P, then s with each p of P; after these S with each p"
abbrev pub windowed : View → Bool → Encoding → Encoding → List Encoding
windowed v g S P = flat_map (λ s. join g s (seen v P) ∷ rowed v g s P) (windows S) ++ rowed v g S P
