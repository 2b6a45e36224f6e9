-- Two encodings that are alike save for order.
-- Assumes nothing: these are definitions.
use Rattle.std.specs.Prelude.{◌≡◌, List, [], ◌∷◌, ◌++◌}
use Rattle.record.specs.Tree.{Forest, none, node, Encoding, windows}

-- "their direct windows pair off one to one, none left over, each pair alike save for order in turn": each of the
-- first's in turn is alike to one of the second's, which is taken out.
abbrev pub PairOff : Forest → List Encoding → Type 0
PairOff none vs = vs ≡ []
PairOff (node r q w x) vs =
    (before : List Encoding) × (v : Encoding) × (after : List Encoding) × (vs ≡ before ++ v ∷ after) × ((r ≡ v.rows) × (q ≡ v.ranges) × PairOff w (windows v)) × PairOff x (before ++ after)

-- "Two encodings are alike save for order if their own rows and ranges are equal and their direct windows pair off"
abbrev pub Alike : Encoding → Encoding → Type 0
Alike E F = (E.rows ≡ F.rows) × (E.ranges ≡ F.ranges) × PairOff E.below (windows F)
