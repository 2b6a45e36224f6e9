-- What a cut makes of an encoding's rows (document 01, "Truncate").
-- Assumes nothing: these are definitions.
use Rattle.std.specs.Prelude.{◌-◌, List, [], ◌∷◌, take, drop, replicate}
use Rattle.record.specs.Tree.{Row, Encoding, encoding, empty, sequences, absent}
use Rattle.record.specs.declared.Bounds.{Bounds}

-- an encoding without ranges
abbrev pub plain : List Row → List Encoding → Encoding
plain r ws = encoding r (replicate sequences absent) ws

-- a stretch of rows, as an encoding: "ranges and old windows are dropped"
abbrev pub stretch_of : List Row → Bounds → Encoding
stretch_of r b = plain (take (b.end - b.start) (drop b.start r)) []

-- "The first becomes the encoding, the others its windows in that order."
abbrev pub gathered : List Encoding → Encoding
gathered [] = empty
gathered (E ∷ Es) = encoding E.rows E.ranges Es
