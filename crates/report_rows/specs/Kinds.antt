-- What counting the kinds of rows gives.
-- Assumes nothing: this is a definition.
use Rattle.std.specs.Prelude.{List}
use Rattle.record.specs.Tree.{Row}
use Rattle.report_trees.specs.Counts.{how_many, is_padding, is_special, is_rest}
use Rattle.report_rows.specs.declared.Kinds.{Kinds}

abbrev pub kinds_of : List Row → Kinds
kinds_of R = record { padding = how_many is_padding R; special = how_many is_special R; rest = how_many is_rest R }
