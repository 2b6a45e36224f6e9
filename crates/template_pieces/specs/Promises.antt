-- What telling why a part has no type gives.
-- Assumes nothing: this is a definition.
use Rattle.std.specs.Prelude.{cond, ℕ, List, leb, length}
use Rattle.record.specs.declared.Why.{Why}
use Rattle.record.specs.declared.Why.TheVariants.{MoreThanOneColon, BadTypeNumber}
use Rattle.template_parts.specs.Parts.{length_to}
use Rattle.template_pieces.specs.Piece.{colon}

-- of what follows the first colon of a part, where it is no number: "colons, type number"
unfoldable pub without_number : List ℕ → Why
without_number rest = cond (leb (length rest) (length_to colon rest)) BadTypeNumber MoreThanOneColon
