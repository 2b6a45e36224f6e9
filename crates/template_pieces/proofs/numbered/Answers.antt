-- `numbered` meets its contract. Assumes nothing.
use mathlib.Core.Path.{ap, sym, ◌∙◌}
use mathlib.Core.Option.{Option, map}
use Prim.Native.Nat.{ℕ}
use Rattle.template_pieces.specs.Piece.{sequence_a, by_name, piece_answer}
use Rattle.std.specs.Prelude.{Result}
use Rattle.record.specs.declared.Why.{Why}
use Rattle.template_pieces.specs.declared.Piece.{Piece}
use Rattle.template_pieces.proofs.Colons.{number_none, number_some}
use Rattle.template_pieces.proofs.numbered.Goals as goal

-- what a number makes of a name
abbrev named_by : Option ℕ → Result Piece Why
named_by number = piece_answer (by_name (map sequence_a number))

pub returns-in_default : goal.returns-in_default
unfolding piece_answer
returns-in_default c = ap named_by (sym (number_none _ (sym c.read_number.ensures ∙ c.in_default.is)))

pub returns : goal.returns
unfolding piece_answer
returns c = ap named_by (sym (number_some _ (sym c.read_number.ensures ∙ c.in-Some.is)))
