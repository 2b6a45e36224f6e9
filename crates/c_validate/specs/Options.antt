-- The option of the template operations, as it crosses the C interface.
-- Assumes nothing: this is a definition.
use Rattle.std.specs.Prelude.{Bool, true, false}
use Rattle.template_text.specs.declared.Which.{Which}
use Rattle.template_text.specs.declared.Which.TheVariants.{Single, Pair}

-- which of the two templates a text is for
abbrev pub which_of : Bool → Which
which_of true = Pair
which_of false = Single
