-- The template that is used where none is set (document 01, module 8).
-- Assumes nothing: these are definitions.
use Rattle.std.specs.Prelude.{Bool, cond, ℕ, List, [], ◌∷◌, Option, Some, None}
use Rattle.std.specs.Borrow.{Bor}
use Rattle.template_text.specs.declared.Which.{Which}
use Rattle.template_text.specs.declared.Which.TheVariants.{Single, Pair}

-- "An unset template is `$0`, or `$A:0 $B:1`."
abbrev pub unset_text : Which → List ℕ
unset_text Single = 36 ∷ 48 ∷ []
unset_text Pair = 36 ∷ 65 ∷ 58 ∷ 48 ∷ 32 ∷ 36 ∷ 66 ∷ 58 ∷ 49 ∷ []

-- the text of a template that is set, also an empty one; else the text for an unset one
abbrev pub text_used : Bool → List ℕ → Which → List ℕ
text_used set text which = cond set text (unset_text which)

-- the text of a template, empty where it is unset, which `text_used` does not look at then
abbrev pub lent_text : Option (Bor (List ℕ)) → List ℕ
lent_text None = []
lent_text (Some text) = text.now

-- which of the two, in a number
abbrev pub which_number : Which → ℕ
which_number Single = 0
which_number Pair = 1
