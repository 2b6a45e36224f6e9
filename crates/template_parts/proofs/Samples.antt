-- Worked examples of splitting at a space, as one list with one claim over its entries. The first four are those of the
-- standard library's page for `str::split`, with a space for its separator.
-- Assumes nothing.
use mathlib.Core.Path.{◌≡◌, refl}
use Prim.Native.Nat.{ℕ}
use mathlib.Core.List.{List, [], ◌∷◌}
use Rattle.lists.specs.Lists.{All}
use Rattle.template_parts.specs.Split.{split}
use Rattle.template_parts.specs.Parts.{parts}

-- a text and its parts
pub record Sample : Type 0 where
  pub text : List ℕ
  pub split_to : List (List ℕ)

-- `` is one empty part; `  a  b c`; `( )`; ` 1 `; two spaces alone; `$A x`
abbrev pub samples : List Sample
samples =
    record { text = []; split_to = [] ∷ [] }
    ∷ record { text = 32 ∷ 32 ∷ 97 ∷ 32 ∷ 32 ∷ 98 ∷ 32 ∷ 99 ∷ []; split_to = [] ∷ [] ∷ (97 ∷ []) ∷ [] ∷ (98 ∷ []) ∷ (99 ∷ []) ∷ [] }
    ∷ record { text = 40 ∷ 32 ∷ 41 ∷ []; split_to = (40 ∷ []) ∷ (41 ∷ []) ∷ [] }
    ∷ record { text = 32 ∷ 49 ∷ 32 ∷ []; split_to = [] ∷ (49 ∷ []) ∷ [] ∷ [] }
    ∷ record { text = 32 ∷ 32 ∷ []; split_to = [] ∷ [] ∷ [] ∷ [] }
    ∷ record { text = 36 ∷ 65 ∷ 32 ∷ 120 ∷ []; split_to = (36 ∷ 65 ∷ []) ∷ (120 ∷ []) ∷ [] }
    ∷ []

abbrev pub Right : Sample → Type 0
Right s = parts s.text ≡ s.split_to

pub all_right : All Right samples
unfolding split
all_right = (refl, (refl, (refl, (refl, (refl, (refl, tt))))))
