-- Worked examples of reading templates, a list with one claim over its entries; document 01's own stand in crate samples.
-- Assumes nothing.
use mathlib.Core.Path.{◌≡◌, refl}
use Prim.Native.Nat.{ℕ}
use mathlib.Core.List.{List, [], ◌∷◌, flat_map}
use lib.ListN.{replicate}
use Rattle.lists.specs.Lists.{All}
use Rattle.record.specs.declared.Refusal.TheVariants.{TemplateTooLong}
use Rattle.lines.specs.Decimal.{decimal_after}
use Rattle.template_parts.specs.Split.{split}
use Rattle.template_numbers.specs.Number.{after_sign, read_number}
use Rattle.template_pieces.specs.Piece.{same, sequence_of, named, piece_typed, read_part}
use Rattle.template_text.specs.Template.{read_parts, unread, read_template, reading_numbers}
use Rattle.template_text.proofs.Answers.{template_long}

-- What reading a text says, as numbers, and what the sample says.
pub record Sample : Type 0 where
  pub said : List ℕ
  pub expected : List ℕ

abbrev sample : List ℕ → List ℕ → Sample
sample text expected = record { said = reading_numbers (read_template text); expected = expected }

abbrev pub examples : List Sample
examples =
    -- the largest type; leading zeros; a sign alone, no number, and a sign after digits are none
    sample (36 ∷ 52 ∷ 50 ∷ 57 ∷ 52 ∷ 57 ∷ 54 ∷ 55 ∷ 50 ∷ 57 ∷ 53 ∷ []) (0 ∷ 0 ∷ 4294967295 ∷ 0 ∷ 0 ∷ [])
    ∷ sample (36 ∷ 66 ∷ 58 ∷ 48 ∷ 48 ∷ 55 ∷ []) (0 ∷ 1 ∷ 7 ∷ 0 ∷ 0 ∷ [])
    ∷ sample (120 ∷ 58 ∷ 43 ∷ []) (20 ∷ 0 ∷ 0 ∷ [])
    ∷ sample (120 ∷ 58 ∷ []) (20 ∷ 0 ∷ 0 ∷ [])
    ∷ sample (36 ∷ 49 ∷ 43 ∷ []) (21 ∷ 0 ∷ 0 ∷ [])
    -- inside a part colons, type number, sequence name: `$x:1:1`, `$x:y`, `$x:1`; `::`, `:`, `$:`
    ∷ sample (36 ∷ 120 ∷ 58 ∷ 49 ∷ 58 ∷ 49 ∷ []) (19 ∷ 0 ∷ 0 ∷ [])
    ∷ sample (36 ∷ 120 ∷ 58 ∷ 121 ∷ []) (20 ∷ 0 ∷ 0 ∷ [])
    ∷ sample (36 ∷ 120 ∷ 58 ∷ 49 ∷ []) (21 ∷ 0 ∷ 0 ∷ [])
    ∷ sample (58 ∷ 58 ∷ []) (19 ∷ 0 ∷ 0 ∷ [])
    ∷ sample (58 ∷ []) (20 ∷ 0 ∷ 0 ∷ [])
    ∷ sample (36 ∷ 58 ∷ []) (20 ∷ 0 ∷ 0 ∷ [])
    -- an empty part counts, `a  $C`; the first part at fault decides, `x: a:b:c`
    ∷ sample (97 ∷ 32 ∷ 32 ∷ 36 ∷ 67 ∷ []) (21 ∷ 2 ∷ 3 ∷ [])
    ∷ sample (120 ∷ 58 ∷ 32 ∷ 97 ∷ 58 ∷ 98 ∷ 58 ∷ 99 ∷ []) (20 ∷ 0 ∷ 0 ∷ [])
    -- the letters, and a type that replaces one
    ∷ sample (36 ∷ 32 ∷ 36 ∷ 65 ∷ 32 ∷ 36 ∷ 97 ∷ 32 ∷ 36 ∷ 66 ∷ 32 ∷ 36 ∷ 98 ∷ []) (0 ∷ 0 ∷ 0 ∷ 0 ∷ 0 ∷ 0 ∷ 0 ∷ 0 ∷ 0 ∷ 0 ∷ 0 ∷ 0 ∷ 0 ∷ 1 ∷ 0 ∷ 0 ∷ 0 ∷ 1 ∷ 0 ∷ 0 ∷ 0 ∷ [])
    ∷ sample (36 ∷ 53 ∷ 58 ∷ 54 ∷ []) (0 ∷ 0 ∷ 6 ∷ 0 ∷ 0 ∷ [])
    -- no text is an empty special id; two spaces hold one between them
    ∷ sample ([]) (0 ∷ 2 ∷ 0 ∷ 0 ∷ 0 ∷ [])
    ∷ sample (97 ∷ 98 ∷ 32 ∷ 32 ∷ 99 ∷ 58 ∷ 50 ∷ []) (0 ∷ 2 ∷ 0 ∷ 0 ∷ 2 ∷ 2 ∷ 0 ∷ 3 ∷ 0 ∷ 2 ∷ 2 ∷ 4 ∷ 1 ∷ [])
    ∷ []

abbrev pub Right : Sample → Type 0
Right s = s.said ≡ s.expected

pub all_right : All Right examples
unfolding split decimal_after after_sign read_number same sequence_of named piece_typed read_part read_parts read_template flat_map
all_right = (refl, (refl, (refl, (refl, (refl, (refl, (refl, (refl, (refl, (refl, (refl, (refl, (refl, (refl, (refl, (refl, (refl, tt)))))))))))))))))

-- `$C` and 64 spaces are 65 parts, which give 8 although one cannot be read
pub many_parts : read_template (36 ∷ 67 ∷ replicate 64 32) ≡ unread TemplateTooLong
unfolding split
many_parts = template_long (36 ∷ 67 ∷ replicate 64 32) refl
