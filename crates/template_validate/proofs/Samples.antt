-- Worked examples of validation and counting, as one list with one claim over its entries. Assumes nothing.
use mathlib.Core.Path.{◌≡◌, refl}
use mathlib.Core.Bool.{Bool, true, false}
use Prim.Native.Nat.{ℕ}
use mathlib.Core.List.{List, [], ◌∷◌}
use Rattle.lists.specs.Lists.{All}
use Rattle.record.specs.Read.{several}
use Rattle.lookup_ranges.specs.First.{last_from}
use Rattle.lines.specs.Decimal.{decimal_after}
use Rattle.template_parts.specs.Split.{split}
use Rattle.template_numbers.specs.Number.{after_sign, read_number}
use Rattle.template_pieces.specs.Piece.{same, sequence_of, named, piece_typed, read_part}
use Rattle.template_text.specs.Template.{read_parts, read_template}
use Rattle.template_entries.specs.Table.{Table, entry_at, member_at, entries_in, members_in, well_made, read_table}
use Rattle.template_find.specs.Last.{last_with}
use Rattle.template_text.specs.declared.Which.TheVariants.{Single, Pair}
use Rattle.template_text.specs.Used.{text_used}
use Rattle.template_validate.specs.Validation.{Validation, refused_in, validity, validity_refusal, validity_fault}
use Rattle.template_walk.specs.Counting.{added, added_by, added_answer, count_told}
use Rattle.template_known.specs.Known.{known, known_answer}

-- Two entries with the id `x`, of one member and of two; both ids lie in the pool `xx`.
abbrev table : Table
table = read_table (0 ∷ 1 ∷ 0 ∷ 1 ∷ 1 ∷ 1 ∷ 1 ∷ 0 ∷ 2 ∷ 2 ∷ []) (7 ∷ 0 ∷ 1 ∷ 8 ∷ 1 ∷ 1 ∷ []) (120 ∷ 120 ∷ [])

-- what a definition says, and what it is to say
pub record Sample : Type 0 where
  pub said : List ℕ
  pub expected : List ℕ

-- the refusal, and the template and its part at fault if they are told
abbrev validation_numbers : Validation → List ℕ
validation_numbers v = validity_refusal v ∷ validity_fault [] v

abbrev validated : Bool → List ℕ → Bool → List ℕ → List ℕ → Sample
validated single_set single pair_set pair expected = record { said = validation_numbers (validity table (read_template (text_used single_set single Single)) (read_template (text_used pair_set pair Pair))); expected = expected }

abbrev counted : Bool → List ℕ → ℕ → Sample
counted set text expected = record { said = count_told (added_answer table (read_template (text_used set text Single))) ∷ []; expected = expected ∷ [] }

abbrev pub samples : List Sample
samples =
    -- unset templates are valid; an empty one that is set is an unknown id
    validated false [] false [] (0 ∷ [])
    ∷ validated true [] false [] (10 ∷ [])
    -- `x $A`; `y`; a pair without B; 21 of the single, `$C`, before 9 of the pair
    ∷ validated true (120 ∷ 32 ∷ 36 ∷ 65 ∷ []) false [] (0 ∷ [])
    ∷ validated true (121 ∷ []) false [] (10 ∷ [])
    ∷ validated false [] true (36 ∷ 65 ∷ []) (9 ∷ [])
    ∷ validated true (36 ∷ 67 ∷ []) true (36 ∷ 65 ∷ []) (21 ∷ 0 ∷ 0 ∷ 0 ∷ [])
    -- the pair `$A a:b:1`, after a single that is not set, and after one at fault, `x x:`
    ∷ validated false [] true (36 ∷ 65 ∷ 32 ∷ 97 ∷ 58 ∷ 98 ∷ 58 ∷ 49 ∷ []) (19 ∷ 1 ∷ 1 ∷ 3 ∷ [])
    ∷ validated true (120 ∷ 32 ∷ 120 ∷ 58 ∷ []) true (36 ∷ 65 ∷ 32 ∷ 97 ∷ 58 ∷ 98 ∷ 58 ∷ 49 ∷ []) (20 ∷ 0 ∷ 1 ∷ 2 ∷ [])
    -- of equal ids the last counts: `x $A x` adds 4, `y` and an unset template add none
    ∷ counted true (120 ∷ 32 ∷ 36 ∷ 65 ∷ 32 ∷ 120 ∷ []) 4
    ∷ counted true (121 ∷ []) 0
    ∷ counted false (120 ∷ []) 0
    ∷ []

abbrev pub Right : Sample → Type 0
Right s = s.said ≡ s.expected

pub all_right : All Right samples
unfolding several last_from decimal_after split after_sign read_number same sequence_of named piece_typed read_part read_parts read_template entry_at member_at entries_in members_in well_made read_table last_with known known_answer refused_in validity added added_by added_answer
all_right = (refl, (refl, (refl, (refl, (refl, (refl, (refl, (refl, (refl, (refl, (refl, tt)))))))))))
