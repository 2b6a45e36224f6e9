-- The condition on the id is needed: a record with words 2 and 1, range 3 with its first row alone and range 4 with its second,
-- passes, and yet under id 0, which is absent and so looks at all rows, word 1 is not found though the second row carries it.
-- Assumes nothing.
use mathlib.Core.Path.{◌≡◌, refl}
use mathlib.Core.Option.{none as nothing}
use Prim.Native.Nat.{ℕ, ◌-◌}
use native.Mathlib.Omega.{arith}
use mathlib.Core.List.{List, [], ◌∷◌}
use lib.ListN.{replicate}
use Rattle.record.specs.Tree.{Row, Range, Encoding, none, forest, sequences, absent}
use Rattle.record.specs.Flat.{flat_nodes, flat_rows}
use Rattle.record.specs.WellFormed.{WellFormed}
use Rattle.record.specs.Read.{read, fine_ok, fits_ok, well_ok, of_any}
use Rattle.record.specs.Standing.{One}
use Rattle.record.proofs.WellFormed.{tells_well}
use Rattle.record.proofs.Read.{found}
use Rattle.lookup_ranges.specs.First.{first_from, last_from, until}
use Rattle.lookup_ranges.specs.Ranges.{sequence_range, present}
use Rattle.lookup_search.specs.Searches.{word_rows}
use Rattle.lookup_words.specs.Words.{word_to_tokens}
use Rattle.profile_trees.specs.Rules.{has_windows, holders, in_two, last_word, falls_from, word_falls}
use Rattle.profile_trees.specs.Profile.{batch_nodes, rows_from, node_rows, first_row, first_break, first_broken, profile_answer}
use Rattle.std.specs.Prelude.{Ok, None}
use Rattle.profile_words.specs.Lookup.{Carries, FindsWord}

row : ℕ → Row
row word = record { id = 0; type_id = 0; pool = 0; text_start = 0; text_length = 0; word_mark = 1; word = word; offset_start = 0; offset_end = 0; special = 0; attention = 1 }

range : ℕ → ℕ → Range
range from to = record { present = 1; start = from; end = to }

two : Encoding
two = record { rows = row 2 ∷ row 1 ∷ []; ranges = absent ∷ absent ∷ absent ∷ range 0 1 ∷ range 1 2 ∷ replicate (sequences - 5) absent; below = none }

-- it is well-formed
well : WellFormed (forest (two ∷ []))
unfolding row range two well_ok fine_ok fits_ok
well = (tells_well (forest (two ∷ []))).so refl

stored : One (flat_nodes (forest (two ∷ []))) (flat_rows (forest (two ∷ []))) two
stored = record { stores = record { nodes_are = refl; rows_are = refl; well = well } }

-- no rule is broken
unbroken : first_broken (forest (two ∷ [])) ≡ nothing
unfolding row range two first_broken batch_nodes rows_from node_rows first_row first_break has_windows holders in_two last_word falls_from word_falls present
unbroken = refl

passes : profile_answer (read (flat_nodes (forest (two ∷ []))) (flat_rows (forest (two ∷ [])))) ≡ Ok None
unfolding profile_answer of_any
passes = rw (found _ _ (forest (two ∷ [])) stored.stores, unbroken)

-- word 1 is not found under id 0
not_found : word_to_tokens two 1 0 ≡ nothing
unfolding row range two word_to_tokens word_rows sequence_range first_from last_from until
not_found = refl

-- and the second row carries it
carried : Carries two 1 0 1
unfolding row range two sequence_range
carried = record { from = omega arith; to = omega arith; carried = refl }

pub not_under_every_id : ((nodes rows : List ℕ) (E : Encoding) → One nodes rows E → profile_answer (read nodes rows) ≡ Ok None → (word id : ℕ) → FindsWord E word id) → ⊥
not_under_every_id finds = (finds (flat_nodes (forest (two ∷ []))) (flat_rows (forest (two ∷ []))) two stored passes 1 0).nothing_carried not_found 1 carried
