-- Small inputs and what is told of them: nothing, an empty batch, one encoding without rows, a file cut short, counts that say too much.
-- Assumes nothing.
use mathlib.Core.Path.{◌≡◌, refl}
use Prim.Native.Nat.{ℕ, ◌*◌}
use mathlib.Core.List.{List, [], ◌∷◌, ◌++◌}
use lib.ListN.{replicate}
use Rattle.record.specs.Flat.{node_width}
use Rattle.record.specs.Read.{read, parse_all, parse, parsed_node, test, then_parsed, checked, several, well_ok, fine_ok, fits_ok, of_any}
use Rattle.record.specs.Flat.{range_at}
use Rattle.record.specs.Walk.{all_rows}
use Rattle.record.specs.declared.Refusal.TheVariants.{MalformedRecord, NoRoom}
use Rattle.words.specs.Words.{word_at}
use Rattle.report_trees.specs.Counts.{how_many}
use Rattle.report_trees.specs.Report.{empty_report, add_answer, totalled}
use Rattle.std.specs.Prelude.{Ok, Err}
use Rattle.report_stored.specs.Stored.{node_words, row_words, stored_batch}
use Rattle.report_held.specs.Input.{first_batch, report_up_to, report_from, report_of}

-- the counts, each a word
abbrev counts : ℕ → ℕ → List ℕ
counts nodes rows = nodes ∷ 0 ∷ 0 ∷ 0 ∷ rows ∷ 0 ∷ 0 ∷ 0 ∷ []

nothing_told : report_of [] ≡ Ok empty_report
unfolding report_of report_from report_up_to
nothing_told = refl

no_encoding_told : report_of (counts 0 0) ≡ Ok empty_report
unfolding report_of report_from report_up_to first_batch word_at node_words row_words stored_batch several read parse_all checked well_ok fine_ok fits_ok add_answer of_any totalled how_many all_rows
no_encoding_told = refl

-- a node of zeros
one_encoding_told : report_of (counts 1 0 ++ replicate (node_width * 4) 0) ≡ Ok (record { encodings = 1; windows = 0; rows = 0; padding = 0; special = 0; rest = 0 })
unfolding report_of report_from report_up_to first_batch word_at node_words row_words stored_batch several read parse_all parse parsed_node test then_parsed checked well_ok fine_ok fits_ok range_at add_answer of_any totalled how_many all_rows
one_encoding_told = refl

cut_told : report_of (counts 1 0) ≡ Err MalformedRecord
unfolding report_of report_from report_up_to first_batch word_at node_words row_words
cut_told = refl

half_a_count_told : report_of (0 ∷ []) ≡ Err MalformedRecord
unfolding report_of report_from report_up_to first_batch
half_a_count_told = refl

-- "2 for a larger batch, once its counts are read", also if nothing follows
too_large_told : report_of (replicate 8 255) ≡ Err NoRoom
unfolding report_of report_from report_up_to first_batch word_at node_words row_words
too_large_told = refl
