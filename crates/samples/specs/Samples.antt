-- Document 01's starred samples, all of them, seven as document 02 changes them: one list, over the definitions that the operations promise.
-- Assumes nothing: these are definitions. That every entry holds is `hold` of proofs/Hold.
use Rattle.std.specs.Prelude.{◌≡◌, ℕ, ◌*◌, Bool, true, false, replicate, set, Result, Some}
use Rattle.std.proofs.Math.Option.{Option, none as nothing, some}
use Prim.Native.String.{String}
use mathlib.Core.List.{List, [], ◌∷◌, ◌++◌, map, flat_map}
use Rattle.record.specs.Tree.{Row, Forest, Encoding, encoding, forest, sequences, absent}
use Rattle.lookup_ranges.specs.Ranges.{get_sequence_ids}
use Rattle.lookup_holding.specs.Holding.{Placed, token_to_sequence}
use Rattle.record.specs.declared.Bounds.{Bounds, Bounds as Stretch}
use Rattle.lookup_words.specs.Words.{word_to_tokens}
use Rattle.record.specs.Flat.{row_width, node_width, flat_nodes, flat_rows}
use Rattle.record.specs.WellFormed.{nodes_in}
use Rattle.record.specs.Refusals.{number_of}
use Rattle.record.specs.declared.Refusal.{Refusal}
use Rattle.record.specs.Outcome.{Outcome, refused, done, refusal_of}
use Rattle.cut_plan.specs.Cut.{windows_of}
use Rattle.pair_lengths.specs.Lengths.{pair_lengths, lengths_or}
use Rattle.pair_lengths.specs.declared.PairLengths.{PairLengths}
use Rattle.cut_plan.specs.declared.Direction.TheVariants.{Left, Right}
use Rattle.cut_lengths.specs.declared.Strategy.TheVariants.{LongestFirst}
use Rattle.cut_windows.specs.Made.{plain}
use Rattle.truncate.specs.Truncate.{cut_outcome}
use Rattle.join_trees.specs.Join.{join}
use Rattle.listing_text.specs.Text.{bytes}
use Rattle.template_text.specs.Template.{read_template, reading_numbers}
use Rattle.join_trees.specs.Samples.{sample_s, sample_p, sample_q, spelled_windows}

-- What a definition says of an input, as numbers, and what the sample says.
pub record Sample : Type 0 where
  pub said : List ℕ
  pub expected : List ℕ

abbrev sample : List ℕ → List ℕ → Sample
sample said expected = record { said = said; expected = expected }

-- ---- Inputs

-- a row with a word
abbrev word_row : ℕ → Row
word_row w = record { id = 0; type_id = 0; pool = 0; text_start = 0; text_length = 0; word_mark = 1; word = w; offset_start = 0; offset_end = 0; special = 0; attention = 1 }

-- an encoding of these words, without ranges or windows
abbrev pub worded : List ℕ → Encoding
worded ws = encoding (map word_row ws) (replicate sequences absent) []

-- three rows and one range
abbrev pub ranged : ℕ → ℕ → ℕ → Encoding
ranged id start end = encoding (map word_row (0 ∷ 0 ∷ 0 ∷ [])) (set (replicate sequences absent) id (record { present = 1; start = start; end = end })) []

-- 10 rows, each with its number as its id
abbrev id_row : ℕ → Row
id_row n = record { id = n; type_id = 0; pool = 0; text_start = 0; text_length = 0; word_mark = 0; word = 0; offset_start = 0; offset_end = 0; special = 0; attention = 1 }

abbrev pub ten : Encoding
ten = plain (map id_row (0 ∷ 1 ∷ 2 ∷ 3 ∷ 4 ∷ 5 ∷ 6 ∷ 7 ∷ 8 ∷ 9 ∷ [])) []

-- ---- Answers as numbers: nothing is the empty list

abbrev pub bounds_numbers : Option Bounds → List ℕ
bounds_numbers nothing = []
bounds_numbers (some b) = b.start ∷ b.end ∷ []

-- a sequence, and the place of a row in it
abbrev pub placed_numbers : Option Placed → List ℕ
placed_numbers nothing = []
placed_numbers (some p) = p.sequence ∷ p.place ∷ []

-- the letters of an encoding's direct windows, a 0 before each: S, P, Q are 1, 2, 3 and their windows c, d, e (in the
-- first sample s, p) 11, 12, 13
abbrev pub spelled_out : Encoding → List ℕ
spelled_out E = flat_map (λ (w : List ℕ). 0 ∷ w) (spelled_windows E)

-- the first row of each window and the row after its last
abbrev pub stretches : List Stretch → List ℕ
stretches bs = flat_map (λ (b : Stretch). b.start ∷ b.end ∷ []) bs

-- the number of a refusal; or 0, there being none, and what `said` tells of the encodings that were made
abbrev pub outcome_numbers : (Forest → List ℕ) → Outcome → List ℕ
outcome_numbers said (refused k) = number_of k ∷ []
outcome_numbers said (done f) = 0 ∷ said f

-- how many nodes the encodings have
abbrev pub node_count : Forest → List ℕ
node_count f = nodes_in f ∷ []

-- all numbers of the encodings
abbrev pub flat : Forest → List ℕ
flat f = flat_nodes f ++ flat_rows f

-- of each of a pair whether it is cut and the rows it keeps, after 0; or the number of a refusal
abbrev pub lengths_numbers : Result PairLengths Refusal → List ℕ
lengths_numbers l = refusal_of l ∷ lengths_or [] l

-- ---- The list

abbrev pub lookup_samples : List Sample
lookup_samples =
    -- "Words 1, 3, 1: word 1 is rows 0 to 1, end not included."
    sample (bounds_numbers (word_to_tokens (worded (1 ∷ 3 ∷ 1 ∷ [])) 1 0)) (0 ∷ 1 ∷ [])
    -- "3 rows, only range id 1, start 0, end 2: row 0 is in 1, row 2 in none, the sequence column is 0, 0, 0."; row 0 at place
    -- 0 (document 02)
    ∷ sample (placed_numbers (token_to_sequence (ranged 1 0 2) 0)) (1 ∷ 0 ∷ [])
    ∷ sample (placed_numbers (token_to_sequence (ranged 1 0 2) 2)) []
    ∷ sample (get_sequence_ids (ranged 1 0 2)) (1 ∷ 0 ∷ 1 ∷ 0 ∷ 1 ∷ 0 ∷ [])
    ∷ []

-- with growing offsets or without
abbrev pub join_samples : Bool → List Sample
join_samples growing =
    -- "S with window s, P with window p: windows sP, sp, Sp, six nodes in all."
    sample (spelled_out (join growing sample_s sample_p)) (0 ∷ 11 ∷ 2 ∷ 0 ∷ 11 ∷ 12 ∷ 0 ∷ 1 ∷ 12 ∷ [])
    ∷ sample (nodes_in (forest (join growing sample_s sample_p ∷ [])) ∷ []) (6 ∷ [])
    -- "One window each, c, d, e, of S, P, Q. S with P first: cPQ, cPe, cdQ, cde, SdQ, Sde, SPe."
    ∷ sample (spelled_out (join growing (join growing sample_s sample_p) sample_q))
    (0 ∷ 11 ∷ 2 ∷ 3 ∷ 0 ∷ 11 ∷ 2 ∷ 13 ∷ 0 ∷ 11 ∷ 12 ∷ 3 ∷ 0 ∷ 11 ∷ 12 ∷ 13 ∷ 0 ∷ 1 ∷ 12 ∷ 3 ∷ 0 ∷ 1 ∷ 12 ∷ 13 ∷ 0 ∷ 1 ∷ 2 ∷ 13 ∷ [])
    -- "P with Q first: cPQ, cdQ, cde, cPe, SdQ, Sde, SPe."
    ∷ sample (spelled_out (join growing sample_s (join growing sample_p sample_q)))
    (0 ∷ 11 ∷ 2 ∷ 3 ∷ 0 ∷ 11 ∷ 12 ∷ 3 ∷ 0 ∷ 11 ∷ 12 ∷ 13 ∷ 0 ∷ 11 ∷ 2 ∷ 13 ∷ 0 ∷ 1 ∷ 12 ∷ 3 ∷ 0 ∷ 1 ∷ 12 ∷ 13 ∷ 0 ∷ 1 ∷ 2 ∷ 13 ∷ [])
    ∷ []

-- an output with room for eighty nodes or rows
abbrev room : ℕ → List ℕ
room width = replicate (width * 80) 0

-- the ten rows cut from the right
abbrev pub cut_ten : ℕ → ℕ → Outcome
cut_ten max stride = cut_outcome (room node_width) (room row_width) max stride Right ten

abbrev pub cut_samples : List Sample
cut_samples =
    -- "10 rows, max 4, stride 1: right as above; left 6–10, 3–7, 0–4."
    sample (stretches (windows_of 10 4 1 Right)) (0 ∷ 4 ∷ 3 ∷ 7 ∷ 6 ∷ 10 ∷ [])
    ∷ sample (stretches (windows_of 10 4 1 Left)) (6 ∷ 10 ∷ 3 ∷ 7 ∷ 0 ∷ 4 ∷ [])
    -- "9 rows, max 4, stride 1, left: 5–9, 2–6, 0–3."
    ∷ sample (stretches (windows_of 9 4 1 Left)) (5 ∷ 9 ∷ 2 ∷ 6 ∷ 0 ∷ 3 ∷ [])
    -- "10 rows, max 4: stride 4 gives 3; stride 3 gives seven windows with the kept one."
    ∷ sample (outcome_numbers node_count (cut_ten 4 4)) (3 ∷ [])
    ∷ sample (outcome_numbers node_count (cut_ten 4 3)) (0 ∷ 7 ∷ [])
    -- "Max 0, stride 9: one window with all rows."
    ∷ sample (outcome_numbers flat (cut_ten 0 9)) (0 ∷ flat (forest (plain [] (ten ∷ []) ∷ [])))
    -- "10 rows, max 10, stride 50: unchanged."
    ∷ sample (outcome_numbers flat (cut_ten 10 50)) (0 ∷ flat (forest (ten ∷ [])))
    ∷ []

abbrev pub pair_samples : List Sample
pair_samples =
    -- "Longest first, max length 7: 10 and 10 give 3 and 4; 10 and 8 give 4 and 3; 2 and 10 give 2 and 5.": all are cut but the
    -- first of the last two (document 02)
    sample (lengths_numbers (pair_lengths 10 (Some 10) 7 LongestFirst)) (0 ∷ 1 ∷ 3 ∷ 1 ∷ 4 ∷ [])
    ∷ sample (lengths_numbers (pair_lengths 10 (Some 8) 7 LongestFirst)) (0 ∷ 1 ∷ 4 ∷ 1 ∷ 3 ∷ [])
    ∷ sample (lengths_numbers (pair_lengths 2 (Some 10) 7 LongestFirst)) (0 ∷ 0 ∷ 2 ∷ 1 ∷ 5 ∷ [])
    ∷ []

-- 0, then kind, type, id start and id length of each piece; or the refusal's number, with the number and the place of the part at fault
abbrev pub reading : String → List ℕ
reading text = reading_numbers (read_template (bytes text))

abbrev pub template_samples : List Sample
template_samples =
    -- "`$+7` A type 7"
    sample (reading "$+7") (0 ∷ 0 ∷ 7 ∷ 0 ∷ 0 ∷ [])
    -- "`:1` empty special id, type 1"
    ∷ sample (reading ":1") (0 ∷ 2 ∷ 1 ∷ 0 ∷ 0 ∷ [])
    -- "`$C`, `a:b:1`, `$4294967296` now give 21, 19, 21", each in part 0 at place 0
    ∷ sample (reading "$C") (21 ∷ 0 ∷ 0 ∷ [])
    ∷ sample (reading "a:b:1") (19 ∷ 0 ∷ 0 ∷ [])
    ∷ sample (reading "$4294967296") (21 ∷ 0 ∷ 0 ∷ [])
    ∷ []

abbrev pub samples : List Sample
samples = lookup_samples ++ (cut_samples ++ (pair_samples ++ (join_samples false ++ (join_samples true ++ template_samples))))

-- What is claimed of each entry.
abbrev pub Holds : Sample → Type 0
Holds s = s.said ≡ s.expected
