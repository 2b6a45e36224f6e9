-- `process` with a template (document 01, module 9, and "When an operation refuses").
-- Assumes nothing: these are definitions.
use Rattle.std.specs.Prelude.{Bool, ◌&&◌, not, cond, ℕ}
use Rattle.std.proofs.Math.Option.{Option, none as nothing, some}
use mathlib.Core.List.{List, flat_map}
use Rattle.record.specs.Tree.{Encoding}
use Rattle.record.specs.Read.{Reading, read, of_one_or_two, all_ok}
use Rattle.record.specs.Outcome.{Outcome, refused}
use Rattle.record.specs.declared.Refusal.TheVariants.{MalformedRecord, SpecialIdUnknown, BWithoutSecond}
use Rattle.template_text.specs.Template.{TemplateReading, unread, reads, read_template}
use Rattle.template_pieces.specs.Piece.{Piece}
use Rattle.template_entries.specs.Table.{Special, Table, faulty, sound, read_table}
use Rattle.template_text.specs.declared.Which.{Which}
use Rattle.template_text.specs.declared.Which.TheVariants.{Single, Pair}
use Rattle.template_text.specs.Used.{text_used}
use Rattle.template_known.specs.Known.{known}
use Rattle.process_steps.specs.Applied.{applied, lacks_second, folded_into}

-- which template is used: the pair's for two encodings
abbrev pub which_for : Option Encoding → Which
which_for nothing = Single
which_for (some F) = Pair

-- the text of each, from whether it is set and its text
abbrev pub text_for : Bool → List ℕ → Bool → List ℕ → Which → List ℕ
text_for single_set single pair_set pair Single = text_used single_set single Single
text_for single_set single pair_set pair Pair = text_used pair_set pair Pair

-- "11, 10 only when special tokens are added, 2"; "the pieces are folded without growing": the pieces of the template that
-- is used, into an output of the first two lists, with a working store of the last two
unfoldable pub apply_into : List Special → Bool → Encoding → Option Encoding → List Piece → List ℕ → List ℕ → List ℕ → List ℕ → Outcome
apply_into table add E second pieces nodes rows working_nodes working_rows =
    cond (lacks_second second pieces) (refused BWithoutSecond)
    (cond (add && not (all_ok (known table) pieces)) (refused SpecialIdUnknown)
    (folded_into (flat_map (applied table add E second) pieces) nodes rows working_nodes working_rows))

-- "15, 12, 8, .. (the template used)", then 19 to 21, "all in 7's position"
unfoldable pub with_table : Table → TemplateReading → (List Special → List Piece → Outcome) → Outcome
with_table (faulty k) reading next = refused k
with_table (sound table) (unread k) next = refused k
with_table (sound table) (reads pieces) next = next table pieces

-- "Process: 1, 15, 12, 8, .. (the template used), 11, 10 only when special tokens are added, 2.", with 19 to 21 before 11; "processing pass
-- the finer answer on": of the batch, the table, the
-- template for one encoding and for two as they are read, and whether special tokens are added
unfoldable pub process_read : Reading → Table → (Which → TemplateReading) → Bool → List ℕ → List ℕ → List ℕ → List ℕ → Outcome
process_read batch table template add nodes rows working_nodes working_rows =
    of_one_or_two (refused MalformedRecord)
    (λ E second. with_table table (template (which_for second)) (λ specials pieces. apply_into specials add E second pieces nodes rows working_nodes working_rows))
    batch

-- and of the numbers and the texts that are lent: the batch; whether the template for one encoding is set, and its text; the
-- same for two; the special table
abbrev pub process_outcome : List ℕ → List ℕ → Bool → List ℕ → Bool → List ℕ → List ℕ → List ℕ → List ℕ → Bool → List ℕ → List ℕ → List ℕ → List ℕ → Outcome
process_outcome nodes rows single_set single pair_set pair entries members added =
    process_read (read nodes rows) (read_table entries members added) (λ which. read_template (text_for single_set single pair_set pair which))
