-- `validate` and `count_added` (document 01, module 8, and "When an operation refuses"; document 02, request 02).
-- Assumes nothing: these are definitions.
use Rattle.std.specs.Prelude.{Bool, ◌&&◌, cond, List, [], ◌∷◌, ℕ, Result, Ok, Err}
use Rattle.std.proofs.Math.Option.{Option, none as nothing, some}
use Rattle.record.specs.Read.{all_ok}
use Rattle.record.specs.Refusals.{why_number, number_of, fault_of}
use Rattle.record.specs.declared.Fault.{Fault}
use Rattle.record.specs.declared.Refusal.{Refusal}
use Rattle.record.specs.declared.Refusal.TheVariants.{PairLacksAOrB}
use Rattle.template_text.specs.Template.{TemplateReading, unread, reads, read_template}
use Rattle.template_text.specs.Used.{text_used, which_number}
use Rattle.template_text.specs.declared.Which.{Which}
use Rattle.template_text.specs.declared.Which.TheVariants.{Single, Pair}
use Rattle.template_entries.specs.Table.{Table, faulty, sound, read_table}
use Rattle.template_validate.specs.declared.Invalid.{Invalid}
use Rattle.template_validate.specs.declared.Invalid.TheVariants.{Refused, Unreadable}
use Rattle.template_walk.specs.Sequences.{is_a, is_b, some_ok}
use Rattle.template_walk.specs.Counting.{added_answer}
use Rattle.template_known.specs.Known.{known, known_answer}

-- valid, or why not
abbrev pub Validation : Type 0
Validation = Result (Unit {0}) Invalid

-- "validation also says which template": a refusal for what stands in one of the two, with it where a part is at fault
abbrev pub at_fault : Which → Refusal → Option Fault → Invalid
at_fault which k nothing = Refused k
at_fault which k (some fault) = Unreadable which fault

unfoldable pub refused_in : Which → Refusal → Invalid
refused_in which k = at_fault which k (fault_of k)

-- the answer of the last check
abbrev pub of_validity : Result (Unit {0}) Refusal → Validation
of_validity (Ok u) = Ok tt
of_validity (Err k) = Err (Refused k)

-- "Validate: 15, 12, then 8 and .. for the single, 8 and .. for the pair, 9, 10", with 19 to 21 after each 8, "in 7's position": the
-- table, the single template, the pair
unfoldable pub validity : Table → TemplateReading → TemplateReading → Validation
validity (faulty k) single pair = Err (Refused k)
validity (sound table) (unread k) pair = Err (refused_in Single k)
validity (sound table) (reads s) (unread k) = Err (refused_in Pair k)
validity (sound table) (reads s) (reads p) = cond (some_ok is_a p && some_ok is_b p) (of_validity (known_answer (all_ok (known table) s && all_ok (known table) p))) (Err (Refused PairLacksAOrB))

-- the same of the texts and the numbers that are lent: whether the single template is set, and its text; the same for the
-- pair; the table
abbrev pub validate_answer : Bool → List ℕ → Bool → List ℕ → List ℕ → List ℕ → List ℕ → Validation
validate_answer single_set single pair_set pair entries members added =
    validity (read_table entries members added) (read_template (text_used single_set single Single)) (read_template (text_used pair_set pair Pair))

-- "Count added: 15, 12, 8", 19 to 21, of what is lent: whether the template is set, its text, which one it is; the table
abbrev pub count_answer : Bool → List ℕ → Which → List ℕ → List ℕ → List ℕ → Result ℕ Refusal
count_answer set text which entries members added = added_answer (read_table entries members added) (read_template (text_used set text which))

-- the documents' number for each case, 0 where the templates are valid
abbrev pub validity_refusal : Validation → ℕ
validity_refusal (Ok u) = 0
validity_refusal (Err (Refused k)) = number_of k
validity_refusal (Err (Unreadable which fault)) = why_number fault.why

-- the template, and the number and the place of its part at fault, in the place of what three numbers were
abbrev pub validity_fault : List ℕ → Validation → List ℕ
validity_fault was (Ok u) = was
validity_fault was (Err (Refused k)) = was
validity_fault was (Err (Unreadable which fault)) = which_number which ∷ fault.part ∷ fault.place ∷ []
