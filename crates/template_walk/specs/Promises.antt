-- What the walk that counts gives. It looks only at the entries of a table, so it speaks of every table with these entries.
-- Assumes nothing: these are definitions.
use Rattle.std.specs.Prelude.{◌≡◌, ℕ, ◌<◌, List, Result}
use Rattle.template_text.specs.Template.{read_template}
use Rattle.template_entries.specs.Table.{Special, sound, read_table}
use Rattle.template_find.specs.Last.{last_with}
use Rattle.record.specs.declared.Refusal.{Refusal}
use Rattle.template_walk.specs.Counting.{member_count, added_answer}

pub record CountedIn (text entries added : List ℕ) (answer : Result ℕ Refusal) : Type 0 where
  pub says : (members : List ℕ) (table : List Special) → read_table entries members added ≡ sound table → answer ≡ added_answer (sound table) (read_template text)

pub record IdsOf (entries added id : List ℕ) (count : ℕ) : Type 0 where
  pub small : count < 4294967296
  pub says : (members : List ℕ) (table : List Special) → read_table entries members added ≡ sound table → count ≡ member_count (last_with id table)
