-- The answer of the check of a special table (document 01, module 8): refused with 15 or 12, or sound.
-- Assumes nothing: these are definitions.
use Rattle.template_entries.specs.Table.{Table, faulty, sound}
use Rattle.std.specs.Prelude.{Result, Ok, Err}
use Rattle.record.specs.declared.Refusal.{Refusal}

unfoldable pub table_answer : Table → Result (Unit {0}) Refusal
table_answer (faulty k) = Err k
table_answer (sound table) = Ok tt
