-- The answer of the check of a table, clause by clause, and what it says of the table. Assumes nothing.
use mathlib.Core.Path.{◌≡◌, refl}
use mathlib.Core.Bool.{true, false}
use Prim.Native.Nat.{ℕ, ◌/◌, ◌%◌, ◌≤◌, ◌<◌}
use native.Mathlib.Omega.{arith}
use mathlib.Core.List.{List}
use lib.ListN.{length}
use borrow.Author.Tests.{le-leb, lt-leb, eq-eqb, ne_eqb}
use Rattle.record.specs.Read.{all_ok}
use Rattle.record.specs.declared.Refusal.{Refusal}
use Rattle.record.specs.declared.Refusal.TheVariants.{IdsAndTextsDiffer, MalformedTable}
use Rattle.template_entries.specs.Table.{Special, Table, faulty, sound, entry_width, member_width, most_entries, entries_in, members_in, entry_ok, member_ok, well_made, agrees, read_table}
use Rattle.template_table.specs.Check.{table_answer}
use Rattle.std.specs.Prelude.{Result, Ok, Err}

module _ (entries members added : List ℕ) where
  abbrev answer : Result (Unit {0}) Refusal
  answer = table_answer (read_table entries members added)

  pub refuse_entries : (length entries % entry_width ≡ 0 → ⊥) → Err MalformedTable ≡ answer
  unfolding read_table well_made table_answer
  refuse_entries h = rw (ne_eqb (length entries % entry_width) 0 h)

  module _ (a : length entries % entry_width ≡ 0) where
    pub refuse_members : (length members % member_width ≡ 0 → ⊥) → Err MalformedTable ≡ answer
    unfolding read_table well_made table_answer
    refuse_members h = rw (eq-eqb (length entries % entry_width) 0 a, ne_eqb (length members % member_width) 0 h)

    module _ (b : length members % member_width ≡ 0) where
      pub refuse_number : most_entries < length entries / entry_width → Err MalformedTable ≡ answer
      unfolding read_table well_made table_answer
      refuse_number h = rw (eq-eqb (length entries % entry_width) 0 a, eq-eqb (length members % member_width) 0 b, lt-leb (length entries / entry_width) most_entries h)

      module _ (n : length entries / entry_width ≤ most_entries) where
        pub refuse_entry : all_ok (entry_ok (length members / member_width) (length added)) (entries_in entries) ≡ false → Err MalformedTable ≡ answer
        unfolding read_table well_made table_answer
        refuse_entry h = rw (eq-eqb (length entries % entry_width) 0 a, eq-eqb (length members % member_width) 0 b, le-leb (length entries / entry_width) most_entries n, h)

        module _ (e : all_ok (entry_ok (length members / member_width) (length added)) (entries_in entries) ≡ true) where
          pub refuse_member : all_ok (member_ok (length added)) (members_in members) ≡ false → Err MalformedTable ≡ answer
          unfolding read_table well_made table_answer
          refuse_member h = rw (eq-eqb (length entries % entry_width) 0 a, eq-eqb (length members % member_width) 0 b, le-leb (length entries / entry_width) most_entries n, e, h)

          module _ (m : all_ok (member_ok (length added)) (members_in members) ≡ true) where
            made : well_made entries members (length added) ≡ true
            unfolding well_made
            made = rw (eq-eqb (length entries % entry_width) 0 a, eq-eqb (length members % member_width) 0 b, le-leb (length entries / entry_width) most_entries n, e, m)

            pub refuse_differing : all_ok agrees (entries_in entries) ≡ false → Err IdsAndTextsDiffer ≡ answer
            unfolding read_table table_answer
            refuse_differing h = rw (made, h)

            pub accept : all_ok agrees (entries_in entries) ≡ true → Ok tt ≡ answer
            unfolding read_table table_answer
            accept h = rw (made, h)

-- ---- What the answer says of the table

pub answer_sound : (t : Table) {u : Unit {0}} → table_answer t ≡ Ok u → (table : List Special) × (t ≡ sound table)
unfolding table_answer
answer_sound (faulty k) e = let z : ◌≡◌ {A = ℕ} 0 1 = cc in absurd (omega arith)
answer_sound (sound table) e = (table, refl)

pub answer_refused : (t : Table) {why : Refusal} → table_answer t ≡ Err why → t ≡ faulty why
unfolding table_answer
answer_refused (faulty k) e = cc
answer_refused (sound table) e = cc
