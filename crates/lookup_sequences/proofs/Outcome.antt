-- The outcome of the sequence column, case by case.
-- Assumes nothing.
use mathlib.Core.Path.{◌≡◌, ap, ◌∙◌}
use mathlib.Core.Bool.{Bool, cond}
use Prim.Native.Nat.{ℕ, ◌*◌, ◌≤◌, ◌<◌}
use native.Mathlib.Omega.{arith}
use mathlib.Core.List.{List, ◌++◌}
use lib.ListN.{length, get_or, take, drop, replicate, length-take}
use borrow.Author.Tests.{le-leb, lt-leb}
use Rattle.record.specs.Tree.{Encoding}
use Rattle.record.specs.Read.{read}
use Rattle.record.specs.Standing.{One}
use Rattle.record.specs.Outcome.{over}
use Rattle.record.specs.declared.Refusal.TheVariants.{MalformedRecord, NoRoom}
use Rattle.record.proofs.One.{one_of, one_size}
use Rattle.lookup_ranges.specs.Ranges.{n_sequences, sequence_at, get_sequence_ids}
use Rattle.lookup_sequences.specs.Answers.{ColumnOutcome, refused, done, sequence_ids, column_answer, column_left}
use Rattle.record.specs.declared.Refusal.{Refusal}
use Rattle.std.specs.Prelude.{Result}
use Rattle.lookup_ranges.proofs.Column.{length_column}

pub length_ids : (E : Encoding) → length (get_sequence_ids E) ≡ 2 * length E.rows
unfolding get_sequence_ids
length_ids E = length_column (λ row. sequence_at E row (n_sequences E)) 0 (length E.rows)

-- what the outcome says of the answer and of the output is what it says of an equal one
pub ids_meet : (o p : ColumnOutcome) (answer : Result ℕ Refusal) (was after : List ℕ) → o ≡ p → answer ≡ column_answer p → after ≡ column_left p was → (answer ≡ column_answer o) × (after ≡ column_left o was)
ids_meet o p answer was after e a l = rw e (a, l)

module _ {nodes rows : List ℕ} {E : Encoding} (h : One nodes rows E) where
  pub ids_no_room : (room : ℕ) → room < 2 * get_or nodes 0 0 → sequence_ids (read nodes rows) room ≡ refused NoRoom
  ids_no_room room a =
      one_of (refused MalformedRecord) _ h
      ∙ ap (λ (b : Bool). cond b (done (length E.rows) (get_sequence_ids E)) (refused NoRoom)) (lt-leb (2 * length E.rows) room (omega (arith, one_size h)))

  pub ids_done : (room : ℕ) → 2 * get_or nodes 0 0 ≤ room → sequence_ids (read nodes rows) room ≡ done (length E.rows) (get_sequence_ids E)
  ids_done room a =
      one_of (refused MalformedRecord) _ h
      ∙ ap (λ (b : Bool). cond b (done (length E.rows) (get_sequence_ids E)) (refused NoRoom)) (le-leb (2 * length E.rows) room (omega (arith, one_size h)))

  -- zeros from the front, then the column over them
  pub ids_over : (was filled after : List ℕ) → 2 * get_or nodes 0 0 ≤ length was → filled ≡ replicate (length (take (2 * get_or nodes 0 0) was)) 0 → ((rest : List ℕ) → filled ++ drop (2 * get_or nodes 0 0) was ≡ replicate (2 * length E.rows) 0 ++ rest → after ≡ get_sequence_ids E ++ rest) → after ≡ over (get_sequence_ids E) was
  ids_over was filled after a f m =
      let part : length (take (2 * get_or nodes 0 0) was) ≡ 2 * get_or nodes 0 0 = simp length-take (omega arith) in
      let ids : length (get_sequence_ids E) ≡ 2 * get_or nodes 0 0 = omega (arith, length_ids E, one_size h) in
      m (drop (length (get_sequence_ids E)) was) (rw (f, part, ids, one_size h))
