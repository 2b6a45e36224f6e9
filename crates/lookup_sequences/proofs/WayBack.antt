-- From what `token_to_sequence` answers back to the row: the place, added to the start of the rows that `sequence_range` answers
-- for the sequence, is the row that was asked for.
-- Assumes nothing.
use mathlib.Core.Path.{◌≡◌, refl, sym, ap, ◌∙◌}
use Prim.Native.Nat.{ℕ, ◌+◌}
use native.Mathlib.Omega.{arith}
use mathlib.Core.Bool.{Bool, true, false}
use mathlib.Core.Option.{Option, none as nothing, some}
use mathlib.Core.List.{List}
use Rattle.record.specs.Tree.{Encoding}
use Rattle.record.specs.Read.{read, is_one}
use Rattle.record.specs.Standing.{One}
use Rattle.record.specs.declared.Bounds.{Bounds}
use Rattle.record.specs.declared.SequencePlace.{SequencePlace}
use Rattle.record.proofs.One.{one_of, not_one, one_there}
use Rattle.lookup_ranges.specs.Ranges.{sequence_range}
use Rattle.lookup_holding.specs.Holding.{Placed, token_to_sequence}
use Rattle.lookup_holding.specs.Promises.{sequence_found}
use Rattle.lookup_holding.proofs.Placed.{placed_in_sequence}
use Rattle.lookup_sequences.specs.Answers.{rows_answer, range_answer, sequence_answer}
use Rattle.lookup_holding.specs.declared.Sequence.{Sequence}
use Rattle.record.specs.declared.Refusal.{Refusal}
use Rattle.std.specs.Prelude.{Result, Ok, Option as Answer, Some}

module _ (nodes rows : List ℕ) (row sequence : ℕ) (place : SequencePlace) where
  abbrev pub RowBack : Type 0
  RowBack = (b : Bounds) × ((range_answer (read nodes rows) sequence ≡ Ok (rows_answer b)) × (b.start + place.0 ≡ row))

  pub row_back : sequence_answer (read nodes rows) row ≡ Ok (Some (record { sequence = sequence; place = place })) → RowBack
  row_back e = go (is_one (read nodes rows)) refl
    where
      placed : (E : Encoding) → One nodes rows E → (o : Option Placed) → token_to_sequence E row ≡ o → ◌≡◌ {A = Result (Answer Sequence) Refusal} (Ok (sequence_found o)) (Ok (Some (record { sequence = sequence; place = place }))) → RowBack
      placed E one nothing t f = absurd (let z : ◌≡◌ {A = ℕ} 0 1 = cc in omega arith)
      placed E one (some p) t f =
          let same : ◌≡◌ {A = Sequence} (record { sequence = p.sequence; place = record { 0 = p.place } }) (record { sequence = sequence; place = place }) = cc in
          let s : p.sequence ≡ sequence = ap (λ (t : Sequence). t.sequence) same in
          let q : p.place ≡ place.0 = ap (λ (t : Sequence). t.place.0) same in
          let back = (placed_in_sequence E row p t).counted in
          (sequence_range E sequence, (one_of _ (λ E. Ok (rows_answer (sequence_range E sequence))) one, rw (sym s, sym q) back))

      go : (b : Bool) → is_one (read nodes rows) ≡ b → RowBack
      go true b =
          let (E, one) = one_there nodes rows b in
          placed E one (token_to_sequence E row) refl (sym (one_of _ (λ E. Ok (sequence_found (token_to_sequence E row))) one) ∙ e)
      go false b = absurd (let z : ◌≡◌ {A = ℕ} 0 1 = cc (sym (not_one _ (λ E. Ok (sequence_found (token_to_sequence E row))) (read nodes rows) b) ∙ e) in omega arith)
