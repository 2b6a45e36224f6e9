-- The outcome by the verdict, and what is written. Assumes nothing.
use Rattle.std.specs.Prelude.{Ok, Err, Result, Option, None, Some}
use mathlib.Core.Path.{◌≡◌, refl, ap, ap₂, sym, ◌∙◌}
use mathlib.Core.Bool.{Bool, true, false, cond}
use Prim.Native.Nat.{ℕ, ◌*◌, ◌/◌, ◌≤◌}
use native.Mathlib.Nat.{mul-div_cancel, zero-lt-suc}
use native.Mathlib.Omega.{arith}
use mathlib.Core.List.{List, map, flat_map}
use lib.Dec.{eqb}
use lib.ListN.{length}
use lib.Seq.{sets}
use Rattle.record.specs.Tree.{Row, Forest}
use Rattle.record.specs.Flat.{node_width, row_width, row_numbers, flat_nodes, flat_rows}
use Rattle.record.specs.Read.{Reading, malformed, holds, read}
use Rattle.record.specs.Walk.{all_rows}
use Rattle.record.specs.WellFormed.{Stores, nodes_in, rows_in}
use Rattle.record.specs.Outcome.{Outcome, refused, in_room, Room, Writes}
use Rattle.record.specs.Refusals.{number_of}
use Rattle.record.specs.declared.Refusal.{Refusal}
use Rattle.record.specs.declared.Refusal.TheVariants.{MalformedRecord, NoRoom, NotText, OffsetPastEnd, OffsetInsideCharacter}
use Rattle.record.proofs.Flat.{length_nodes, length_rows}
use Rattle.record.proofs.Outcome.{in_room_lem, no_room, writes_done}
use Rattle.record.proofs.Read.{stored}
use Rattle.record.proofs.Walk.{flat_rows_lem}
use Rattle.chars_text.specs.Characters.{characters}
use Rattle.offsets_trees.specs.declared.Way.{Way}
use Rattle.offsets_trees.specs.declared.Fault.{Fault}
use Rattle.offsets_trees.specs.declared.Fault.TheVariants.{PastEnd, InsideCharacter}
use Rattle.offsets_trees.specs.Offsets.{with_offsets, converted, convert_by, fault_by, batch_fault}
use Rattle.offsets_trees.proofs.Converted.{converted_rows, converted_nodes, converted_nodes_in, converted_rows_in, converted_well}
use Rattle.offsets_verdict.specs.Verdicts.{is_text, of_fault, verdict_of}
use Rattle.offsets_verdict.proofs.Deciding.{text_both}
use Rattle.record.proofs.Walk.{rows_stored}
use Rattle.offsets_batch.specs.Promises.{converted_numbers, Convertible}
use Rattle.offsets.specs.Outcomes.{unless_fault, offsets_outcome}

-- ---- By the verdict

abbrev pub by_verdict : Result ℕ Refusal → Outcome → Outcome
by_verdict (Err why) otherwise = refused why
by_verdict (Ok total) otherwise = otherwise

module _ (way : Way) (text on or : List ℕ) where
  -- what comes after the verdict
  abbrev pub after : Reading → Outcome
  after malformed = refused MalformedRecord
  after (holds f) = in_room on or (converted (convert_by way text) f)

  outcome_verdict : (r : Reading) → offsets_outcome way r text on or ≡ by_verdict (verdict_of way r text) (after r)
  unfolding offsets_outcome
  outcome_verdict malformed = refl
  outcome_verdict (holds f) = go (is_text text) (batch_fault (fault_by way text) f)
    where
      go : (t : Bool) (b : Option Fault) → cond t (unless_fault b (after (holds f))) (refused NotText) ≡ by_verdict (cond t (of_fault b (length (characters text))) (Err NotText)) (after (holds f))
      go true None = refl
      go true (Some PastEnd) = refl
      go true (Some InsideCharacter) = refl
      go false b = refl

  pub outcome_is : (r : Reading) (v : Result ℕ Refusal) → v ≡ verdict_of way r text → offsets_outcome way r text on or ≡ by_verdict v (after r)
  outcome_is r v e = outcome_verdict r ∙ ap (λ (w : Result ℕ Refusal). by_verdict w (after r)) (sym e)

-- ---- Turned away

-- not with 6, the one refusal that changes the output
pub not_six : (way : Way) (r : Reading) (text : List ℕ) {why : Refusal} → Err why ≡ verdict_of way r text → eqb (number_of why) 6 ≡ false
not_six way malformed text {why} e = let is : why ≡ MalformedRecord = cc in rw is refl
not_six way (holds f) text {why} e = go (is_text text) (batch_fault (fault_by way text) f) e
  where
    go : (t : Bool) (b : Option Fault) → Err why ≡ cond t (of_fault b (length (characters text))) (Err NotText) → eqb (number_of why) 6 ≡ false
    go true None e = let never : ◌≡◌ {A = ℕ} 0 1 = cc in absurd (omega arith)
    go true (Some PastEnd) e = let is : why ≡ OffsetPastEnd = cc in rw is refl
    go true (Some InsideCharacter) e = let is : why ≡ OffsetInsideCharacter = cc in rw is refl
    go false b e = let is : why ≡ NotText = cc in rw is refl

-- ---- Accepted

-- The batch that is read, with nothing wrong.
pub record Accepts (way : Way) (nodes rows text : List ℕ) (total : ℕ) : Type 0 where
  pub f : Forest
  pub reads : read nodes rows ≡ holds f
  pub is_text_lem : is_text text ≡ true
  pub fine : batch_fault (fault_by way text) f ≡ None
  pub all : total ≡ length (characters text)

pub accepts : (way : Way) (nodes rows text : List ℕ) (total : ℕ) → Ok total ≡ verdict_of way (read nodes rows) text → Accepts way nodes rows text total
accepts way nodes rows text total e = by_reading (read nodes rows) refl e
  where
    by_fault : (f : Forest) → read nodes rows ≡ holds f → (t : Bool) (b : Option Fault) → is_text text ≡ t → batch_fault (fault_by way text) f ≡ b
        → Ok total ≡ cond t (of_fault b (length (characters text))) (Err NotText) → Accepts way nodes rows text total
    by_fault f r true None t b e = record { f = f; reads = r; is_text_lem = t; fine = b; all = cc }
    by_fault f r true (Some PastEnd) t b e = let never : ◌≡◌ {A = ℕ} 0 1 = cc in absurd (omega arith)
    by_fault f r true (Some InsideCharacter) t b e = let never : ◌≡◌ {A = ℕ} 0 1 = cc in absurd (omega arith)
    by_fault f r false b t b' e = let never : ◌≡◌ {A = ℕ} 0 1 = cc in absurd (omega arith)

    by_reading : (r : Reading) → read nodes rows ≡ r → Ok total ≡ verdict_of way r text → Accepts way nodes rows text total
    by_reading malformed r e = let never : ◌≡◌ {A = ℕ} 0 1 = cc in absurd (omega arith)
    by_reading (holds f) r e = by_fault f r (is_text text) (batch_fault (fault_by way text) f) refl refl e

module _ {way : Way} {nodes rows text : List ℕ} {total : ℕ} (a : Accepts way nodes rows text total) (on or : List ℕ) where
  store : Stores nodes rows a.f
  store = stored nodes rows a.f a.reads

  unfoldable pub result : Forest
  result = converted (convert_by way text) a.f

  nodes_long : length nodes ≡ nodes_in a.f * node_width
  nodes_long = ap length (sym store.nodes_are) ∙ length_nodes a.f store.well.fine

  rows_long : length rows ≡ rows_in a.f * row_width
  rows_long = ap length (sym store.rows_are) ∙ length_rows a.f

  pub after_is : Ok total ≡ verdict_of way (read nodes rows) text → offsets_outcome way (read nodes rows) text on or ≡ in_room on or result
  unfolding result
  after_is e = outcome_is way text on or (read nodes rows) (Ok total) e ∙ ap (after way text on or) a.reads

  pub convertible : length nodes ≤ length on → length rows ≤ length or → Convertible way nodes rows text total on or
  convertible nodes_fit rows_fit =
      record {
        list = all_rows a.f;
        are = sym store.rows_are ∙ flat_rows_lem a.f;
        fine = a.fine;
        well = (text_both text a.is_text_lem).1;
        short = (text_both text a.is_text_lem).0;
        all = a.all;
        nodes_fit = nodes_fit;
        rows_fit = rows_fit;
      }

  module _ (o : offsets_outcome way (read nodes rows) text on or ≡ in_room on or result) where
    pub no_room_left : (length nodes ≤ length on → length rows ≤ length or → ⊥) → offsets_outcome way (read nodes rows) text on or ≡ refused NoRoom
    unfolding result
    no_room_left full =
        o
        ∙ no_room on or result
        (λ room.
        full
        (omega (arith, nodes_long, room.nodes_fit, converted_nodes_in (convert_by way text) a.f))
        (omega (arith, rows_long, room.rows_fit, converted_rows_in (convert_by way text) a.f)))

    room_there : length nodes ≤ length on → length rows ≤ length or → Room on or result
    unfolding result
    room_there nodes_fit rows_fit =
        record {
          fits = (converted_well (convert_by way text) a.f store.well).fits;
          nodes_fit = rw (converted_nodes_in (convert_by way text) a.f) (omega (arith, nodes_long));
          rows_fit = rw (converted_rows_in (convert_by way text) a.f) (omega (arith, rows_long));
        }

    result_nodes_lem : flat_nodes result ≡ nodes
    unfolding result
    result_nodes_lem = converted_nodes (convert_by way text) a.f ∙ store.nodes_are

    result_rows_lem : flat_rows result ≡ converted_numbers way text rows
    unfolding result
    result_rows_lem =
        flat_rows_lem result
        ∙ ap (flat_map row_numbers) (converted_rows (convert_by way text) a.f)
        ∙ ap (λ (R : List Row). flat_map row_numbers (map (with_offsets (convert_by way text)) R)) (sym (rows_stored nodes rows a.f a.reads))

    pub all_written : length nodes ≤ length on → length rows ≤ length or → {on' or' : List ℕ} → on' ≡ sets on 0 nodes → or' ≡ sets or 0 (converted_numbers way text rows)
        → Writes (offsets_outcome way (read nodes rows) text on or) (Ok (record { nodes = length nodes / node_width; rows = length rows / row_width })) on or on' or'
    unfolding result
    all_written nodes_fit rows_fit n r =
        let g = convert_by way text in
        writes_done result
        (o ∙ in_room_lem on or result (room_there nodes_fit rows_fit))
        (omega (arith, ap length result_nodes_lem))
        (omega (arith, length_rows result, converted_rows_in g a.f, rows_long))
        (ap₂ (λ (n m : ℕ). Ok (record { nodes = n; rows = m }))
        (ap (λ (k : ℕ). k / node_width) nodes_long ∙ mul-div_cancel (nodes_in a.f) (zero-lt-suc 25) ∙ sym (converted_nodes_in g a.f))
        (ap (λ (k : ℕ). k / row_width) rows_long ∙ mul-div_cancel (rows_in a.f) (zero-lt-suc 10) ∙ sym (converted_rows_in g a.f)))
        (n ∙ ap (sets on 0) (sym result_nodes_lem))
        (r ∙ ap (sets or 0) (sym result_rows_lem))
