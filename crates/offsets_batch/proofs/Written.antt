-- The rows copied to the front of an output, and then converted there. Assumes nothing.
use mathlib.Core.Path.{◌≡◌, ap, ap₂, sym, ◌∙◌}
use Prim.Native.Nat.{ℕ, ◌*◌, ◌/◌}
use native.Mathlib.Nat.{mul-div_cancel, zero-lt-suc}
use native.Mathlib.Omega.{arith}
use mathlib.Core.List.{List, [], ◌++◌, map, flat_map, append-nil}
use lib.ListN.{length, drop, length-append, length-map}
use lib.Seq.{sets, drop_at}
use Rattle.lists.proofs.Sets.{sets_over}
use Rattle.record.specs.Tree.{Row}
use Rattle.record.specs.Flat.{row_width, row_numbers, row_at}
use Rattle.record.specs.Read.{several}
use Rattle.record.proofs.Flat.{length_numbers, several_back, row_stored}
use Rattle.chars_text.proofs.Texts.{characters_starts}
use Rattle.offsets_trees.specs.declared.Way.{Way}
use Rattle.offsets_trees.specs.Offsets.{with_offsets, convert_by, fault_by, rows_fault}
use Rattle.offsets_batch.specs.Promises.{turned_numbers, converted_numbers, Copied, Convertible}
use Rattle.offsets_batch.proofs.Plain.{rows_same}

module _ {way : Way} {nodes rows text : List ℕ} {total : ℕ} {out_nodes out_rows : List ℕ} (c : Convertible way nodes rows text total out_nodes out_rows) where
  count_is : length rows / row_width ≡ length c.list
  count_is =
      ap (λ (l : List ℕ). length l / row_width) c.are
      ∙ ap (λ (n : ℕ). n / row_width) (length_numbers row_stored c.list)
      ∙ mul-div_cancel (length c.list) (zero-lt-suc 10)

  length_is : length rows ≡ length rows / row_width * row_width
  length_is = ap length c.are ∙ length_numbers row_stored c.list ∙ ap (λ (n : ℕ). n * row_width) (sym count_is)

  -- the rows that a list begins with
  rows_first : (more : List ℕ) → several row_at row_width (length rows / row_width) (rows ++ more) ≡ c.list
  rows_first more =
      ap₂ (λ (n : ℕ) (l : List ℕ). several row_at row_width n (l ++ more)) count_is c.are
      ∙ several_back row_stored c.list more

  rows_are : several row_at row_width (length rows / row_width) rows ≡ c.list
  rows_are = ap (several row_at row_width (length rows / row_width)) (sym (append-nil rows)) ∙ rows_first []

  converted_long : length (converted_numbers way text rows) ≡ length rows
  converted_long =
      length_numbers row_stored (map (with_offsets (convert_by way text)) (several row_at row_width (length rows / row_width) rows))
      ∙ ap (λ (n : ℕ). n * row_width) (length-map (several row_at row_width (length rows / row_width) rows) (with_offsets (convert_by way text)) ∙ ap length rows_are ∙ sym count_is)
      ∙ sym length_is

  module _ {copied : List ℕ} (e : copied ≡ sets out_rows 0 rows) where
    over : copied ≡ rows ++ drop (length rows) out_rows
    over = e ∙ sets_over out_rows rows c.rows_fit

    pub copied_ready : Copied way text total copied (length rows / row_width)
    copied_ready =
        record {
          well = c.well;
          short = c.short;
          all = c.all ∙ characters_starts text c.well;
          inside = omega (arith, ap length over, length-append rows (drop (length rows) out_rows), length_is);
          fine = ap (λ (l : List ℕ). rows_fault (fault_by way text) (several row_at row_width (length rows / row_width) l)) over ∙ ap (rows_fault (fault_by way text)) (rows_first (drop (length rows) out_rows)) ∙ c.fine;
        }

    pub turned_written : {after : List ℕ} → after ≡ turned_numbers way text copied (length rows / row_width) → after ≡ sets out_rows 0 (converted_numbers way text rows)
    turned_written turned =
        turned
        ∙ ap (λ (l : List ℕ). turned_numbers way text l (length rows / row_width)) over
        ∙ ap₂ (λ (R : List Row) (l : List ℕ). flat_map row_numbers (map (with_offsets (convert_by way text)) R) ++ l)
        (rows_first (drop (length rows) out_rows) ∙ sym rows_are)
        (drop_at rows (drop (length rows) out_rows) (length rows / row_width * row_width) length_is)
        ∙ ap (λ (n : ℕ). converted_numbers way text rows ++ drop n out_rows) (sym converted_long)
        ∙ sym (sets_over out_rows (converted_numbers way text rows) (omega (arith, converted_long, c.rows_fit)))

    -- where every offset stays, the copy is the result
    pub plain_written : total ≡ length text → copied ≡ sets out_rows 0 (converted_numbers way text rows)
    plain_written plain =
        let same : converted_numbers way text rows ≡ rows
        = ap (λ (R : List Row). flat_map row_numbers (map (with_offsets (convert_by way text)) R)) rows_are
        ∙ ap (flat_map row_numbers) (rows_same text c.well (sym c.all ∙ plain) way c.list c.fine)
        ∙ sym c.are in
        e ∙ ap (sets out_rows 0) (sym same)
