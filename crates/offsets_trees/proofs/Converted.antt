-- What converting keeps: the nodes and their number, the rows' number and order, levels, and that a batch is well-formed.
-- Assumes nothing.
use mathlib.Core.Path.{◌≡◌, refl, ap, ap₂, sym, ◌∙◌}
use Prim.Native.Nat.{ℕ, suc, ◌+◌, max}
use mathlib.Core.List.{List, [], ◌∷◌, ◌++◌, map, flat_map}
use lib.ListN.{length, length-map}
use Rattle.lists.specs.Lists.{All}
use Rattle.lists.proofs.FlatMap.{map_append}
use Rattle.record.specs.Tree.{Row, Forest, none, node, tops}
use Rattle.record.specs.Flat.{range_numbers, flat_nodes}
use Rattle.record.specs.Walk.{all_rows}
use Rattle.record.specs.WellFormed.{RowFine, Fine, WellFormed, nodes_in, rows_in, levels}
use Rattle.offsets_trees.specs.Offsets.{with_offsets, converted}

module _ (convert : ℕ → ℕ) where
  pub converted_rows : (f : Forest) → all_rows (converted convert f) ≡ map (with_offsets convert) (all_rows f)
  unfolding all_rows converted
  converted_rows none = refl
  converted_rows (node r q w x) =
      ap₂ (λ (a : List Row) (b : List Row). map (with_offsets convert) r ++ (a ++ b)) (converted_rows w) (converted_rows x)
      ∙ ap (◌++◌ (map (with_offsets convert) r)) (sym (map_append (with_offsets convert) (all_rows w) (all_rows x)))
      ∙ sym (map_append (with_offsets convert) r (all_rows w ++ all_rows x))

  pub converted_tops : (f : Forest) → tops (converted convert f) ≡ tops f
  unfolding converted
  converted_tops none = refl
  converted_tops (node r q w x) = ap suc (converted_tops x)

  -- the nodes stay, number for number
  pub converted_nodes : (f : Forest) → flat_nodes (converted convert f) ≡ flat_nodes f
  unfolding converted flat_nodes
  converted_nodes none = refl
  converted_nodes (node r q w x) =
      ap₂ (λ (n : ℕ) (m : ℕ). n ∷ m ∷ (flat_map range_numbers q ++ (flat_nodes (converted convert w) ++ flat_nodes (converted convert x)))) (length-map r (with_offsets convert)) (converted_tops w)
      ∙ ap₂ (λ (a : List ℕ) (b : List ℕ). length r ∷ tops w ∷ (flat_map range_numbers q ++ (a ++ b))) (converted_nodes w) (converted_nodes x)

  pub converted_nodes_in : (f : Forest) → nodes_in (converted convert f) ≡ nodes_in f
  unfolding converted
  converted_nodes_in none = refl
  converted_nodes_in (node r q w x) = ap₂ (λ (a : ℕ) (b : ℕ). suc (a + b)) (converted_nodes_in w) (converted_nodes_in x)

  pub converted_rows_in : (f : Forest) → rows_in (converted convert f) ≡ rows_in f
  unfolding converted
  converted_rows_in none = refl
  converted_rows_in (node r q w x) =
      ap (λ (n : ℕ). n + (rows_in (converted convert w) + rows_in (converted convert x))) (length-map r (with_offsets convert))
      ∙ ap₂ (λ (a : ℕ) (b : ℕ). length r + (a + b)) (converted_rows_in w) (converted_rows_in x)

  pub converted_levels : (f : Forest) → levels (converted convert f) ≡ levels f
  unfolding converted
  converted_levels none = refl
  converted_levels (node r q w x) = ap₂ (λ (a : ℕ) (b : ℕ). max (suc a) b) (converted_levels w) (converted_levels x)

  pub converted_fine : (f : Forest) → Fine f → Fine (converted convert f)
  unfolding converted
  converted_fine none fine = fine
  converted_fine (node r q w x) fine = (
    record {
      places = fine.0.places;
      ranges_fine = rw (length-map r (with_offsets convert)) fine.0.ranges_fine;
      rows_fine = rows_fine r fine.0.rows_fine;
    },
    converted_fine w fine.1,
    converted_fine x fine.2,
  )
    where
      rows_fine : (rows : List Row) → All RowFine rows → All RowFine (map (with_offsets convert) rows)
      rows_fine [] all = tt
      rows_fine (row ∷ rows) all = (all.0, rows_fine rows all.1)

  pub converted_well : (f : Forest) → WellFormed f → WellFormed (converted convert f)
  converted_well f well =
      record {
        fine = converted_fine f well.fine;
        fits =
            record {
              few_nodes = rw (converted_nodes_in f) well.fits.few_nodes;
              few_rows = rw (converted_rows_in f) well.fits.few_rows;
              few_levels = rw (converted_levels f) well.fits.few_levels;
            };
      }
