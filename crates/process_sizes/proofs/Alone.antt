-- What an encoding without windows takes: one node, and its rows.
-- Assumes nothing.
use mathlib.Core.Path.{◌≡◌, ap, sym, ◌∙◌}
use mathlib.Core.List.{[], ◌∷◌}
use Prim.Native.Nat.{ℕ}
use native.Mathlib.Omega.{arith}
use lib.Dec.{leb}
use borrow.Author.Tests.{leb-true, leb-false}
use Rattle.record.specs.Tree.{Encoding, forest}
use Rattle.record.specs.WellFormed.{nodes_in, rows_in, levels, most_rows}
use Rattle.join_size.specs.Promises.{Sizes}
use Rattle.join_trees.proofs.Windowless.{no_windows}
use Rattle.process_rows.specs.Promises.{Alone}

pub alone_sizes : {E : Encoding} {n : ℕ} → Alone E n → Sizes E (record { fits = leb n most_rows; nodes = 1; rows = n })
alone_sizes {E} {n} h =
    let e = no_windows E h.no_windows in
    let k : nodes_in (forest (E ∷ [])) ≡ 1 = ap (λ (F : Encoding). nodes_in (forest (F ∷ []))) e in
    let m : rows_in (forest (E ∷ [])) ≡ n = ap (λ (F : Encoding). rows_in (forest (F ∷ []))) e ∙ omega (arith, h.rows_are) in
    let l : levels (forest (E ∷ [])) ≡ 1 = ap (λ (F : Encoding). levels (forest (F ∷ []))) e in
    record {
      fitting = λ t. record { nodes = sym k; rows = sym m; limits = record { few_nodes = omega arith; few_rows = omega (arith, leb-true n most_rows t); few_levels = omega arith } };
      too_large = λ t f. omega (arith, leb-false n most_rows t, f.few_rows);
    }
