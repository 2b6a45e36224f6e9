-- Encodings that stand at a place: their numbers, how far they go, their windows, and what comes after them.
-- Assumes nothing.
use mathlib.Core.Path.{◌≡◌, ap, ◌∙◌}
use Prim.Native.Nat.{ℕ, ◌+◌, ◌*◌, ◌≤◌}
use native.Mathlib.Omega.{arith}
use mathlib.Core.List.{List, ◌++◌, flat_map, append_assoc, append-nil}
use lib.ListN.{length, get_or, take, drop, length-append, length-drop}
use lib.Seq.{take_at}
use Rattle.record.specs.Tree.{Row, Range, Forest, none, node}
use Rattle.record.specs.Flat.{row_width, node_width, row_numbers, flat_nodes, flat_rows}
use Rattle.record.specs.WellFormed.{nodes_in, rows_in}
use Rattle.record.specs.Standing.{Here, RowsAt}
use Rattle.record.proofs.Flat.{length_nodes, length_rows}
use Rattle.record.proofs.Standing.{at_size, at_below, at_next}

-- ---- The numbers of encodings that stand there

module _ {nodes rows : List ℕ} {i j : ℕ} {f : Forest} (h : Here nodes rows i j f) where
  nodes_long : length (flat_nodes f) ≡ nodes_in f * node_width
  nodes_long = length_nodes f h.well.fine

  rows_long : length (flat_rows f) ≡ rows_in f * row_width
  rows_long = length_rows f

  pub here_rows_fit : j + rows_in f * row_width ≤ length rows
  here_rows_fit = omega (arith, ap length h.at.is_rows, h.on, length-drop j rows, length-append (flat_rows f) h.at.rest_rows, rows_long)

  pub here_nodes : take (nodes_in f * node_width) (drop i nodes) ≡ flat_nodes f
  here_nodes = ap (take (nodes_in f * node_width)) h.at.is ∙ take_at (flat_nodes f) h.at.rest _ nodes_long

  pub here_rows : take (rows_in f * row_width) (drop j rows) ≡ flat_rows f
  here_rows = ap (take (rows_in f * row_width)) h.at.is_rows ∙ take_at (flat_rows f) h.at.rest_rows _ rows_long

-- ---- The first of them

module _ {nodes rows : List ℕ} {i j : ℕ} {r : List Row} {q : List Range} {w x : Forest} (h : Here nodes rows i j (node r q w x)) where
  pub here_nodes_fit : i + nodes_in (node r q w x) * node_width ≤ length nodes
  here_nodes_fit = omega (arith, ap length h.at.is, length-drop i nodes, length-append (flat_nodes (node r q w x)) h.at.rest, nodes_long h)

  pub here_size : get_or nodes i 0 ≡ length r
  here_size = at_size h.at

  pub here_own : RowsAt rows j r
  unfolding flat_rows
  here_own = record { rest = (flat_rows w ++ flat_rows x) ++ h.at.rest_rows; is = h.at.is_rows ∙ append_assoc (flat_map row_numbers r) (flat_rows w ++ flat_rows x) h.at.rest_rows }

  -- it alone, without those after it
  pub here_first : Here nodes rows i j (node r q w none)
  unfolding flat_nodes flat_rows
  here_first =
      record {
        at = record { rest = flat_nodes x ++ h.at.rest; is = h.at.is ∙ simp (append-nil, append_assoc); rest_rows = flat_rows x ++ h.at.rest_rows; is_rows = h.at.is_rows ∙ simp (append-nil, append_assoc) };
        on = h.on;
        well = record { fine = (h.well.fine.0, h.well.fine.1, tt); fits = record { few_nodes = omega (arith, h.well.fits.few_nodes); few_rows = omega (arith, h.well.fits.few_rows); few_levels = omega (arith, h.well.fits.few_levels) } };
      }

  -- its windows
  pub here_below : Here nodes rows (i + node_width) (j + length r * row_width) w
  here_below =
      record {
        at = at_below h.at h.well.fine.0;
        on = omega (arith, here_rows_fit h);
        well = record { fine = h.well.fine.1; fits = record { few_nodes = omega (arith, h.well.fits.few_nodes); few_rows = omega (arith, h.well.fits.few_rows); few_levels = omega (arith, h.well.fits.few_levels) } };
      }

  -- those after it
  pub here_next : Here nodes rows (i + nodes_in (node r q w none) * node_width) (j + rows_in (node r q w none) * row_width) x
  here_next =
      let first = here_first in
      record {
        at = rw (← length_nodes (node r q w none) first.well.fine, ← length_rows (node r q w none)) (at_next h.at);
        on = omega (arith, here_rows_fit first);
        well = record { fine = h.well.fine.2; fits = record { few_nodes = omega (arith, h.well.fits.few_nodes); few_rows = omega (arith, h.well.fits.few_rows); few_levels = omega (arith, h.well.fits.few_levels) } };
      }
