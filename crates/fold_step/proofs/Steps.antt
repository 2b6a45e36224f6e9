-- One encoding more in place: how encodings without windows are told, and what their join asks.
-- Assumes nothing.
use mathlib.Core.Path.{◌≡◌, sym, ap, ◌∙◌}
use mathlib.Core.Bool.{Bool, true}
use mathlib.Core.List.{List, [], ◌∷◌}
use Prim.Native.Nat.{ℕ, ◌+◌, ◌≤◌}
use native.Mathlib.Omega.{arith}
use native.Mathlib.Nat.{mul-le-mul_right}
use lib.ListN.{length, get_or}
use Rattle.record.specs.Tree.{Encoding, forest, windows}
use Rattle.record.specs.Flat.{row_width}
use Rattle.record.specs.WellFormed.{rows_in}
use Rattle.record.specs.Standing.{Here}
use Rattle.record.specs.declared.Spot.{Spot}
use Rattle.record.proofs.Standing.{at_count}
use Rattle.join_trees.specs.Join.{base, join}
use Rattle.join_trees.specs.Offsets.{join_fits, MovedWithin}
use Rattle.join_trees.proofs.Join.{join_rows_lem}
use Rattle.join_trees.proofs.Offsets.{tells_offsets, rows_fit_right}
use Rattle.join_trees.proofs.Rows.{length_join_rows}
use Rattle.join_trees.proofs.Windowless.{no_windows}
use Rattle.join_view.specs.declared.View.{View}
use Rattle.join_view.specs.View.{seen}
use Rattle.join_view.proofs.Seen.{length_rows_seen}
use Rattle.join_view.proofs.Offsets.{join_fits_seen}
use Rattle.fold_append.specs.Promises.{AskAppend}
use Rattle.fold_over.specs.Promises.{AskStep}

-- ---- An encoding without windows, told by its second number

pub here_bare : {nodes rows : List ℕ} {i j : ℕ} {E : Encoding} → Here nodes rows i j (forest (E ∷ [])) → get_or nodes (i + 1) 0 ≡ 0 → windows E ≡ []
here_bare {nodes} {rows} {i} {j} {E} h e = ap windows (no_windows E (sym (at_count h.at) ∙ e))

-- ---- What is asked

-- P's offsets, moved on, stay within 32 bits
moved_within : (g : Bool) (S P : Encoding) → join_fits g S P ≡ true → MovedWithin (base g S.rows) P.rows
moved_within g S P e = rows_fit_right g S.rows P.rows (rw (join_rows_lem g S P) at ((tells_offsets (forest (join g S P ∷ []))).so e).0)

-- the top of a join has the rows of both, a view or not
rows_of_both : (v : View) (g : Bool) (S P : Encoding) → length S.rows + length P.rows ≤ rows_in (forest (join g S (seen v P) ∷ []))
rows_of_both v g S P = omega (arith, ap length (join_rows_lem g S (seen v P)), length_join_rows g S.rows (seen v P).rows, length_rows_seen v P.rows)

module _ {nodes rows out out' working working' : List ℕ} {p : Spot} {v : View} {g : Bool} (a : AskStep nodes rows p v g out out' working working') where
  -- in place, where neither has windows
  pub step_asks_append : windows a.S ≡ [] → windows a.P ≡ [] → AskAppend nodes rows p v g out out'
  step_asks_append s q =
      let both = rows_of_both v g a.S a.P in
      record {
        S = a.S;
        P = a.P;
        here_s = a.here_s;
        here_p = a.here_p;
        alone_s = s;
        alone_p = q;
        view_fine = a.view_fine;
        few_rows = omega (arith, both, a.room.fits.few_rows);
        within = moved_within g a.S a.P (sym (join_fits_seen g v a.S a.P) ∙ a.within);
        rows_fit = omega (arith, mul-le-mul_right row_width both, a.room.rows_fit);
      }
