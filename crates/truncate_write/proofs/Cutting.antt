-- One encoding cut, decision by decision: what each way of writing it asks, and what it makes.
-- Assumes nothing.
use mathlib.Core.Path.{◌≡◌, refl, sym, ap, subst, ◌∙◌}
use Prim.Native.Nat.{ℕ, ◌+◌, ◌*◌, ◌-◌, ◌≤◌}
use native.Mathlib.Omega.{arith}
use mathlib.Core.List.{List, [], ◌∷◌, map}
use lib.ListN.{length, get_or}
use Rattle.record.specs.Tree.{Encoding, forest}
use Rattle.record.specs.Flat.{row_width, node_width}
use Rattle.cut_plan.specs.Cut.{windows_of, decision_of, rows_of, ceiling}
use Rattle.cut_plan.specs.declared.Direction.{Direction}
use Rattle.cut_plan.specs.declared.Decision.{Decision}
use Rattle.cut_plan.specs.declared.Decision.TheVariants.{Whole, Emptied, StrideRefused, Windows}
use Rattle.cut_plan.proofs.Windows.{windows_count, windows_rows}
use Rattle.cut_plan.proofs.Decides.{Says, decided}
use Rattle.record_extent.specs.declared.Extent.{Extent}
use Rattle.truncate_size.specs.Size.{size_cut}
use Rattle.cut_windows.specs.Made.{plain, stretch_of, gathered}
use Rattle.truncate_write.specs.Truncated.{truncated}
use Rattle.record.specs.Standing.{Here, Put}
use Rattle.cut_windows.specs.Promises.{AskWindows}
use Rattle.truncate_write.specs.Promises.{AskCopy, AskTruncating}
use Rattle.truncate_write.proofs.Sizes.{truncated_whole, truncated_emptied, truncated_cut, not_refused}
use Rattle.record.proofs.Here.{here_size, here_own}

-- ---- What each way asks

module _ {nodes rows : List ℕ} {i j : ℕ} {own : Extent} {max stride : ℕ} {nodes' : List ℕ} {a : ℕ} {rows' : List ℕ} {b : ℕ} (q : AskTruncating nodes rows i j own max stride nodes' a rows' b) where
  -- what is decided of the number that stands for the rows
  decided_here : {k : Decision} → k ≡ decision_of (get_or nodes i 0) max stride → decision_of (length q.E.rows) max stride ≡ k
  decided_here e = sym (e ∙ ap (λ (n : ℕ). decision_of n max stride) (here_size q.here))

  says_here : {k : Decision} → k ≡ decision_of (get_or nodes i 0) max stride → Says (length q.E.rows) max stride k
  says_here e = subst (Says (length q.E.rows) max stride) (decided_here e) (decided (length q.E.rows) max stride)

  fit_here : {k : Decision} → k ≡ decision_of (get_or nodes i 0) max stride → (a + (size_cut k (length q.E.rows) stride own).nodes * node_width ≤ length nodes') × (b + (size_cut k (length q.E.rows) stride own).rows * row_width ≤ length rows')
  fit_here e =
      subst (λ (k : Decision). (a + (size_cut k (length q.E.rows) stride own).nodes * node_width ≤ length nodes') × (b + (size_cut k (length q.E.rows) stride own).rows * row_width ≤ length rows')) (decided_here e)
      (q.nodes_fit, q.rows_fit)

  pub ask_whole : Whole ≡ decision_of (get_or nodes i 0) max stride → AskCopy nodes rows i j own nodes' a rows' b
  ask_whole e = let f = fit_here e in record { E = q.E; here = q.here; measured = q.measured; nodes_fit = f.0; rows_fit = f.1 }

  pub ask_emptied : Emptied ≡ decision_of (get_or nodes i 0) max stride → AskCopy nodes rows i j own nodes' (a + node_width) rows' b
  ask_emptied e = let f = fit_here e in record { E = q.E; here = q.here; measured = q.measured; nodes_fit = omega (arith, f.0); rows_fit = f.1 }

  pub ask_cut : {count : ℕ} (d : Direction) → Windows count ≡ decision_of (get_or nodes i 0) max stride → AskWindows rows j (get_or nodes i 0) max stride d nodes' a rows' b × (count ≡ length (windows_of (get_or nodes i 0) max stride d))
  ask_cut {count} d e =
      let (u, c) = says_here e in
      let f = fit_here e in
      let l : length (windows_of (length q.E.rows) max stride d) ≡ count = windows_count u d ∙ sym c in
      let m : ceiling (length q.E.rows - max) (max - stride) ≡ count - 1 = omega (arith, c) in
      let r : rows_of (windows_of (length q.E.rows) max stride d) ≡ length q.E.rows + (count - 1) * stride = windows_rows u d ∙ ap (λ (k : ℕ). length q.E.rows + k * stride) m in
      subst (λ (n : ℕ). AskWindows rows j n max stride d nodes' a rows' b × (count ≡ length (windows_of n max stride d))) (sym (here_size q.here))
      (record { R = q.E.rows; there = here_own q.here; size = refl; cut = u; nodes_fit = omega (arith, f.0, l); rows_fit = omega (arith, f.1, r) }, sym l)

  pub ask_refused : StrideRefused ≡ decision_of (get_or nodes i 0) max stride → ⊥
  ask_refused e = not_refused (length q.E.rows) max stride q.taken (says_here e)

-- ---- What each way makes

says : {nodes rows : List ℕ} {i j : ℕ} {E : Encoding} {k : Decision} (max stride : ℕ) → Here nodes rows i j (forest (E ∷ [])) → k ≡ decision_of (get_or nodes i 0) max stride → Says (length E.rows) max stride k
says {nodes} {rows} {i} {j} {E} max stride h e = subst (Says (length E.rows) max stride) (sym (e ∙ ap (λ (n : ℕ). decision_of n max stride) (here_size h))) (decided (length E.rows) max stride)

module _ {nodes rows : List ℕ} {i j : ℕ} {E : Encoding} (h : Here nodes rows i j (forest (E ∷ []))) (max stride : ℕ) (d : Direction) {nodes₀ : List ℕ} {a : ℕ} {rows₀ : List ℕ} {b : ℕ} {nodes₁ rows₁ : List ℕ} where
  made : {F : Encoding} → truncated max stride d E ≡ F → Put (F ∷ []) nodes₀ a rows₀ b nodes₁ rows₁ → Put (truncated max stride d E ∷ []) nodes₀ a rows₀ b nodes₁ rows₁
  made e p = subst (λ (F : Encoding). Put (F ∷ []) nodes₀ a rows₀ b nodes₁ rows₁) (sym e) p

  pub made_whole : Whole ≡ decision_of (get_or nodes i 0) max stride → Put (E ∷ []) nodes₀ a rows₀ b nodes₁ rows₁ → Put (truncated max stride d E ∷ []) nodes₀ a rows₀ b nodes₁ rows₁
  made_whole e p = made (truncated_whole max stride d E (says max stride h e)) p

  pub made_emptied : Emptied ≡ decision_of (get_or nodes i 0) max stride → Put (plain [] (E ∷ []) ∷ []) nodes₀ a rows₀ b nodes₁ rows₁ → Put (truncated max stride d E ∷ []) nodes₀ a rows₀ b nodes₁ rows₁
  made_emptied e p = let s = says max stride h e in made (truncated_emptied max stride d E s.0 s.1) p

  pub made_cut : {count : ℕ} → Windows count ≡ decision_of (get_or nodes i 0) max stride → Put (gathered (map (stretch_of E.rows) (windows_of (get_or nodes i 0) max stride d)) ∷ []) nodes₀ a rows₀ b nodes₁ rows₁ → Put (truncated max stride d E ∷ []) nodes₀ a rows₀ b nodes₁ rows₁
  made_cut e p = made (truncated_cut max stride d E (says max stride h e).0) (subst (λ (n : ℕ). Put (gathered (map (stretch_of E.rows) (windows_of n max stride d)) ∷ []) nodes₀ a rows₀ b nodes₁ rows₁) (here_size h) p)
