-- Offsets within 32 bits: the last step of a fold tells of all of them, and a join that does not grow keeps them.
-- Assumes nothing.
use mathlib.Core.Path.{◌≡◌, refl}
use mathlib.Core.Bool.{Bool, true, false, ◌&&◌, false≢true}
use mathlib.Core.List.{List, [], ◌∷◌, map}
use Prim.Native.Nat.{ℕ, ◌≤◌}
use native.Mathlib.Omega.{arith}
use Rattle.record.specs.Tree.{Row, Range, Forest, none, node, Encoding, forest, empty}
use Rattle.lists.specs.Lists.{All}
use Rattle.lists.proofs.All.{all_first, all_last, all_append, all_map}
use Rattle.record.specs.Read.{all_ok}
use Rattle.record.proofs.WellFormed.{Tells, tells_le, tells_and, tells_and₃, tells_same}
use Rattle.join_trees.specs.Join.{moved, base, join_rows, join, fold_from, fold}
use Rattle.join_trees.specs.Offsets.{most_offset, MovedWithin, row_fits, offsets_fit, join_fits, steps_fit, fold_fits}
use Rattle.join_trees.proofs.Each.{Each, join_each, join_each_left, join_each_right}

-- ---- What the test says

abbrev pub RowFits : Row → Type 0
RowFits r = (r.offset_start ≤ most_offset) × (r.offset_end ≤ most_offset)

-- of the rows of a node; its ranges do not matter
abbrev pub RowsFit : List Row → List Range → Type 0
RowsFit r q = All RowFits r

abbrev pub OffsetsFit : Forest → Type 0
OffsetsFit f = Each RowsFit f

tells_rows : (rs : List Row) → Tells (all_ok row_fits rs) (All RowFits rs)
tells_rows [] = record { so = λ e. tt; back = λ u. refl }
tells_rows (r ∷ rs) = tells_and (tells_and (tells_le r.offset_start most_offset) (tells_le r.offset_end most_offset)) (tells_rows rs)

pub tells_offsets : (f : Forest) → Tells (offsets_fit f) (OffsetsFit f)
unfolding offsets_fit
tells_offsets none = record { so = λ e. tt; back = λ u. refl }
tells_offsets (node r q w x) = tells_and₃ (tells_rows r) (tells_offsets w) (tells_offsets x)

-- ---- The rows of a join

moved_back : (n : ℕ) (ps : List Row) → All RowFits (map (moved n) ps) → MovedWithin n ps
moved_back n [] u = tt
moved_back n (p ∷ ps) (u, us) = (u, moved_back n ps us)

-- What a step writes stays within, if S's rows do and P's do when moved.
pub rows_fit : (g : Bool) (rs ps : List Row) → All RowFits rs → MovedWithin (base g rs) ps → All RowFits (join_rows g rs ps)
rows_fit g rs ps s p = all_append RowFits rs _ s (all_map _ RowFits (moved (base g rs)) ps (λ r h. h) p)

pub rows_fit_left : (g : Bool) (rs ps : List Row) → All RowFits (join_rows g rs ps) → All RowFits rs
rows_fit_left g rs ps h = all_first RowFits rs (map (moved (base g rs)) ps) h

pub rows_fit_right : (g : Bool) (rs ps : List Row) → All RowFits (join_rows g rs ps) → MovedWithin (base g rs) ps
rows_fit_right g rs ps h = moved_back (base g rs) ps (all_last RowFits rs (map (moved (base g rs)) ps) h)

unmoved : (n : ℕ) (ps : List Row) → MovedWithin n ps → All RowFits ps
unmoved n [] u = tt
unmoved n (p ∷ ps) (u, us) = ((omega (arith, u.0), omega (arith, u.1)), unmoved n ps us)

still : (ps : List Row) → All RowFits ps → MovedWithin 0 ps
still [] u = tt
still (p ∷ ps) (u, us) = ((omega (arith, u.0), omega (arith, u.1)), still ps us)

-- ---- A join

module _ (g : Bool) (S P : Encoding) where
  pub join_fits_left : OffsetsFit (forest (join g S P ∷ [])) → OffsetsFit (forest (S ∷ []))
  join_fits_left = join_each_left g RowsFit RowsFit (λ r q rp qp h. rows_fit_left g r rp h) S P

  pub join_fits_right : OffsetsFit (forest (join g S P ∷ [])) → OffsetsFit (forest (P ∷ []))
  join_fits_right = join_each_right g RowsFit RowsFit (λ r q rp qp h. unmoved (base g r) rp (rows_fit_right g r rp h)) S P

-- Without growing nothing moves.
pub join_fits_still : (S P : Encoding) → OffsetsFit (forest (S ∷ [])) → OffsetsFit (forest (P ∷ [])) → join_fits false S P ≡ true
join_fits_still S P s p =
    (tells_offsets (forest (join false S P ∷ []))).back
    (join_each false RowsFit RowsFit RowsFit (λ r q rp qp a b. rows_fit false r rp a (still rp b)) S P s p)

-- ---- A fold

module _ (g : Bool) where
  -- what holds of the whole fold holds of its first steps
  pub fold_fits_back : (S : Encoding) (Ps : List Encoding) → OffsetsFit (forest (fold_from g S Ps ∷ [])) → OffsetsFit (forest (S ∷ []))
  fold_fits_back S [] h = h
  fold_fits_back S (P ∷ Ps) h = join_fits_left g S P (fold_fits_back (join g S P) Ps h)

  tells_steps : (S : Encoding) (Ps : List Encoding) → OffsetsFit (forest (S ∷ [])) → Tells (steps_fit g S Ps) (OffsetsFit (forest (fold_from g S Ps ∷ [])))
  unfolding steps_fit
  tells_steps S [] s = record { so = λ e. s; back = λ u. refl }
  tells_steps S (P ∷ Ps) s =
      let J = forest (join g S P ∷ []) in
      let t : OffsetsFit J → Tells (steps_fit g (join g S P) Ps) (OffsetsFit (forest (fold_from g (join g S P) Ps ∷ []))) = tells_steps (join g S P) Ps in
      record {
        so = λ e. let p = split (join_fits g S P) e in (t ((tells_offsets J).so p.0)).so p.1;
        back = λ h.
            let j = fold_fits_back (join g S P) Ps h in
            rw ((tells_offsets J).back j) ((t j).back h);
      }
    where
      split : (a : Bool) {b : Bool} → (a && b) ≡ true → (a ≡ true) × (b ≡ true)
      split true e = (refl, e)
      split false e = absurd (false≢true e)

  pub tells_fold : (Ps : List Encoding) → Tells (fold_fits g Ps) (OffsetsFit (forest (fold g Ps ∷ [])))
  tells_fold Ps = tells_steps empty Ps (tt, tt, tt)

  -- "any offset at any step": the steps stay within exactly if the fold does.
  pub steps_fit_lem : (Ps : List Encoding) → fold_fits g Ps ≡ offsets_fit (forest (fold g Ps ∷ []))
  steps_fit_lem Ps = tells_same (tells_fold Ps) (tells_offsets (forest (fold g Ps ∷ [])))

-- Without growing no step passes.
pub fold_fits_still : (Ps : List Encoding) → OffsetsFit (forest Ps) → fold_fits false Ps ≡ true
unfolding steps_fit
fold_fits_still Ps h = go empty Ps (tt, tt, tt) h
  where
    go : (S : Encoding) (Ps : List Encoding) → OffsetsFit (forest (S ∷ [])) → OffsetsFit (forest Ps) → steps_fit false S Ps ≡ true
    go S [] s h = refl
    go S (P ∷ Ps) s (m, w, x) =
        let j = join_fits_still S P s (m, w, tt) in
        rw j (go (join false S P) Ps ((tells_offsets (forest (join false S P ∷ []))).so j) x)
