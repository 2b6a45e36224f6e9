-- A view sets no offset: those of a join stay within 32 bits, or pass them, as they do without it.
-- Assumes nothing.
use mathlib.Core.Path.{◌≡◌, refl, sym, ap, ap₂, ◌∙◌}
use mathlib.Core.Bool.{Bool, ◌&&◌, and_assoc}
use mathlib.Core.List.{List, [], ◌∷◌, ◌++◌, map}
use Prim.Native.Nat.{ℕ}
use Rattle.record.specs.Tree.{Row, Range, Forest, none, node, Encoding, forest}
use Rattle.record.specs.Read.{all_ok}
use Rattle.join_trees.specs.Join.{moved, base, join_rows, with_each, each_with, join}
use Rattle.join_trees.specs.Offsets.{row_fits, offsets_fit, join_fits}
use Rattle.join_view.specs.declared.View.{View}
use Rattle.join_view.specs.declared.View.TheVariants.{Plain, Window, Piece}
use Rattle.join_view.specs.View.{below, typed_row, rows_seen, all_seen, seen}

fits_append : (s t : List Encoding) → offsets_fit (forest (s ++ t)) ≡ (offsets_fit (forest s) && offsets_fit (forest t))
unfolding offsets_fit
fits_append [] t = refl
fits_append (E ∷ s) t =
    let a = all_ok row_fits E.rows in
    let b = offsets_fit E.below in
    ap (λ (c : Bool). a && (b && c)) (fits_append s t)
    ∙ sym (and_assoc a (b && offsets_fit (forest s)) (offsets_fit (forest t)) ∙ ap (a &&◌) (and_assoc b (offsets_fit (forest s)) (offsets_fit (forest t))))

-- two lists of encodings, each of which fits as another does
fits_both : (s s' t t' : List Encoding) → offsets_fit (forest s) ≡ offsets_fit (forest s') → offsets_fit (forest t) ≡ offsets_fit (forest t') → offsets_fit (forest (s ++ t)) ≡ offsets_fit (forest (s' ++ t'))
fits_both s s' t t' e f = fits_append s t ∙ ap₂ ◌&&◌ e f ∙ sym (fits_append s' t')

-- ---- Rows

typed_fits : (t n : ℕ) (r rp : List Row) → all_ok row_fits (r ++ map (moved n) (map (typed_row t) rp)) ≡ all_ok row_fits (r ++ map (moved n) rp)
typed_fits t n [] [] = refl
typed_fits t n [] (p ∷ rp) = ap (row_fits (moved n p) &&◌) (typed_fits t n [] rp)
typed_fits t n (s ∷ r) rp = ap (row_fits s &&◌) (typed_fits t n r rp)

module _ (g : Bool) where
  own_fits : (v : View) (r rp : List Row) → all_ok row_fits (join_rows g r (rows_seen v rp)) ≡ all_ok row_fits (join_rows g r rp)
  own_fits Plain r rp = refl
  own_fits (Window k) r rp = refl
  own_fits (Piece k t) r rp = typed_fits t (base g r) r rp

  -- ---- Windows

  -- those that an encoding is joined with, as the windows w of it are joined with each
  module _ (r : List Row) (q : List Range) (w : Forest) (h : (v : View) (p : Encoding) → offsets_fit (forest (each_with g w (seen v p))) ≡ offsets_fit (forest (each_with g w p))) where
    with_each_fits : (v : View) (f : Forest) → offsets_fit (forest (with_each g r q (each_with g w) (all_seen v f))) ≡ offsets_fit (forest (with_each g r q (each_with g w) f))
    unfolding offsets_fit with_each
    with_each_fits v none = refl
    with_each_fits v (node rp qp wp x) =
        let p : Encoding = record { rows = rp; ranges = qp; below = wp } in
        let ws = fits_both (each_with g w (seen v p)) (each_with g w p) (with_each g r q (each_with g w) (all_seen (below v) wp)) (with_each g r q (each_with g w) wp) (h v p) (with_each_fits (below v) wp) in
        ap₂ ◌&&◌ (own_fits v r rp) (ap₂ ◌&&◌ ws (with_each_fits v x))

  each_with_fits : (f : Forest) (v : View) (P : Encoding) → offsets_fit (forest (each_with g f (seen v P))) ≡ offsets_fit (forest (each_with g f P))
  unfolding offsets_fit each_with
  each_with_fits none v P = refl
  each_with_fits (node r q w x) v P =
      let Q = seen v P in
      let each : Encoding → List Encoding = λ E. with_each g r q (each_with g w) E.below in
      let e = with_each_fits r q w (each_with_fits w) (below v) P.below in
      ap₂ ◌&&◌ (own_fits v r P.rows) (ap₂ ◌&&◌ (fits_both (each_with g w Q) (each_with g w P) (each Q) (each P) (each_with_fits w v P) e) (fits_both (each Q) (each P) (each_with g x Q) (each_with g x P) e (each_with_fits x v P)))

  pub join_fits_seen : (v : View) (S P : Encoding) → join_fits g S (seen v P) ≡ join_fits g S P
  unfolding offsets_fit join
  join_fits_seen v S P =
      let Q = seen v P in
      let each : Encoding → List Encoding = λ E. with_each g S.rows S.ranges (each_with g S.below) E.below in
      let ws = fits_both (each_with g S.below Q) (each_with g S.below P) (each Q) (each P) (each_with_fits S.below v P) (with_each_fits S.rows S.ranges S.below (each_with_fits S.below) (below v) P.below) in
      ap₂ ◌&&◌ (own_fits v S.rows P.rows) (ap (λ (b : Bool). b && offsets_fit none) ws)
