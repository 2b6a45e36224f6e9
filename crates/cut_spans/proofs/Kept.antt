-- A cut keeps the span: its windows have no other rows than there were, and together they have all of them.
-- Assumes nothing.
use mathlib.Core.Path.{◌≡◌, refl, sym, ap, subst, ◌∙◌}
use mathlib.Core.Option.{Option}
use Prim.Native.Nat.{ℕ, ◌-◌}
use mathlib.Core.List.{List, [], ◌∷◌, map, flat_map, reverse, append-nil, reverse-cons}
use lib.ListN.{length, drop}
use Rattle.lists.specs.Lists.{All}
use Rattle.lists.proofs.All.{all_map, all_append}
use Rattle.record.specs.Tree.{Row, Encoding, forest, windows}
use Rattle.record.specs.Walk.{all_encodings}
use Rattle.record.specs.declared.Bounds.{Bounds}
use Rattle.record.proofs.Tree.{listed_forest}
use Rattle.cut_plan.specs.Cut.{Cuts, windows_of}
use Rattle.cut_plan.specs.declared.Direction.{Direction}
use Rattle.cut_plan.specs.declared.Direction.TheVariants.{Left, Right}
use Rattle.cut_windows.specs.Made.{stretch_of, gathered}
use Rattle.truncate_write.specs.Truncated.{truncated}
use Rattle.truncate_write.proofs.Sizes.{truncated_cut}
use Rattle.cut_cover.specs.Cover.{text_order, rejoined}
use Rattle.cut_cover.proofs.Cover.{cut_stretches, rebuilt}
use Rattle.lookup_spans.specs.Spans.{Span, among, span_of}
use Rattle.lookup_spans.proofs.Spans.{Within, within_both, within_step, within_joint, within_among, within_each, span_nothing, span_append, span_take, span_drop}
use Rattle.cut_spans.specs.Kept.{spans_of, SpanKept}

-- ---- Rows of the windows are rows that were there

module _ (R : List Row) where
  stretch_within : (b : Bounds) → Within (span_of (stretch_of R b).rows) (span_of R)
  stretch_within b =
      let D = drop b.start R in
      within_step (span_of (stretch_of R b).rows) (span_of D) (span_of R) (span_take (b.end - b.start) D) (span_drop b.start R)

  stretches_within : (bs : List Bounds) → All (λ (W : Encoding). Within (span_of W.rows) (span_of R)) (map (stretch_of R) bs)
  stretches_within [] = tt
  stretches_within (b ∷ bs) = (stretch_within b, stretches_within bs)

-- ---- And all of them

module _ (s : Option Span) where
  -- what is put together again has no other rows than the windows
  dropped_within : (stride : ℕ) (ws : List (List Row)) → All (λ (w : List Row). Within (span_of w) s) ws → Within (span_of (flat_map (drop stride) ws)) s
  unfolding flat_map
  dropped_within stride [] h = subst (λ (a : Option Span). Within a s) (sym span_nothing) refl
  dropped_within stride (w ∷ ws) (h, hs) =
      subst (λ (a : Option Span). Within a s) (sym (span_append (drop stride w) (flat_map (drop stride) ws)))
      (within_joint (span_of (drop stride w)) (span_of (flat_map (drop stride) ws)) s (within_step (span_of (drop stride w)) (span_of w) s (span_drop stride w) h) (dropped_within stride ws hs))

  rejoined_within : (stride : ℕ) (ws : List (List Row)) → All (λ (w : List Row). Within (span_of w) s) ws → Within (span_of (rejoined stride ws)) s
  rejoined_within stride [] h = subst (λ (a : Option Span). Within a s) (sym span_nothing) refl
  rejoined_within stride (w ∷ ws) (h, hs) =
      subst (λ (a : Option Span). Within a s) (sym (span_append w (flat_map (drop stride) ws)))
      (within_joint (span_of w) (span_of (flat_map (drop stride) ws)) s h (dropped_within stride ws hs))

-- in either order
all_ordered : {A : Type 0} (M : A → Type 0) (d : Direction) (l : List A) → All M l → All M (text_order d l)
all_ordered M Right l h = h
all_ordered {A} M Left l h = back l h
  where
    back : (l : List A) → All M l → All M (reverse l)
    back [] h = tt
    back (x ∷ l) (m, h) = subst (All M) (sym (reverse-cons x l)) (all_append M (reverse l) (x ∷ []) (back l h) (m, tt))

-- ---- All nodes

stretches_alone : (R : List Row) (bs : List Bounds) → all_encodings (forest (map (stretch_of R) bs)) ≡ map (stretch_of R) bs
unfolding all_encodings
stretches_alone R [] = refl
stretches_alone R (b ∷ bs) = ap (stretch_of R b ∷◌) (stretches_alone R bs)

-- the windows of a cut have none of their own
gathered_alone : (R : List Row) (bs : List Bounds) → let T = gathered (map (stretch_of R) bs) in all_encodings (forest (T ∷ [])) ≡ T ∷ windows T
unfolding all_encodings
gathered_alone R [] = refl
gathered_alone R (b ∷ bs) = ap (gathered (map (stretch_of R) (b ∷ bs)) ∷◌) (append-nil _ ∙ stretches_alone R bs ∙ sym (listed_forest (map (stretch_of R) bs)))

-- ---- The span is kept

module _ (max stride : ℕ) (d : Direction) (E : Encoding) (u : Cuts (length E.rows) max stride) where
  abbrev T : Encoding
  T = truncated max stride d E

  abbrev of : Encoding → Option Span
  of W = span_of W.rows

  abbrev all_of : Option Span
  all_of = among (spans_of (T ∷ windows T))

  inside : All (λ (W : Encoding). Within (of W) (of E)) (T ∷ windows T)
  inside = subst (All (λ (W : Encoding). Within (of W) (of E))) (sym (cut_stretches max stride d E u)) (stretches_within E.rows (windows_of (length E.rows) max stride d))

  covers : Within (of E) all_of
  covers =
      let M : List Row → Type 0 = λ w. Within (span_of w) all_of in
      let ws : List (List Row) = map (λ (W : Encoding). W.rows) (T ∷ windows T) in
      subst M (rebuilt max stride d E u)
      (rejoined_within all_of stride (text_order d ws) (all_ordered M d ws (all_map (λ (W : Encoding). Within (of W) all_of) M (λ (W : Encoding). W.rows) (T ∷ windows T) (λ W h. h) (within_each of (T ∷ windows T)))))

  same : all_of ≡ of E
  same = within_both all_of (of E) (within_among of (T ∷ windows T) (of E) inside) covers

  alone : all_encodings (forest (T ∷ [])) ≡ T ∷ windows T
  alone = subst (λ (F : Encoding). all_encodings (forest (F ∷ [])) ≡ F ∷ windows F) (sym (truncated_cut max stride d E u)) (gathered_alone E.rows (windows_of (length E.rows) max stride d))

  pub span_kept : SpanKept E (truncated max stride d E)
  span_kept = record { kept = same; kept_in_all = ap (λ (l : List Encoding). among (spans_of l)) alone ∙ same }
