-- The empty encoding is a left and a right unit of join.
-- Assumes nothing.
use mathlib.Core.Path.{◌≡◌, refl, ap, ap₂, ◌∙◌}
use mathlib.Core.Bool.{Bool, true, false}
use mathlib.Core.Logic.{inl, inr}
use mathlib.Core.List.{List, [], ◌∷◌, map, flat_map, append-nil}
use Prim.Native.Nat.{ℕ, zero, suc}
use native.Mathlib.Nat.{add-zero}
use native.Mathlib.Omega.{arith}
use lib.ListN.{length, replicate}
use Rattle.record.specs.Tree.{Row, Range, Forest, none, node, Encoding, listed, forest, windows, encoding, sequences, absent, empty}
use Rattle.lists.specs.Lists.{All}
use Rattle.record.specs.WellFormed.{RangeFine, NodeFine, Fine, FineEncoding}
use Rattle.record.proofs.Tree.{forest_listed}
use Rattle.join_trees.specs.Join.{moved, base, choose, join_ranges, join}
use Rattle.join_trees.proofs.Join.{join_node}
use Rattle.join_trees.proofs.Rows.{chosen}

moved_zero : (r : Row) → moved 0 r ≡ r
moved_zero r = λ i. record { id = r.id; type_id = r.type_id; pool = r.pool; text_start = r.text_start; text_length = r.text_length; word_mark = r.word_mark; word = r.word; offset_start = add-zero r.offset_start i; offset_end = add-zero r.offset_end i; special = r.special; attention = r.attention }

pub moved_zeros : (rs : List Row) → map (moved 0) rs ≡ rs
moved_zeros [] = refl
moved_zeros (r ∷ rs) = ap₂ ◌∷◌ (moved_zero r) (moved_zeros rs)

base_none : (g : Bool) → base g [] ≡ 0
base_none true = refl
base_none false = refl

choose_absent : (n : ℕ) (p : Range) → RangeFine n p → choose p.present 0 absent p ≡ p
choose_absent n p (inl e) = rw e
choose_absent n p (inr (h, f, t)) = chosen 0 0 absent p p.present h ∙ λ i. record { present = p.present; start = add-zero p.start i; end = add-zero p.end i }

ranges_absent : (n k : ℕ) (ps : List Range) → length ps ≡ k → All (RangeFine n) ps → join_ranges 0 (replicate k absent) ps ≡ ps
ranges_absent n zero [] e t = refl
ranges_absent n zero (p ∷ ps) e t = absurd (omega arith)
ranges_absent n (suc k) [] e t = absurd (omega arith)
ranges_absent n (suc k) (p ∷ ps) e (t, ts) = ap₂ ◌∷◌ (choose_absent n p t) (ranges_absent n k ps (omega arith) ts)

ranges_kept : (m k : ℕ) (qs : List Range) → length qs ≡ k → join_ranges m qs (replicate k absent) ≡ qs
ranges_kept m k [] e = refl
ranges_kept m zero (p ∷ ps) e = absurd (omega arith)
ranges_kept m (suc k) (p ∷ ps) e = ap (p ∷◌) (ranges_kept m k ps (omega arith))

encoding_is : (E : Encoding) {r : List Row} {q : List Range} {ws : List Encoding} → r ≡ E.rows → q ≡ E.ranges → ws ≡ windows E → encoding r q ws ≡ E
encoding_is E p p' p'' = λ i. record { rows = p i; ranges = p' i; below = (ap forest p'' ∙ forest_listed E.below) i }

module _ (g : Bool) where
  left_step : (P : Encoding) → NodeFine P.rows P.ranges → map (join g empty) (windows P) ≡ windows P → join g empty P ≡ P
  unfolding flat_map
  left_step P n ws =
      join_node g empty P
      ∙ encoding_is P (ap (λ (n : ℕ). map (moved n) P.rows) (base_none g) ∙ moved_zeros P.rows) (ranges_absent _ sequences P.ranges n.places n.ranges_fine) ws

  left_units : (f : Forest) → Fine f → map (join g empty) (listed f) ≡ listed f
  left_units none t = refl
  left_units (node r q w x) (n, tw, tx) = ap₂ ◌∷◌ (left_step (record { rows = r; ranges = q; below = w }) n (left_units w tw)) (left_units x tx)

  pub left_unit : (P : Encoding) → FineEncoding P → join g empty P ≡ P
  left_unit P (n, t) = left_step P n (left_units P.below t)

  right_step : (S : Encoding) → NodeFine S.rows S.ranges → flat_map (λ s. join g s empty ∷ []) (windows S) ≡ windows S → join g S empty ≡ S
  right_step S n ws =
      join_node g S empty
      ∙ encoding_is S (append-nil S.rows) (ranges_kept (length S.rows) sequences S.ranges n.places) (append-nil _ ∙ ws)

  right_units : (f : Forest) → Fine f → flat_map (λ s. join g s empty ∷ []) (listed f) ≡ listed f
  unfolding flat_map
  right_units none t = refl
  right_units (node r q w x) (n, tw, tx) = ap₂ ◌∷◌ (right_step (record { rows = r; ranges = q; below = w }) n (right_units w tw)) (right_units x tx)

  pub right_unit : (S : Encoding) → FineEncoding S → join g S empty ≡ S
  right_unit S (n, t) = right_step S n (right_units S.below t)
