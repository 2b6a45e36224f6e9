-- What padding keeps and what it makes: shape, row counts, nodes that are long enough, padding twice, well-formedness.
-- Assumes nothing.
use mathlib.Core.Path.{◌≡◌, refl, sym, ap, ap₂, subst, ◌∙◌}
use mathlib.Core.Bool.{Bool, true, false, cond}
use mathlib.Core.Logic.{inl, inr}
use Prim.Native.Nat.{ℕ, ◌+◌, ◌-◌, ◌≤◌, max}
use native.Mathlib.Nat.{add-zero}
use native.Mathlib.Omega.{arith}
use mathlib.Core.List.{List, [], ◌∷◌, map, append-nil}
use lib.Dec.{eqb}
use lib.ListN.{length, replicate, length-append, length-replicate, length-map}
use Rattle.record.specs.Tree.{Row, Range, Forest, none, node, Encoding, listed, tops}
use Rattle.lists.specs.Lists.{All}
use Rattle.record.specs.WellFormed.{RangeFine, RowFine, Fine, WellFormed, nodes_in, rows_in, levels, most_rows}
use Rattle.lists.proofs.All.{all_imp, all_append, all_map, all_replicate}
use Rattle.cut_plan.specs.declared.Direction.{Direction}
use Rattle.cut_plan.specs.declared.Direction.TheVariants.{Left, Right}
use Rattle.pad_rows.specs.declared.PadToken.{PadToken}
use Rattle.pad_write.specs.Padded.{padded}
use Rattle.pad_length.specs.Target.{rows_with}
use Rattle.pad_nodes.specs.Shifted.{shifted_present, padded_ranges}
use Rattle.pad_rows.specs.NewRows.{pad_row, beside, padded_rows}

-- ---- The rows of a node

pub length_beside : {A : Type 0} (d : Direction) (new own : List A) → length (beside d new own) ≡ length new + length own
length_beside Left new own = length-append new own
length_beside Right new own = omega (arith, length-append own new)

all_beside : {A : Type 0} (M : A → Type 0) (d : Direction) (new own : List A) → All M new → All M own → All M (beside d new own)
all_beside M Left new own h k = all_append M new own h k
all_beside M Right new own h k = all_append M own new k h

-- as many as before, or as the target
pub padded_length : (target : ℕ) (token : PadToken) (d : Direction) (r : List Row) → length (padded_rows target token d r) ≡ max (length r) target
padded_length target token d r = omega (arith, length_beside d (replicate (target - length r) (pad_row token)) r, length-replicate (target - length r) (pad_row token))

-- ---- A node that is long enough is unchanged

shifted_none : (p : Range) → shifted_present 0 p ≡ p
shifted_none p = go (eqb p.present 0)
  where
    go : (b : Bool) → cond b p (record { present = p.present; start = p.start + 0; end = p.end + 0 }) ≡ p
    go true = refl
    go false = ap₂ (λ (s e : ℕ). record { present = p.present; start = s; end = e }) (add-zero p.start) (add-zero p.end)

ranges_none : (d : Direction) (q : List Range) → padded_ranges d 0 q ≡ q
ranges_none Right q = refl
ranges_none Left [] = refl
ranges_none Left (p ∷ q) = ap₂ ◌∷◌ (shifted_none p) (ranges_none Left q)

beside_none : (d : Direction) (r : List Row) → beside d [] r ≡ r
beside_none Left r = refl
beside_none Right r = append-nil r

module _ (target : ℕ) (token : PadToken) (d : Direction) where
  long_rows : (r : List Row) → target ≤ length r → padded_rows target token d r ≡ r
  long_rows r h = let z : target - length r ≡ 0 = omega arith in ap (λ (k : ℕ). beside d (replicate k (pad_row token)) r) z ∙ beside_none d r

  long_ranges : (n : ℕ) (q : List Range) → target ≤ n → padded_ranges d (target - n) q ≡ q
  long_ranges n q h = let z : target - n ≡ 0 = omega arith in ap (λ (k : ℕ). padded_ranges d k q) z ∙ ranges_none d q

  -- "A node already long enough is unchanged."
  pub padded_long : (r : List Row) (q : List Range) (w x : Forest) → target ≤ length r → padded target token d (node r q w x) ≡ node r q (padded target token d w) (padded target token d x)
  padded_long r q w x h = ap₂ (λ (r : List Row) (q : List Range). node r q (padded target token d w) (padded target token d x)) (long_rows r h) (long_ranges (length r) q h)

  -- padding twice is padding once
  pub padded_again : (f : Forest) → padded target token d (padded target token d f) ≡ padded target token d f
  padded_again none = refl
  padded_again (node r q w x) =
      padded_long (padded_rows target token d r) (padded_ranges d (target - length r) q) (padded target token d w) (padded target token d x) (omega (arith, padded_length target token d r))
      ∙ ap₂ (node (padded_rows target token d r) (padded_ranges d (target - length r) q)) (padded_again w) (padded_again x)

  -- ---- The shape is kept, and the rows are counted

  -- encodings side by side are padded each by itself, with its windows
  abbrev pub padded_encoding : Encoding → Encoding
  padded_encoding E = record { rows = padded_rows target token d E.rows; ranges = padded_ranges d (target - length E.rows) E.ranges; below = padded target token d E.below }

  pub padded_listed : (f : Forest) → listed (padded target token d f) ≡ map padded_encoding (listed f)
  padded_listed none = refl
  padded_listed (node r q w x) = ap (padded_encoding (record { rows = r; ranges = q; below = w }) ∷◌) (padded_listed x)

  pub padded_tops : (f : Forest) → tops (padded target token d f) ≡ tops f
  padded_tops none = refl
  padded_tops (node r q w x) = omega (arith, padded_tops x)

  pub padded_nodes : (f : Forest) → nodes_in (padded target token d f) ≡ nodes_in f
  padded_nodes none = refl
  padded_nodes (node r q w x) = omega (arith, padded_nodes w, padded_nodes x)

  pub padded_levels : (f : Forest) → levels (padded target token d f) ≡ levels f
  padded_levels none = refl
  padded_levels (node r q w x) = omega (arith, padded_levels w, padded_levels x)

  pub padded_rows_lem : (f : Forest) → rows_in (padded target token d f) ≡ rows_with target f
  padded_rows_lem none = refl
  padded_rows_lem (node r q w x) = omega (arith, padded_length target token d r, padded_rows_lem w, padded_rows_lem x)

-- ---- Well-formed encodings stay so, within the limits

shifted_fine : (n k : ℕ) (p : Range) → RangeFine n p → RangeFine (n + k) (shifted_present k p)
shifted_fine n k p (inl e) = inl (ap (shifted_present k) e)
shifted_fine n k p (inr (a, b, c)) = subst (RangeFine (n + k)) (ap (λ (m : ℕ). cond (eqb m 0) p (record { present = p.present; start = p.start + k; end = p.end + k })) (sym a)) (inr (a, omega arith, omega arith))

pub length_ranges : (d : Direction) (n : ℕ) (q : List Range) → length (padded_ranges d n q) ≡ length q
length_ranges Left n q = length-map q (shifted_present n)
length_ranges Right n q = refl

module _ (target : ℕ) (token : PadToken) (d : Direction) where
  rows_fine : (r : List Row) → All RowFine r → All RowFine (padded_rows target token d r)
  rows_fine r h = all_beside RowFine d (replicate (target - length r) (pad_row token)) r (all_replicate RowFine (target - length r) (pad_row token) (omega arith, inl (refl, refl))) h

  ranges_fine : (d : Direction) (n : ℕ) (q : List Range) → All (RangeFine n) q → All (RangeFine (n + (target - n))) (padded_ranges d (target - n) q)
  ranges_fine Left n q h = all_map (RangeFine n) (RangeFine (n + (target - n))) (shifted_present (target - n)) q (shifted_fine n (target - n)) h
  ranges_fine Right n q h = all_imp q (wider n) h
    where
      wider : (n : ℕ) (p : Range) → RangeFine n p → RangeFine (n + (target - n)) p
      wider n p (inl e) = inl e
      wider n p (inr (a, b, c)) = inr (a, b, omega arith)

  pub padded_fine : (f : Forest) → Fine f → Fine (padded target token d f)
  padded_fine none h = tt
  padded_fine (node r q w x) (n, hw, hx) =
      let e : length r + (target - length r) ≡ length (padded_rows target token d r) = omega (arith, padded_length target token d r) in (
        record {
          places = length_ranges d (target - length r) q ∙ n.places;
          ranges_fine = subst (λ (k : ℕ). All (RangeFine k) (padded_ranges d (target - length r) q)) e (ranges_fine d (length r) q n.ranges_fine);
          rows_fine = rows_fine r n.rows_fine;
        },
        padded_fine w hw,
        padded_fine x hx,
      )

  pub padded_well : (f : Forest) → WellFormed f → rows_with target f ≤ most_rows → WellFormed (padded target token d f)
  padded_well f h few =
      record {
        fine = padded_fine f h.fine;
        fits = record { few_nodes = omega (arith, padded_nodes target token d f, h.fits.few_nodes); few_rows = omega (arith, padded_rows_lem target token d f); few_levels = omega (arith, padded_levels target token d f, h.fits.few_levels) };
      }
