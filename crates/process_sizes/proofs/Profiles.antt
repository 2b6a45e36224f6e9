-- Profiles of what steps join: a view changes no size, and rows without windows are one node.
-- Assumes nothing.
use mathlib.Core.Path.{◌≡◌, refl, ap, sym, ◌∙◌, subst}
use mathlib.Core.Bool.{false}
use mathlib.Core.List.{List, [], ◌∷◌, map}
use Prim.Native.Nat.{ℕ, zero, suc, ◌≤◌, ◌<◌}
use native.Mathlib.Omega.{arith}
use lib.ListN.{length, set, replicate, length-replicate}
use borrow.Author.Tests.{le-leb}
use Rattle.record.specs.Tree.{Row, Range, Encoding, windows, encoding, absent, sequences}
use Rattle.record.specs.WellFormed.{most_rows}
use Rattle.join_trees.proofs.Sizes.{no_more_fits, join_no_less_right}
use Rattle.join_levels.specs.declared.Profile.{Profile}
use Rattle.std.specs.Prelude.{None}
use Rattle.join_levels.specs.Levels.{sum, weight_at, counted_once, ProfileOf, Profiled, Measured}
use Rattle.join_table.specs.Table.{level_count, at}
use Rattle.join_levels.specs.Promises.{SizesJoin}
use Rattle.join_table.proofs.Passes.{zeros}
use Rattle.template_entries.specs.Table.{no_member}
use Rattle.template_entries.specs.Rows.{special_row, members_of}
use Rattle.join_view.specs.declared.View.{View}
use Rattle.join_view.specs.declared.View.TheVariants.{Piece as PieceView}
use Rattle.join_view.specs.View.{below, rows_seen, seen}
use Rattle.join_view.proofs.Seen.{seen_windows, length_rows_seen, levels_seen}
use Rattle.join_trees.proofs.Windowless.{no_windows}
use Rattle.process_steps.specs.declared.Step.{Step}
use Rattle.process_steps.specs.declared.Step.TheVariants.{First, Second, Special}
use Rattle.process_rows.specs.Promises.{Alone}
use Rattle.process_sizes.specs.Promises.{ProfilesAlone, MeasuresAlone, MeasuresStep}
use Rattle.process_rows.proofs.Alone.{alone_special}
use Rattle.process_sizes.proofs.Alone.{alone_sizes}

-- ---- Seen through a view

module _ (c : List Row → ℕ) (same : (v : View) (r : List Row) → c (rows_seen v r) ≡ c r) where
  weight_seen : (d : ℕ) (v : View) (E : Encoding) → weight_at c d (seen v E) ≡ weight_at c d E
  unfolding weight_at
  weight_seen zero v E = same v E.rows
  weight_seen (suc d) v E = ap (λ (l : List Encoding). sum (map (weight_at c d) l)) (seen_windows v E) ∙ each (weight_seen d (below v)) (windows E)
    where
      each : ((F : Encoding) → weight_at c d (seen (below v) F) ≡ weight_at c d F) → (l : List Encoding) → sum (map (weight_at c d) (map (seen (below v)) l)) ≡ sum (map (weight_at c d) l)
      each same [] = refl
      each same (F ∷ l) = omega (arith, same F, each same l)

seen_profile : {E : Encoding} {p : Profile} (v : View) → ProfileOf E p → ProfileOf (seen v E) p
seen_profile {E} v o = record {
  deep = o.deep ∙ sym (levels_seen (below v) E.below);
  nodes = λ d. o.nodes d ∙ sym (weight_seen counted_once (λ v r. refl) d v E);
  rows = λ d. o.rows d ∙ sym (weight_seen length length_rows_seen d v E);
}

-- ---- Rows without windows

abbrev rows_profile : ℕ → Profile
rows_profile n = record { nodes = set (replicate level_count 0) 0 1; rows = set (replicate level_count 0) 0 n; levels = 0 }

node_profile : (r : List Row) (q : List Range) (n : ℕ) → length r ≡ n → ProfileOf (encoding r q []) (rows_profile n)
unfolding weight_at
node_profile r q n e = record { deep = refl; nodes = nodes_are; rows = rows_are }
  where
    nodes_are : (d : ℕ) → at (set (replicate level_count 0) 0 1) d ≡ weight_at counted_once d (encoding r q [])
    nodes_are zero = refl
    nodes_are (suc d) = zeros level_count (suc d)

    rows_are : (d : ℕ) → at (set (replicate level_count 0) 0 n) d ≡ weight_at length d (encoding r q [])
    rows_are zero = sym e
    rows_are (suc d) = zeros level_count (suc d)

pub alone_profile : (n : ℕ) → ProfilesAlone n (rows_profile n)
alone_profile n P h = subst (λ (E : Encoding). ProfileOf E (rows_profile n)) (sym (no_windows P h.no_windows)) (node_profile P.rows P.ranges n h.rows_are)

-- so many rows that are within the limit
pub alone_profiled : {p : Profile} (n : ℕ) → n ≤ most_rows → ProfilesAlone n p → Profiled p
alone_profiled {p} n l is =
    let E = encoding (replicate n (special_row 0 no_member)) (replicate sequences absent) [] in
    let a : Alone E n = record { no_windows = refl; rows_are = length-replicate n (special_row 0 no_member) } in
    record { E = E; is = is E a; fits = ((alone_sizes a).fitting (le-leb n most_rows l)).limits }

-- ---- Joined to what was folded so far

-- more than the limit are too large
pub alone_many : {so_far : Profile} {n : ℕ} → most_rows < n → MeasuresAlone so_far n None
alone_many l S P os h = λ f. omega (arith, h.rows_are, (no_more_fits (join_no_less_right false S P) f).few_rows)

pub alone_joined : {so_far p : Profile} {n : ℕ} (r : Measured) → ProfilesAlone n p → SizesJoin so_far p r → MeasuresAlone so_far n r
alone_joined r is sized S P os h = sized false S P os (is P h)

module _ (entries : List ℕ) {so_far first second : Profile} {s : Step} (r : Measured) where
  by_kind : {s' : Step} → s ≡ s' → MeasuresStep so_far entries s' first second r → MeasuresStep so_far entries s first second r
  by_kind e m = subst (λ (k : Step). MeasuresStep so_far entries k first second r) (sym e) m

  pub first_joined : (t : ℕ) → s ≡ First t → SizesJoin so_far first r → MeasuresStep so_far entries s first second r
  first_joined t e sized = by_kind e (λ S members E o os oe of h. sized false S _ os (seen_profile (PieceView 0 t) oe))

  pub second_joined : (t : ℕ) → s ≡ Second t → SizesJoin so_far second r → MeasuresStep so_far entries s first second r
  second_joined t e sized = by_kind e (λ S members E o os oe of h. sized false S _ os (seen_profile (PieceView 1 t) of))

  pub special_joined : (t entry n : ℕ) → s ≡ Special t entry → n ≡ (members_of entries entry).count → MeasuresAlone so_far n r → MeasuresStep so_far entries s first second r
  special_joined t entry n e k measured = by_kind e (λ S members E o os oe of h. measured S _ os (rw k (alone_special t entry h)))
