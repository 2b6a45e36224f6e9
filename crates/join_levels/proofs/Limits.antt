-- The sizing of profiles is that of encodings.
-- Assumes nothing.
use mathlib.Core.Path.{◌≡◌, ap, ap₂, sym, ◌∙◌, fun_ext}
use mathlib.Core.Bool.{Bool, true, false}
use mathlib.Core.Logic.{⊎_elim}
use mathlib.Core.List.{List, [], ◌∷◌}
use Prim.Native.Nat.{ℕ, ◌+◌, ◌-◌, ◌≤◌, ◌<◌}
use native.Mathlib.Omega.{arith}
use native.Mathlib.Nat.{eq-zero-or-pos}
use lib.Dec.{leb}
use lib.ListN.{length, replicate}
use borrow.Author.Tests.{leb-true, leb-false}
use Rattle.record.specs.Tree.{Row, Encoding, forest}
use Rattle.record.specs.WellFormed.{levels, most_nodes, most_rows, most_levels}
use Rattle.join_trees.specs.Join.{join}
use Rattle.join_trees.proofs.Sizes.{total, total_nodes, total_rows, levels_join}
use Rattle.join_levels.specs.declared.Profile.{Profile}
use Rattle.std.specs.Prelude.{None, Some}
use Rattle.join_table.specs.Table.{level_count, at, sum_below, joined_level}
use Rattle.join_levels.specs.Levels.{counted_once, weight_at, nodes_at, rows_at, ProfileOf, Profiled, Measures}
use Rattle.join_table.specs.Promises.{Has, Small4}
use Rattle.join_table.proofs.Numbers.{below_next, below_mono, below_same, joined_none_left}
use Rattle.join_table.proofs.Passes.{zeros}
use Rattle.join_levels.proofs.Profiles.{nodes_join, rows_join, total_one, beyond_one}

-- ---- What holds of the profile of an encoding within the limits

pub level_few : (c : List Row → ℕ) (E : Encoding) (n : ℕ) → total c (forest (E ∷ [])) ≤ n → (d : ℕ) → weight_at c d E ≤ n
level_few c E n h d =
    omega (arith, total_one c E (levels E.below + d + 1) (omega arith), below_next (λ i. weight_at c i E) d, below_mono (λ i. weight_at c i E) (d + 1) (levels E.below + d + 1) (omega arith))

pub few_nodes_at : {p : Profile} → Profiled p → (i : ℕ) → at p.nodes i ≤ most_nodes
few_nodes_at {p} h i = omega (arith, h.is.nodes i, level_few counted_once h.E most_nodes (omega (arith, total_nodes (forest (h.E ∷ [])), h.fits.few_nodes)) i)

pub few_rows_at : {p : Profile} → Profiled p → (i : ℕ) → at p.rows i ≤ most_rows
few_rows_at {p} h i = omega (arith, h.is.rows i, level_few length h.E most_rows (omega (arith, total_rows (forest (h.E ∷ [])), h.fits.few_rows)) i)

pub few_levels_of : {p : Profile} → Profiled p → p.levels ≤ most_levels
few_levels_of {p} h = omega (arith, h.is.deep, h.fits.few_levels)

-- ---- What the two tables start from

pub no_more : (i : ℕ) {n : ℕ} → at (replicate level_count 0) i ≤ n
no_more i = omega (arith, zeros level_count i)

pub small_nodes : {s p : Profile} → Profiled s → Profiled p → Small4 (at (replicate level_count 0)) (at (replicate level_count 0)) (at s.nodes) (at p.nodes)
small_nodes {s} {p} hs hp = record { fst = λ i. no_more i; snd = λ i. no_more i; trd = few_nodes_at hs; fth = λ i. omega (arith, few_nodes_at hp i) }

pub small_rows : {s p : Profile} → Profiled s → Profiled p → Small4 (at s.rows) (at p.nodes) (at s.nodes) (at p.rows)
small_rows {s} {p} hs hp = record { fst = few_rows_at hs; snd = few_nodes_at hp; trd = few_nodes_at hs; fth = few_rows_at hp }

-- ---- What the answer says

module _ (g : Bool) (S P : Encoding) (s p : Profile) (os : ProfileOf S s) (op : ProfileOf P p) where
  nodes_of : (d : ℕ) → joined_level d (at s.nodes) (at p.nodes) ≡ nodes_at d (join g S P)
  nodes_of d = ap₂ (joined_level d) (fun_ext os.nodes) (fun_ext op.nodes) ∙ sym (nodes_join g d S P)

  rows_of : (d : ℕ) → joined_level d (at s.rows) (at p.nodes) + joined_level d (at s.nodes) (at p.rows) ≡ rows_at d (join g S P)
  rows_of d =
      ap₂ ◌+◌ (ap₂ (joined_level d) (fun_ext os.rows) (fun_ext op.nodes)) (ap₂ (joined_level d) (fun_ext os.nodes) (fun_ext op.rows))
      ∙ sym (rows_join g d S P)

  deep_of : s.levels + p.levels ≡ levels (join g S P).below
  deep_of = ap₂ ◌+◌ os.deep op.deep ∙ sym (levels_join g S P)

  pub too_deep : most_levels < s.levels + p.levels → Measures (join g S P) None
  too_deep l = λ f. omega (arith, deep_of, f.few_levels)

  -- what a list of sums over the levels says of the join
  module _ (c : List Row → ℕ) (l : List ℕ) (f : ℕ → ℕ) (has : Has l (s.levels + p.levels) f) (is : (d : ℕ) → f d ≡ weight_at c d (join g S P)) where
    levels_all : sum_below (s.levels + p.levels + 1) (at l) ≡ total c (forest (join g S P ∷ []))
    levels_all =
        below_same (s.levels + p.levels + 1) (at l) (λ d. weight_at c d (join g S P)) (λ d h. has.upto d (omega arith) ∙ is d)
        ∙ sym (total_one c (join g S P) (s.levels + p.levels + 1) (omega (arith, deep_of)))

    every : (d : ℕ) → at l d ≡ weight_at c d (join g S P)
    every d =
        ⊎_elim (λ z. has.upto d (omega arith) ∙ is d)
        (λ z. has.beyond d (omega arith) ∙ sym (beyond_one c (join g S P) d (omega (arith, deep_of))))
        (eq-zero-or-pos (d - (s.levels + p.levels)))

    few : {b : Bool} {n : ℕ} → b ≡ leb (sum_below (s.levels + p.levels + 1) (at l)) n → b ≡ true → total c (forest (join g S P ∷ [])) ≤ n
    few {b} {n} e t = omega (arith, levels_all, leb-true (sum_below (s.levels + p.levels + 1) (at l)) n (sym e ∙ t))

    many : {b : Bool} {n : ℕ} → b ≡ leb (sum_below (s.levels + p.levels + 1) (at l)) n → b ≡ false → n < total c (forest (join g S P ∷ []))
    many {b} {n} e t = omega (arith, levels_all, leb-false (sum_below (s.levels + p.levels + 1) (at l)) n (sym e ∙ t))

  one_join : {l : List ℕ} {m : ℕ} → Has l m (λ d. joined_level d (at (replicate level_count 0)) (at (replicate level_count 0)) + joined_level d (at s.nodes) (at p.nodes)) → Has l m (λ d. joined_level d (at s.nodes) (at p.nodes))
  one_join h = record {
    upto = λ d l. omega (arith, h.upto d l, ap (λ (f : ℕ → ℕ). joined_level d f (at (replicate level_count 0))) (fun_ext (zeros level_count)) ∙ joined_none_left d (at (replicate level_count 0)));
    beyond = h.beyond;
  }

  module _ {nodes rows : List ℕ} {b : Bool}
      (hn : Has nodes (s.levels + p.levels) (λ d. joined_level d (at (replicate level_count 0)) (at (replicate level_count 0)) + joined_level d (at s.nodes) (at p.nodes)))
      (hr : Has rows (s.levels + p.levels) (λ d. joined_level d (at s.rows) (at p.nodes) + joined_level d (at s.nodes) (at p.rows)))
      (en : b ≡ leb (sum_below (s.levels + p.levels + 1) (at nodes)) most_nodes) where
    pub many_nodes : b ≡ false → Measures (join g S P) None
    many_nodes t = λ f. omega (arith, many counted_once nodes _ (one_join hn) nodes_of en t, total_nodes (forest (join g S P ∷ [])), f.few_nodes)

    module _ {b' : Bool} (er : b' ≡ leb (sum_below (s.levels + p.levels + 1) (at rows)) most_rows) where
      pub many_rows : b' ≡ false → Measures (join g S P) None
      many_rows t = λ f. omega (arith, many length rows _ hr rows_of er t, total_rows (forest (join g S P ∷ [])), f.few_rows)

      pub fitting : b ≡ true → b' ≡ true → s.levels + p.levels ≤ most_levels → Measures (join g S P) (Some (record { nodes = nodes; rows = rows; levels = s.levels + p.levels }))
      fitting t t' l = (
        record { deep = deep_of; nodes = every counted_once nodes _ (one_join hn) nodes_of; rows = every length rows _ hr rows_of },
        record {
          few_nodes = omega (arith, few counted_once nodes _ (one_join hn) nodes_of en t, total_nodes (forest (join g S P ∷ [])));
          few_rows = omega (arith, few length rows _ hr rows_of er t', total_rows (forest (join g S P ∷ [])));
          few_levels = omega (arith, deep_of);
        },
      )
