-- The profile of a fold, encoding by encoding: what was folded, what is left, and that the first step that is too large
-- decides.
-- Assumes nothing.
use mathlib.Core.Path.{◌≡◌, refl, ap, sym, ◌∙◌, subst}
use mathlib.Core.Bool.{Bool}
use mathlib.Core.List.{List, [], ◌∷◌, ◌++◌, append_assoc, append-nil}
use Prim.Native.Nat.{ℕ, zero, suc, ◌+◌, ◌*◌, ◌≤◌, ◌<◌}
use native.Mathlib.Omega.{arith}
use lib.ListN.{length, drop, set, replicate, length-append, length-drop}
use lib.Seq.{drop_at, drop-drop}
use Rattle.record.specs.Tree.{Forest, none, node, Encoding, listed, forest, empty}
use Rattle.record.specs.Flat.{node_width, flat_nodes}
use Rattle.record.specs.WellFormed.{Fits, WellFormed, Stores, nodes_in}
use Rattle.record.proofs.Flat.{length_nodes}
use Rattle.join_trees.specs.Join.{join, fold}
use Rattle.join_trees.proofs.Folds.{fold_from_append, fold_last}
use Rattle.join_trees.proofs.Sizes.{fold_no_less, no_more_fits}
use Rattle.join_levels.specs.declared.Profile.{Profile}
use Rattle.std.specs.Prelude.{None, Some}
use Rattle.join_levels.specs.Levels.{weight_at, counted_once, ProfileOf, Profiled, Measures}
use Rattle.join_table.specs.Table.{level_count, at}
use Rattle.fold_levels.specs.Promises.{HoldsNodes}
use Rattle.join_levels_stored.specs.Promises.{EncodingAt, ProfilesAt}
use Rattle.join_table.proofs.Passes.{zeros}

-- A batch as it is lent.
pub stores_holds : {nodes rows : List ℕ} {f : Forest} → Stores nodes rows f → HoldsNodes nodes f
stores_holds s = record { is = s.nodes_are; well = s.well }

-- ---- The empty encoding

pub empty_is : ProfileOf empty (record { nodes = set (replicate level_count 0) 0 1; rows = replicate level_count 0; levels = 0 })
unfolding weight_at
empty_is = record { deep = refl; nodes = nodes_are; rows = rows_are }
  where
    nodes_are : (d : ℕ) → at (set (replicate level_count 0) 0 1) d ≡ weight_at counted_once d empty
    nodes_are zero = refl
    nodes_are (suc d) = zeros level_count (suc d)

    rows_are : (d : ℕ) → at (replicate level_count 0) d ≡ weight_at length d empty
    rows_are zero = refl
    rows_are (suc d) = zeros level_count (suc d)

-- ---- Some encodings folded, the others left

pub record Stepped (g : Bool) (nodes : List ℕ) (f : Forest) (p : Profile) (i : ℕ) : Type 0 where
  pub folded : List Encoding
  pub left : Forest
  pub split : listed f ≡ folded ++ listed left
  pub is : drop i nodes ≡ flat_nodes left
  pub well : WellFormed left
  pub profile : ProfileOf (fold g folded) p
  pub fits : Fits (forest (fold g folded ∷ []))

pub stepped_start : {nodes : List ℕ} {f : Forest} {p : Profile} (g : Bool) → HoldsNodes nodes f → ProfileOf empty p → Stepped g nodes f p 0
stepped_start {nodes} {f} {p} g h o = record {
  folded = [];
  left = f;
  split = refl;
  is = sym h.is;
  well = h.well;
  profile = o;
  fits = record { few_nodes = omega arith; few_rows = omega arith; few_levels = omega arith };
}

pub stepped_profiled : {nodes : List ℕ} {f : Forest} {p : Profile} {i : ℕ} {g : Bool} → Stepped g nodes f p i → Profiled p
stepped_profiled {nodes} {f} {p} {i} {g} s = record { E = fold g s.folded; is = s.profile; fits = s.fits }

-- The encoding that is next, where nodes are left.
pub record Next (g : Bool) (nodes : List ℕ) (f : Forest) (p : Profile) (i : ℕ) : Type 0 where
  pub stepped : Stepped g nodes f p i
  pub E : Encoding
  pub others : Forest
  pub split : listed f ≡ stepped.folded ++ (E ∷ listed others)
  pub is : drop i nodes ≡ flat_nodes (forest (E ∷ [])) ++ flat_nodes others
  pub stands : EncodingAt nodes i E
  pub others_well : WellFormed others

pub next : {nodes : List ℕ} {f : Forest} {p : Profile} {i : ℕ} {g : Bool} → Stepped g nodes f p i → i < length nodes → Next g nodes f p i
unfolding flat_nodes
next {nodes} {f} {p} {i} {g} s l = go s.left s.split s.is s.well
  where
    go : (left : Forest) → listed f ≡ s.folded ++ listed left → drop i nodes ≡ flat_nodes left → WellFormed left → Next g nodes f p i
    go none e is w = absurd (omega (arith, length-drop i nodes, ap length is))
    go (node r q v x) e is w =
        let F = node r q v none in
        let a : drop i nodes ≡ flat_nodes F ++ flat_nodes x = is ∙ simp (append-nil, append_assoc) in
        record {
          stepped = s;
          E = record { rows = r; ranges = q; below = v };
          others = x;
          split = e;
          is = a;
          stands = record { there = record { rest = flat_nodes x; is = a }; well = record { fine = (w.fine.0, w.fine.1, tt); fits = record { few_nodes = omega (arith, w.fits.few_nodes); few_rows = omega (arith, w.fits.few_rows); few_levels = omega (arith, w.fits.few_levels) } } };
          others_well = record { fine = w.fine.2; fits = record { few_nodes = omega (arith, w.fits.few_nodes); few_rows = omega (arith, w.fits.few_rows); few_levels = omega (arith, w.fits.few_levels) } };
        }

module _ {nodes : List ℕ} {f : Forest} {p : Profile} {i : ℕ} {g : Bool} (n : Next g nodes f p i) where
  -- its nodes are there, one at least
  pub next_some : 0 < nodes_in (forest (n.E ∷ []))
  next_some = omega arith

  pub next_room : i + nodes_in (forest (n.E ∷ [])) * node_width ≤ length nodes
  next_room = omega (arith, length-drop i nodes, simp length-append at (ap length n.is), length_nodes (forest (n.E ∷ [])) n.stands.well.fine)

  -- it has this profile
  pub next_profiled : {q : Profile} → ProfilesAt nodes i q → Profiled q
  next_profiled o = record { E = n.E; is = o n.E n.stands; fits = n.stands.well.fits }

  -- it is joined, and fits
  pub stepped_more : {q : Profile} (k : ℕ) → k ≡ nodes_in (forest (n.E ∷ [])) → Measures (join g (fold g n.stepped.folded) n.E) (Some q) → Stepped g nodes f q (i + k * node_width)
  stepped_more {q} k e (o, h) =
      let F = forest (n.E ∷ []) in
      let len : length (flat_nodes F) ≡ k * node_width = length_nodes F n.stands.well.fine ∙ ap (λ (k : ℕ). k * node_width) (sym e) in
      let last : join g (fold g n.stepped.folded) n.E ≡ fold g (n.stepped.folded ++ n.E ∷ []) = sym (fold_last g n.stepped.folded n.E) in
      record {
        folded = n.stepped.folded ++ n.E ∷ [];
        left = n.others;
        split = n.split ∙ sym (append_assoc n.stepped.folded (n.E ∷ []) (listed n.others));
        is = sym (drop-drop (k * node_width) i nodes) ∙ ap (drop (k * node_width)) n.is ∙ drop_at (flat_nodes F) (flat_nodes n.others) (k * node_width) len;
        well = n.others_well;
        profile = subst (λ (E : Encoding). ProfileOf E q) last o;
        fits = subst (λ (E : Encoding). Fits (forest (E ∷ []))) last h;
      }

  -- it is joined, and is too large: then so is the fold
  pub stepped_stop : Measures (join g (fold g n.stepped.folded) n.E) None → Measures (fold g (listed f)) None
  stepped_stop large = λ h. large (no_more_fits (fold_no_less g (join g (fold g n.stepped.folded) n.E) (listed n.others)) (subst (λ (E : Encoding). Fits (forest (E ∷ []))) (ap (fold g) n.split ∙ fold_from_append g empty n.stepped.folded (n.E ∷ listed n.others)) h))

-- Nothing is left.
pub stepped_end : {nodes : List ℕ} {f : Forest} {p : Profile} {i : ℕ} {g : Bool} → Stepped g nodes f p i → length nodes ≤ i → Measures (fold g (listed f)) (Some p)
unfolding flat_nodes
stepped_end {nodes} {f} {p} {i} {g} s l = go s.left s.split s.is
  where
    go : (left : Forest) → listed f ≡ s.folded ++ listed left → drop i nodes ≡ flat_nodes left → Measures (fold g (listed f)) (Some p)
    go none e is = rw (e ∙ append-nil s.folded) (s.profile, s.fits)
    go (node r q v x) e is = absurd (omega (arith, length-drop i nodes, ap length is))
