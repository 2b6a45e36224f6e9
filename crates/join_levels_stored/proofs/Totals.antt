-- A profile's nodes and rows, all levels added up; and a batch of one encoding, as a profile asks for it.
-- Assumes nothing.
use mathlib.Core.Path.{◌≡◌, sym, ◌∙◌}
use mathlib.Core.List.{List, [], ◌∷◌}
use Prim.Native.Nat.{ℕ}
use native.Mathlib.Omega.{arith}
use lib.ListN.{length}
use Rattle.record.specs.Tree.{Encoding, forest}
use Rattle.record.specs.WellFormed.{nodes_in, rows_in}
use Rattle.record.specs.Standing.{One}
use Rattle.record.proofs.One.{one_at}
use Rattle.join_trees.proofs.Sizes.{total_nodes, total_rows}
use Rattle.join_levels.specs.declared.Profile.{Profile}
use Rattle.join_levels.specs.Levels.{weight_at, counted_once, ProfileOf, Profiled}
use Rattle.join_table.specs.Table.{level_count, at, sum_below}
use Rattle.join_table.proofs.Numbers.{below_same}
use Rattle.join_levels.proofs.Profiles.{total_one}
use Rattle.join_levels.proofs.Limits.{few_levels_of}
use Rattle.join_levels_stored.specs.Promises.{EncodingAt}

module _ {p : Profile} (h : Profiled p) (E : Encoding) (o : ProfileOf E p) where
  pub counts_nodes : sum_below level_count (at p.nodes) ≡ nodes_in (forest (E ∷ []))
  counts_nodes = below_same level_count (at p.nodes) (λ d. weight_at counted_once d E) (λ d l. o.nodes d) ∙ sym (total_one counted_once E level_count (omega (arith, few_levels_of h, o.deep))) ∙ total_nodes (forest (E ∷ []))

  pub counts_rows : sum_below level_count (at p.rows) ≡ rows_in (forest (E ∷ []))
  counts_rows = below_same level_count (at p.rows) (λ d. weight_at length d E) (λ d l. o.rows d) ∙ sym (total_one length E level_count (omega (arith, few_levels_of h, o.deep))) ∙ total_rows (forest (E ∷ []))

-- A batch of one encoding: it stands at the beginning of its nodes.
pub one_stands : {nodes rows : List ℕ} {E : Encoding} → One nodes rows E → EncodingAt nodes 0 E
one_stands h = record { there = record { rest = (one_at h).rest; is = (one_at h).is }; well = h.stores.well }
