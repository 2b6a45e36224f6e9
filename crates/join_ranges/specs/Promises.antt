-- What the functions ask and give that write the ranges of a joined node.
-- Assumes nothing: these are definitions.
use Rattle.std.specs.Prelude.{◌≡◌, ℕ, ◌+◌, ◌≤◌, length, get_or, set}
use mathlib.Core.List.{List, ◌∷◌, flat_map}
use Rattle.std.proofs.lemmas.List.Edits.{sets}
use Rattle.lists.specs.Stretch.{Stretch}
use Rattle.record.specs.Tree.{Range, Encoding, windows, sequences, shifted}
use Rattle.record.specs.Flat.{node_width, range_numbers}
use Rattle.record.specs.WellFormed.{NodeFine, most_nodes, most_rows}
use Rattle.record_write.specs.Writing.{present_range}
use Rattle.join_trees.specs.Join.{choose, join_ranges}
use Rattle.join_view.specs.declared.View.{View}
use Rattle.join_view.specs.declared.View.TheVariants.{Plain, Window, Piece}
use Rattle.join_view.specs.View.{ranges_seen, ViewFine}

-- Where the ranges of a node begin that stands at i: after its row count and its window count.
abbrev pub ranges_of : ℕ → ℕ
ranges_of i = i + 2

-- The ranges of the node at i are q, one for each sequence.
pub record RangesAt (nodes : List ℕ) (i : ℕ) (q : List Range) : Type 0 where
  pub there : Stretch nodes (ranges_of i) (flat_map range_numbers q)
  pub places : length q ≡ sequences

-- The node of E stands at i; its rows may be anywhere.
pub record NodeAt (nodes : List ℕ) (i : ℕ) (E : Encoding) : Type 0 where
  pub there : Stretch nodes i (length E.rows ∷ length (windows E) ∷ flat_map range_numbers E.ranges)
  pub fine : NodeFine E.rows E.ranges
  pub few_windows : length (windows E) ≤ most_nodes
  pub inside : i + node_width ≤ length nodes

-- One range of P, at `from`, and a place for it, at `to`: shifted it stays within the limits.
pub record AskRange (nodes : List ℕ) (to shift : ℕ) (nodes' : List ℕ) (from : ℕ) : Type 0 where
  pub fits : to + 3 ≤ length nodes
  pub inside : from + 3 ≤ length nodes'
  pub start_within : get_or nodes' (from + 1) 0 + shift ≤ most_rows
  pub end_within : get_or nodes' (from + 2) 0 + shift ≤ most_rows

-- Whatever two ranges stand there, the second's is laid over the first's.
pub record LaysRange (nodes : List ℕ) (to shift : ℕ) (nodes' : List ℕ) (from : ℕ) (nodes₁ : List ℕ) : Type 0 where
  pub laid : (s p : Range) → Stretch nodes to (range_numbers s) → Stretch nodes' from (range_numbers p) → p.present ≤ 1 → nodes₁ ≡ sets nodes to (range_numbers (choose p.present shift s p))

-- The ranges of the node at `at`, with a sequence's set to all of `count` rows after the first `shift`, if the view sets one.
abbrev pub whole_laid : View → ℕ → ℕ → List Range → List Range
whole_laid Plain shift count q = q
whole_laid (Window k) shift count q = set q k (shifted shift (present_range 0 count))
whole_laid (Piece k t) shift count q = set q k (shifted shift (present_range 0 count))

pub record MakesRanges (make : List Range → List Range) (nodes : List ℕ) (at : ℕ) (nodes₁ : List ℕ) : Type 0 where
  pub made : (q : List Range) → RangesAt nodes at q → nodes₁ ≡ sets nodes (ranges_of at) (flat_map range_numbers (make q))

-- The node of P stands at i, and its ranges, shifted, stay within the limits.
pub record AskRanges (nodes : List ℕ) (at shift : ℕ) (nodes' : List ℕ) (i : ℕ) (v : View) : Type 0 where
  pub P : Encoding
  pub there : NodeAt nodes' i P
  pub view_fine : ViewFine v
  pub few_rows : shift + length P.rows ≤ most_rows
  pub fits : at + node_width ≤ length nodes

-- Whatever node stands at i, its ranges are laid over those of the node at `at`, whose counts stay as they were.
pub record LaysRanges (v : View) (nodes : List ℕ) (at shift : ℕ) (nodes' : List ℕ) (i : ℕ) (nodes₁ : List ℕ) : Type 0 where
  pub laid : (P : Encoding) → NodeAt nodes' i P → MakesRanges (λ q. join_ranges shift q (ranges_seen v (length P.rows) P.ranges)) nodes at nodes₁
