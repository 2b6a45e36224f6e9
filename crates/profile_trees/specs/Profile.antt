-- The check of a batch against the profile: yes, or the first broken rule (document 02, request 08).
-- Assumes nothing: these are definitions.
use Rattle.std.specs.Prelude.{ℕ, zero, suc, max, Bool, true, false, cond, List, [], ◌∷◌, ◌++◌, length, Option as Answer, Some, None, Result, Ok, Err}
use Rattle.std.proofs.Math.Option.{Option, none as nothing, some, map}
use Rattle.record.specs.Tree.{Forest, none, node}
use Rattle.record.specs.Read.{Reading, of_any}
use Rattle.record.specs.declared.Refusal.{Refusal}
use Rattle.record.specs.declared.Refusal.TheVariants.{MalformedRecord}
use Rattle.lookup_ranges.specs.First.{or_else}
use Rattle.profile_trees.specs.Rules.{BatchNode, Rule, NumberedRule, rules}
use Rattle.profile_trees.specs.declared.Break.{Break}

-- ---- "then depth first": the nodes of a batch, and their rows, as they are stored

unfoldable pub batch_nodes : Bool → Forest → List BatchNode
batch_nodes window none = []
batch_nodes window (node r q w x) = record { window = window; encoding = record { rows = r; ranges = q; below = w } } ∷ (batch_nodes true w ++ batch_nodes window x)

-- a row of a node: "node in the batch and row in the node"
pub record NodeRow : Type 0 where
  pub number : ℕ
  pub of : BatchNode
  pub row : ℕ

-- so many rows of a node from a row on
unfoldable pub rows_from : ℕ → BatchNode → ℕ → ℕ → List NodeRow
rows_from number N row zero = []
rows_from number N row (suc count) = record { number = number; of = N; row = row } ∷ rows_from number N (suc row) count

-- all of them; a node without rows has a row 0 here, which the first rule is told of
abbrev pub rows_of_node : ℕ → BatchNode → List NodeRow
rows_of_node number N = rows_from number N 0 (max 1 (length N.encoding.rows))

-- the rows of nodes of which the first has this number
unfoldable pub node_rows : ℕ → List BatchNode → List NodeRow
node_rows number [] = []
node_rows number (N ∷ Ns) = rows_of_node number N ++ node_rows (suc number) Ns

-- ---- "the first broken rule by number with node in the batch and row in the node .., going rule by rule, then depth first"

-- the first row at which a rule is broken
unfoldable pub first_row : Rule → List NodeRow → Option NodeRow
first_row broken [] = nothing
first_row broken (p ∷ ps) = cond (broken p.of p.row) (some p) (first_row broken ps)

abbrev pub break_at : ℕ → NodeRow → Break
break_at number p = record { rule = number; node = p.number; row = p.row }

unfoldable pub first_break : List NumberedRule → List NodeRow → Option Break
first_break [] ps = nothing
first_break (r ∷ rs) ps = or_else (map (break_at r.number) (first_row r.broken ps)) (first_break rs ps)

unfoldable pub first_broken : Forest → Option Break
first_broken f = first_break rules (node_rows 0 (batch_nodes false f))

-- "The check says yes, or the first broken rule"
abbrev pub told_of : Option Break → Answer Break
told_of nothing = None
told_of (some b) = Some b

-- "Turned away: 1"
unfoldable pub profile_answer : Reading → Result (Answer Break) Refusal
profile_answer batch = of_any (Err MalformedRecord) (λ f. Ok (told_of (first_broken f))) batch
