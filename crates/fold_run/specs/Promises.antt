-- What is asked and given where a run, encodings without windows one after another, is found in a batch.
-- Assumes nothing: these are definitions.
use Rattle.std.specs.Prelude.{◌≡◌, List, [], ◌++◌, ℕ, ◌+◌, ◌*◌, ◌≤◌}
use Rattle.lists.specs.Lists.{All}
use Rattle.record.specs.Tree.{Forest, Encoding, listed, forest, windows}
use Rattle.record.specs.Flat.{node_width}
use Rattle.record.specs.WellFormed.{nodes_in, rows_in, most_rows}
use Rattle.record.specs.Passing.{NodesToCome}
use Rattle.fold_run.specs.declared.Run.{Run}

-- None of them has windows.
abbrev pub Bare : List Encoding → Type 0
Bare Ps = All (λ (P : Encoding). windows P ≡ []) Ps

-- The nodes from place i on, to the end, are those of f, which has no more rows than a batch may have.
pub record AskRunFrom (nodes : List ℕ) (i : ℕ) : Type 0 where
  pub f : Forest
  pub coming : NodesToCome nodes i f
  pub few_rows : rows_in f ≤ most_rows

-- f begins with a run of this size, after which the rest is to come.
pub record BeginsWith (nodes : List ℕ) (i : ℕ) (f : Forest) (size : Run) : Type 0 where
  pub run : List Encoding
  pub rest : Forest
  pub split : listed f ≡ run ++ listed rest
  pub bare : Bare run
  pub nodes_size : size.nodes ≡ nodes_in (forest run)
  pub rows_size : size.rows ≡ rows_in (forest run)
  pub coming : NodesToCome nodes (i + size.nodes * node_width) rest

-- Whatever is to come there.
abbrev pub FindsRun : List ℕ → ℕ → Run → Type 0
FindsRun nodes i size = (f : Forest) → NodesToCome nodes i f → BeginsWith nodes i f size
