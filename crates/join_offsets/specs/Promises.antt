-- What is asked of two operands, and what is answered.
-- Assumes nothing: these are definitions.
use Rattle.std.specs.Prelude.{◌≡◌, Bool, ℕ, List}
use Rattle.record.specs.Tree.{Encoding}
use Rattle.record.specs.Standing.{One}
use Rattle.join_trees.specs.Offsets.{join_fits}

-- Two batches of one encoding each, S and P.
pub record Operands (s_nodes s_rows p_nodes p_rows : List ℕ) : Type 0 where
  pub S : Encoding
  pub first : One s_nodes s_rows S
  pub P : Encoding
  pub second : One p_nodes p_rows P

-- r says whether every offset of the join stays within 32 bits, whatever encodings the two store.
abbrev pub AnswersJoin : List ℕ → List ℕ → List ℕ → List ℕ → Bool → Bool → Type 0
AnswersJoin s_nodes s_rows p_nodes p_rows growing r = (S P : Encoding) → One s_nodes s_rows S → One p_nodes p_rows P → r ≡ join_fits growing S P
