-- From what holds of the one encoding of a batch to an operation's answer.
-- Assumes nothing.
use mathlib.Core.Path.{◌≡◌, sym, ◌∙◌}
use mathlib.Core.Bool.{true}
use Prim.Native.Nat.{ℕ, ◌≤◌}
use mathlib.Core.List.{List}
use lib.ListN.{length}
use Rattle.record.specs.Tree.{Encoding}
use Rattle.record.specs.Flat.{node_width}
use Rattle.record.specs.Read.{read, is_one, of_one}
use Rattle.record.proofs.One.{one_of, one_there, one_nodes_long}
use Rattle.lookup_ranges.specs.Promises.{OfTop}

pub top_there : (nodes rows : List ℕ) → is_one (read nodes rows) ≡ true → node_width ≤ length nodes
top_there nodes rows e = let (E, h) = one_there nodes rows e in one_nodes_long h

-- an answer that is right of the one encoding is right
pub top_answer : {A : Type 0} (otherwise : A) (k : Encoding → A) (nodes rows : List ℕ) (r : A) → is_one (read nodes rows) ≡ true → OfTop nodes (λ E. r ≡ k E) → r ≡ of_one otherwise k (read nodes rows)
top_answer otherwise k nodes rows r e f = let (E, h) = one_there nodes rows e in f rows E h ∙ sym (one_of otherwise k h)
