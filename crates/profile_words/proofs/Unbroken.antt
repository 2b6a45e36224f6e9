-- The one encoding of a batch that passes breaks the sixth rule at no row. Assumes nothing.
use mathlib.Core.Path.{◌≡◌, sym, ◌∙◌, subst}
use mathlib.Core.Bool.{false}
use Prim.Native.Nat.{ℕ}
use mathlib.Core.List.{List, [], ◌∷◌}
use Rattle.record.specs.Tree.{Encoding, forest}
use Rattle.record.specs.Read.{read}
use Rattle.record.specs.Standing.{One}
use Rattle.record.proofs.Read.{found}
use Rattle.profile_trees.specs.Rules.{BatchNode, word_falls}
use Rattle.profile_trees.specs.Profile.{batch_nodes, profile_answer}
use Rattle.profile_trees.specs.First.{broken, NoneBroken, Says}
use Rattle.std.specs.Prelude.{Ok, None}
use Rattle.profile_trees.proofs.Told.{says, or_false}

-- the one encoding of a batch, as a node
abbrev pub top : Encoding → BatchNode
top E = record { window = false; encoding = E }

none_broken : {nodes rows : List ℕ} {E : Encoding} → One nodes rows E → profile_answer (read nodes rows) ≡ Ok None → NoneBroken (forest (E ∷ []))
none_broken {nodes} {rows} {E} one e = rw (found nodes rows (forest (E ∷ [])) one.stores) at (subst (Says (read nodes rows)) e (says nodes rows))

pub words_hold : {nodes rows : List ℕ} {E : Encoding} → One nodes rows E → profile_answer (read nodes rows) ≡ Ok None → (row : ℕ) → word_falls (top E) row ≡ false
unfolding broken batch_nodes
words_hold {E = E} one e row = sym (or_false (word_falls (top E) row)) ∙ none_broken one e 6 0 row
