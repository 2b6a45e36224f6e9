-- `write_head` writes a node without ranges: zeros, and its two counts over them. Assumes nothing.
use mathlib.Core.Path.{ap, ◌∙◌}
use Prim.Native.Nat.{ℕ, ◌+◌, ◌*◌}
use mathlib.Core.List.{List, ◌∷◌}
use lib.ListN.{set, replicate}
use Rattle.record.specs.Tree.{sequences}
use Rattle.lists.proofs.Writing.{set_first, set_second}
use Rattle.cut_windows.proofs.write_head.Goals as goal

pub returns : goal.returns
returns c =
    let v = c.args in
    let zeros : List ℕ = replicate (3 * sequences) 0 in
    ap (λ (l : List ℕ). set (set l v.at v.n) (v.at + 1) v.k) c.fill.ensures
    ∙ ap (λ (l : List ℕ). set l (v.at + 1) v.k) (set_first v.nodes.now v.at 0 v.n (0 ∷ zeros))
    ∙ set_second v.nodes.now v.at v.n 0 v.k zeros
