-- What the search for the first row finds: a row at which the rule is broken and none before it, by the numbers of node and row; and that
-- it finds nothing only if the rule is broken nowhere. Assumes nothing.
use mathlib.Core.Path.{◌≡◌, refl, sym, ap, ◌∙◌}
use mathlib.Core.Bool.{Bool, true, false, cond}
use mathlib.Core.Option.{Option, none as nothing, some, none-ne-some, some-injective}
use Prim.Native.Nat.{ℕ, zero, suc, ◌+◌, ◌≤◌, ◌<◌, max}
use native.Mathlib.Nat.{add-zero}
use native.Mathlib.Omega.{arith}
use mathlib.Core.List.{List, [], ◌∷◌}
use lib.Dec.{ltb}
use lib.ListN.{length, get_elem?}
use borrow.Author.Tests.{ltb-true, ltb-false}
use Rattle.lists.specs.Lists.{All}
use Rattle.lookup_ranges.specs.First.{or_else}
use Rattle.profile_trees.specs.Rules.{BatchNode, Rule}
use Rattle.profile_trees.specs.Profile.{NodeRow, rows_from, rows_of_node, node_rows, first_row}
use Rattle.profile_trees.specs.First.{of_node}
use Rattle.profile_trees.proofs.First.{row_append}
use Rattle.profile_trees.proofs.Rows.{row_of}

module _ (broken : Rule) where
  -- ---- The rows of one node

  -- The row p is one of the node from a row on, it breaks the rule, and none before it does.
  pub record RowFound (number : ℕ) (N : BatchNode) (row : ℕ) (p : NodeRow) : Type 0 where
    pub of_it : p ≡ row_of number N p.row
    pub from : row ≤ p.row
    pub breaks : broken N p.row ≡ true
    pub none_before : (k : ℕ) → row ≤ k → k < p.row → broken N k ≡ false

  pub row_found : (number : ℕ) (N : BatchNode) (row count : ℕ) (p : NodeRow) → first_row broken (rows_from number N row count) ≡ some p → RowFound number N row p
  unfolding first_row rows_from
  row_found number N row zero p e = absurd (none-ne-some p e)
  row_found number N row (suc count) p e = go (broken N row) refl e (row_found number N (suc row) count p)
    where
      here : broken N row ≡ true → row_of number N row ≡ p → RowFound number N row p
      here b s =
          let same : row ≡ p.row = ap (λ (p : NodeRow). p.row) s in
          record { of_it = sym s ∙ ap (row_of number N) same; from = omega arith; breaks = ap (broken N) (sym same) ∙ b; none_before = λ k a h. absurd (omega arith) }

      later : broken N row ≡ false → RowFound number N (suc row) p → RowFound number N row p
      later b f = record { of_it = f.of_it; from = omega (arith, f.from); breaks = f.breaks; none_before = λ k a h. before k a h (ltb row k) refl }
        where
          before : (k : ℕ) → row ≤ k → k < p.row → (c : Bool) → ltb row k ≡ c → broken N k ≡ false
          before k a h true c = f.none_before k (omega (arith, ltb-true row k c)) h
          before k a h false c = let same : k ≡ row = omega (arith, ltb-false row k c) in ap (broken N) same ∙ b

      go : (c : Bool) → broken N row ≡ c → cond c (some (row_of number N row)) (first_row broken (rows_from number N (suc row) count)) ≡ some p
          → (first_row broken (rows_from number N (suc row) count) ≡ some p → RowFound number N (suc row) p) → RowFound number N row p
      go true b s rest = here b (some-injective (row_of number N row) p s)
      go false b s rest = later b (rest s)

  pub row_none : (number : ℕ) (N : BatchNode) (row count : ℕ) → first_row broken (rows_from number N row count) ≡ nothing → (k : ℕ) → row ≤ k → k < row + count → broken N k ≡ false
  unfolding first_row rows_from
  row_none number N row zero e k a h = absurd (omega arith)
  row_none number N row (suc count) e k a h = go (broken N row) refl e (row_none number N (suc row) count)
    where
      go : (c : Bool) → broken N row ≡ c → cond c (some (row_of number N row)) (first_row broken (rows_from number N (suc row) count)) ≡ nothing
          → (first_row broken (rows_from number N (suc row) count) ≡ nothing → (k : ℕ) → suc row ≤ k → k < suc row + count → broken N k ≡ false) → broken N k ≡ false
      go true b s rest = absurd (none-ne-some (row_of number N row) (sym s))
      go false b s rest = after (ltb row k) refl
        where
          after : (c : Bool) → ltb row k ≡ c → broken N k ≡ false
          after true c = rest s k (omega (arith, ltb-true row k c)) (omega arith)
          after false c = let same : k ≡ row = omega (arith, ltb-false row k c) in ap (broken N) same ∙ b

  -- ---- Nodes one after another

  -- past its rows a node does not break it
  abbrev pub Quiet : BatchNode → Type 0
  Quiet N = (row : ℕ) → max 1 (length N.encoding.rows) ≤ row → broken N row ≡ false

  -- whether the node with a number breaks it at a row
  abbrev pub broken_in : List BatchNode → ℕ → ℕ → Bool
  broken_in Ns n row = of_node (λ N. broken N row) (get_elem? Ns n)

  own_none : (number : ℕ) (N : BatchNode) → Quiet N → first_row broken (rows_of_node number N) ≡ nothing → (row : ℕ) → broken N row ≡ false
  own_none number N quiet e row = go (ltb row (max 1 (length N.encoding.rows))) refl
    where
      go : (c : Bool) → ltb row (max 1 (length N.encoding.rows)) ≡ c → broken N row ≡ false
      go true c = row_none number N 0 (max 1 (length N.encoding.rows)) e row (omega arith) (omega (arith, ltb-true row (max 1 (length N.encoding.rows)) c))
      go false c = quiet row (ltb-false row (max 1 (length N.encoding.rows)) c)

  nothing_left : (x y : Option NodeRow) → or_else x y ≡ nothing → (x ≡ nothing) × (y ≡ nothing)
  nothing_left nothing y e = (refl, e)
  nothing_left (some p) y e = absurd (none-ne-some p (sym e))

  pub node_none : (number : ℕ) (Ns : List BatchNode) → All Quiet Ns → first_row broken (node_rows number Ns) ≡ nothing → (n row : ℕ) → broken_in Ns n row ≡ false
  unfolding node_rows
  node_none number [] quiet e n row = refl
  node_none number (N ∷ Ns) quiet e n row = go (nothing_left (first_row broken (rows_of_node number N)) (first_row broken (node_rows (suc number) Ns)) (sym (row_append broken (rows_of_node number N) (node_rows (suc number) Ns)) ∙ e)) (node_none (suc number) Ns quiet.1) n
    where
      go : (first_row broken (rows_of_node number N) ≡ nothing) × (first_row broken (node_rows (suc number) Ns) ≡ nothing)
          → (first_row broken (node_rows (suc number) Ns) ≡ nothing → (n row : ℕ) → broken_in Ns n row ≡ false) → (n : ℕ) → broken_in (N ∷ Ns) n row ≡ false
      go both rest zero = own_none number N quiet.0 both.0 row
      go both rest (suc n) = rest both.1 n row

  -- The row p is one of the nodes from a number on, it breaks the rule, and none before it does.
  pub record NodeRowFound (number : ℕ) (Ns : List BatchNode) (p : NodeRow) : Type 0 where
    pub n : ℕ
    pub numbered : p.number ≡ number + n
    pub breaks : broken_in Ns n p.row ≡ true
    pub no_node_before : (m row : ℕ) → m < n → broken_in Ns m row ≡ false
    pub no_row_before : (row : ℕ) → row < p.row → broken_in Ns n row ≡ false

  pub node_found : (number : ℕ) (Ns : List BatchNode) → All Quiet Ns → (p : NodeRow) → first_row broken (node_rows number Ns) ≡ some p → NodeRowFound number Ns p
  unfolding node_rows first_row
  node_found number [] quiet p e = absurd (none-ne-some p e)
  node_found number (N ∷ Ns) quiet p e = go (first_row broken (rows_of_node number N)) refl (sym (row_append broken (rows_of_node number N) (node_rows (suc number) Ns)) ∙ e) (node_found (suc number) Ns quiet.1 p)
    where
      here : RowFound number N 0 p → NodeRowFound number (N ∷ Ns) p
      here f = record { n = 0; numbered = ap (λ (p : NodeRow). p.number) f.of_it ∙ sym (add-zero number); breaks = f.breaks; no_node_before = λ m row h. absurd (omega arith); no_row_before = λ row h. f.none_before row (omega arith) h }

      later : first_row broken (rows_of_node number N) ≡ nothing → NodeRowFound (suc number) Ns p → NodeRowFound number (N ∷ Ns) p
      later none f = record { n = suc f.n; numbered = f.numbered ∙ omega arith; breaks = f.breaks; no_node_before = before; no_row_before = f.no_row_before }
        where
          before : (m row : ℕ) → m < suc f.n → broken_in (N ∷ Ns) m row ≡ false
          before zero row h = own_none number N quiet.0 none row
          before (suc m) row h = f.no_node_before m row (omega arith)

      go : (x : Option NodeRow) → first_row broken (rows_of_node number N) ≡ x → or_else x (first_row broken (node_rows (suc number) Ns)) ≡ some p
          → (first_row broken (node_rows (suc number) Ns) ≡ some p → NodeRowFound (suc number) Ns p) → NodeRowFound number (N ∷ Ns) p
      go (some o) x s rest = here (row_found number N 0 (max 1 (length N.encoding.rows)) p (x ∙ s))
      go nothing x s rest = later x (rest s)
