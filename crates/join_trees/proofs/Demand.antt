-- Demand 3 about what four joins write, in numbers: three batches are joined from the left and from the right, no join
-- is refused, and what the two ways leave is alike save for order, or the same number for number.
-- Assumes nothing.
use mathlib.Core.Path.{◌≡◌, sym, ap, ap₂, ◌∙◌}
use mathlib.Core.Bool.{Bool}
use mathlib.Core.Logic.{◌⊎◌, inl, inr}
use mathlib.Core.List.{List, [], ◌∷◌}
use Prim.Native.Nat.{ℕ}
use Rattle.record.specs.Tree.{Forest, none, node, Encoding, forest, windows}
use Rattle.record.specs.Flat.{flat_nodes, flat_rows}
use Rattle.record.specs.Read.{Reading, malformed, holds, read}
use Rattle.record.specs.Outcome.{done}
use Rattle.join_trees.specs.Join.{join}
use Rattle.join_trees.specs.Alike.{Alike}
use Rattle.join_trees.specs.Outcomes.{join_outcome}
use Rattle.join_trees.proofs.Grouping.{grouping, grouping_exact}
use Rattle.join_trees.proofs.Outcomes.{Joined, join_told, join_reads}

-- Two batches were joined, into an output of some size, and not refused: f was written.
pub record Wrote (g : Bool) (nodes rows nodes' rows' : List ℕ) (f : Forest) : Type 0 where
  pub out_nodes : List ℕ
  pub out_rows : List ℕ
  pub is : join_outcome g (read nodes rows) (read nodes' rows') out_nodes out_rows ≡ done f

-- "Join A with B and the result with C; and B with C, then A with that result; let all four joins be with growing
-- offsets or all four without, and none be refused". A, B and C are given by the numbers of their nodes and rows.
pub record FourJoins (g : Bool) (nodesA rowsA nodesB rowsB nodesC rowsC : List ℕ) (left right : Forest) : Type 0 where
  pub ab : Forest
  pub bc : Forest
  pub a_with_b : Wrote g nodesA rowsA nodesB rowsB ab
  pub ab_with_c : Wrote g (flat_nodes ab) (flat_rows ab) nodesC rowsC left
  pub b_with_c : Wrote g nodesB rowsB nodesC rowsC bc
  pub a_with_bc : Wrote g nodesA rowsA (flat_nodes bc) (flat_rows bc) right

-- What both ways leave: an encoding each, alike save for order.
pub record AlikeSaveForOrder (left right : Forest) : Type 0 where
  pub E : Encoding
  pub F : Encoding
  pub left_reads : read (flat_nodes left) (flat_rows left) ≡ holds (forest (E ∷ []))
  pub right_reads : read (flat_nodes right) (flat_rows right) ≡ holds (forest (F ∷ []))
  pub alike : Alike E F

-- The one encoding that is read has no windows.
abbrev pub Windowless : List ℕ → List ℕ → Type 0
Windowless nodes rows = (E : Encoding) → read nodes rows ≡ holds (forest (E ∷ [])) → windows E ≡ []

-- ---- The three encodings

-- what one call joined and wrote
abbrev joined : {g : Bool} {nodes rows nodes' rows' : List ℕ} {f : Forest} (w : Wrote g nodes rows nodes' rows' f) → Joined g (read nodes rows) (read nodes' rows') w.out_nodes w.out_rows f
joined w = join_told _ _ _ _ _ w.is

written : {g : Bool} {nodes rows nodes' rows' : List ℕ} {f : Forest} (w : Wrote g nodes rows nodes' rows' f) → read (flat_nodes f) (flat_rows f) ≡ holds f
written {g} {nodes} {rows} {nodes'} {rows'} w = join_reads g nodes rows nodes' rows' w.out_nodes w.out_rows w.is

held : (E F : Encoding) → holds (forest (E ∷ [])) ≡ holds (forest (F ∷ [])) → E ≡ F
held E F e = ap top e
  where
    of : Forest → Encoding
    of none = E
    of (node r q w x) = record { rows = r; ranges = q; below = w }

    top : Reading → Encoding
    top malformed = E
    top (holds f) = of f

pub record Three (g : Bool) (nodesA rowsA nodesB rowsB nodesC rowsC : List ℕ) (left right : Forest) : Type 0 where
  pub A : Encoding
  pub B : Encoding
  pub C : Encoding
  pub reads_A : read nodesA rowsA ≡ holds (forest (A ∷ []))
  pub reads_B : read nodesB rowsB ≡ holds (forest (B ∷ []))
  pub reads_C : read nodesC rowsC ≡ holds (forest (C ∷ []))
  pub left_is : left ≡ forest (join g (join g A B) C ∷ [])
  pub right_is : right ≡ forest (join g A (join g B C) ∷ [])

module _ {g : Bool} {nodesA rowsA nodesB rowsB nodesC rowsC : List ℕ} {left right : Forest} (four : FourJoins g nodesA rowsA nodesB rowsB nodesC rowsC left right) where
  three : Three g nodesA rowsA nodesB rowsB nodesC rowsC left right
  three =
      let j₁ = joined four.a_with_b in
      let j₂ = joined four.ab_with_c in
      let j₃ = joined four.b_with_c in
      let j₄ = joined four.a_with_bc in
      let s₂ : j₂.S ≡ join g j₁.S j₁.P = held j₂.S (join g j₁.S j₁.P) (sym j₂.first_is ∙ written four.a_with_b ∙ ap holds j₁.is) in
      let s₃ : j₃.S ≡ j₁.P = held j₃.S j₁.P (sym j₃.first_is ∙ j₁.second_is) in
      let p₃ : j₃.P ≡ j₂.P = held j₃.P j₂.P (sym j₃.second_is ∙ j₂.second_is) in
      let s₄ : j₄.S ≡ j₁.S = held j₄.S j₁.S (sym j₄.first_is ∙ j₁.first_is) in
      let p₄ : j₄.P ≡ join g j₃.S j₃.P = held j₄.P (join g j₃.S j₃.P) (sym j₄.second_is ∙ written four.b_with_c ∙ ap holds j₃.is) in
      record {
        A = j₁.S;
        B = j₁.P;
        C = j₂.P;
        reads_A = j₁.first_is;
        reads_B = j₁.second_is;
        reads_C = j₂.second_is;
        left_is = j₂.is ∙ ap (λ (E : Encoding). forest (join g E j₂.P ∷ [])) s₂;
        right_is = j₄.is ∙ ap₂ (λ (E F : Encoding). forest (join g E F ∷ [])) s₄ (p₄ ∙ ap₂ (join g) s₃ p₃);
      }

  -- ---- The demand

  -- "Then both ways give equal rows and ranges, and at every level the same windows, each exactly as many times, perhaps
  -- in another order: the two results are alike save for order"
  pub grouped : AlikeSaveForOrder left right
  grouped =
      let t = three in
      record {
        E = join g (join g t.A t.B) t.C;
        F = join g t.A (join g t.B t.C);
        left_reads = written four.ab_with_c ∙ ap holds t.left_is;
        right_reads = written four.a_with_bc ∙ ap holds t.right_is;
        alike = grouping g t.A t.B t.C;
      }

  -- "And if at least one of the three has no windows, the two are equal number for number, the order too."
  pub grouped_exact : Windowless nodesA rowsA ⊎ Windowless nodesB rowsB ⊎ Windowless nodesC rowsC → (flat_nodes left ≡ flat_nodes right) × (flat_rows left ≡ flat_rows right)
  grouped_exact w =
      let t = three in
      let e : left ≡ right = t.left_is ∙ ap (λ (E : Encoding). forest (E ∷ [])) (grouping_exact g t.A t.B t.C (which t w)) ∙ sym t.right_is in
      (ap flat_nodes e, ap flat_rows e)
    where
      which : (t : Three g nodesA rowsA nodesB rowsB nodesC rowsC left right) → Windowless nodesA rowsA ⊎ Windowless nodesB rowsB ⊎ Windowless nodesC rowsC → (windows t.A ≡ []) ⊎ (windows t.B ≡ []) ⊎ (windows t.C ≡ [])
      which t (inl h) = inl (h t.A t.reads_A)
      which t (inr (inl h)) = inr (inl (h t.B t.reads_B))
      which t (inr (inr h)) = inr (inr (h t.C t.reads_C))
