-- Stretches of rows that follow one another, put together again.
-- Assumes nothing.
use mathlib.Core.Path.{◌≡◌, sym, ap, ap₂, ◌∙◌}
use Prim.Native.Nat.{ℕ, suc, ◌+◌, ◌-◌, ◌≤◌, ◌<◌}
use native.Mathlib.Omega.{arith}
use mathlib.Core.List.{List, [], ◌∷◌, ◌++◌, flat_map, map, reverse, append-nil, append_assoc, reverse-cons}
use lib.ListN.{length, get_or, take, drop, length-drop, length-reverse, take-append-drop}
use lib.Seq.{take_all, take-take, take-add, drop-drop, drop-append-le}
use Rattle.lists.specs.Lists.{All}
use Rattle.lists.proofs.FlatMap.{flat_map_append}
use Rattle.record.specs.Tree.{Row, Encoding}
use Rattle.record.specs.declared.Bounds.{Bounds}
use Rattle.cut_plan.specs.declared.Direction.{Direction}
use Rattle.cut_plan.specs.declared.Direction.TheVariants.{Left, Right}
use Rattle.cut_plan.proofs.Laws.{Sized, Shares}
use Rattle.cut_windows.specs.Made.{stretch_of}
use Rattle.cut_windows.proofs.Parts.{size_part}
use Rattle.cut_cover.specs.Cover.{text_order, rejoined}

-- ---- Stretches in a chain, seen from the side that is kept

-- it stands at that side
abbrev pub Begins : ℕ → Direction → Bounds → Type 0
Begins rows Right b = b.start ≡ 0
Begins rows Left b = b.end ≡ rows

-- it reaches the other side
abbrev pub Reaches : ℕ → Direction → Bounds → Type 0
Reaches rows Right b = b.end ≡ rows
Reaches rows Left b = b.start ≡ 0

-- from b on, each the next after the one before, and the last reaches the other side
abbrev pub Chain : ℕ → ℕ → Direction → Bounds → List Bounds → Type 0
Chain rows stride d b [] = Reaches rows d b
Chain rows stride d b (c ∷ bs) = Shares stride d b c × Chain rows stride d c bs

-- by places
pub chain_places : (rows stride : ℕ) (d : Direction) (e b : Bounds) (bs : List Bounds) → ((i : ℕ) → i < length bs → Shares stride d (get_or (b ∷ bs) i e) (get_or (b ∷ bs) (suc i) e))
    → Reaches rows d (get_or (b ∷ bs) (length bs) e) → Chain rows stride d b bs
chain_places rows stride d e b [] h r = r
chain_places rows stride d e b (c ∷ bs) h r = (h 0 (omega arith), chain_places rows stride d e c bs (λ i k. h (suc i) (omega arith)) r)

-- ---- One stretch and the rows beside it

module _ (R : List Row) (b : Bounds) where
  -- before all rows after it
  then_rest : b.start ≤ b.end → (stretch_of R b).rows ++ drop b.end R ≡ drop b.start R
  then_rest h =
      let n : b.end ≡ b.start + (b.end - b.start) = omega arith in
      ap (λ (m : ℕ). (stretch_of R b).rows ++ drop m R) n ∙ ap ((stretch_of R b).rows ++◌) (sym (drop-drop (b.end - b.start) b.start R)) ∙ take-append-drop (b.end - b.start) (drop b.start R)

  -- without its first k rows, after all rows up to them
  before_rest : (k : ℕ) → b.start + k ≤ b.end → take (b.start + k) R ++ drop k (stretch_of R b).rows ≡ take b.end R
  before_rest k h =
      let n : b.start + (b.end - b.start) ≡ b.end = omega arith in
      let W = (stretch_of R b).rows in
      ap (◌++ drop k W) (take-add b.start k R ∙ ap (take b.start R ++◌) (sym (take-take k (b.end - b.start) (drop b.start R) (omega arith))))
      ∙ append_assoc (take b.start R) (take k W) (drop k W) ∙ ap (take b.start R ++◌) (take-append-drop k W)
      ∙ sym (take-add b.start (b.end - b.start) R) ∙ ap (λ (m : ℕ). take m R) n

-- ---- All of a chain

-- a window more at the end
rejoined_last : {A : Type 0} (stride : ℕ) (ws : List (List A)) (w : List A) → 0 < length ws → rejoined stride (ws ++ (w ∷ [])) ≡ rejoined stride ws ++ drop stride w
unfolding flat_map
rejoined_last stride [] w h = absurd (omega arith)
rejoined_last stride (x ∷ ws) w h = rw (flat_map_append (drop stride) ws (w ∷ []), append-nil (drop stride w), append_assoc)

-- the rows of each stretch
abbrev pub row_lists : List Row → List Bounds → List (List Row)
row_lists R bs = map (λ (W : Encoding). W.rows) (map (stretch_of R) bs)

module _ (R : List Row) (max stride : ℕ) where
  -- all rows from its first stretch on
  right_joined : (b : Bounds) (bs : List Bounds) → All (Sized (length R) max stride) (b ∷ bs) → Chain (length R) stride Right b bs → rejoined stride (row_lists R (b ∷ bs)) ≡ drop b.start R
  unfolding flat_map
  right_joined b [] (z, zs) r = append-nil (stretch_of R b).rows ∙ take_all (b.end - b.start) (drop b.start R) (omega (arith, length-drop b.start R))
  right_joined b (c ∷ bs) (z, zs) (l, ls) =
      ap ((stretch_of R b).rows ++◌)
      (sym (drop-append-le stride (stretch_of R c).rows (flat_map (drop stride) (row_lists R bs)) (omega (arith, size_part R c zs.0.inside)))
      ∙ ap (drop stride) (right_joined c bs zs ls) ∙ drop-drop stride c.start R ∙ ap (λ (m : ℕ). drop m R) l)
      ∙ then_rest R b (omega arith)

  -- all rows up to the end of its first stretch: the chain runs against the text
  left_joined : (b : Bounds) (bs : List Bounds) → All (Sized (length R) max stride) (b ∷ bs) → Chain (length R) stride Left b bs → rejoined stride (reverse (row_lists R (b ∷ bs))) ≡ take b.end R
  unfolding flat_map
  left_joined b [] z r =
      let n : b.end - b.start ≡ b.end = omega arith in
      append-nil (stretch_of R b).rows ∙ ap₂ (λ (m s : ℕ). take m (drop s R)) n r
  left_joined b (c ∷ bs) (z, zs) (l, ls) =
      let ws = row_lists R (c ∷ bs) in
      ap (rejoined stride) (reverse-cons (stretch_of R b).rows ws) ∙ rejoined_last stride (reverse ws) (stretch_of R b).rows (omega (arith, length-reverse ws))
      ∙ ap (◌++ drop stride (stretch_of R b).rows) (left_joined c bs zs ls ∙ ap (λ (m : ℕ). take m R) (sym l)) ∙ before_rest R b stride (omega arith)

  pub chain_joined : (d : Direction) (b : Bounds) (bs : List Bounds) → All (Sized (length R) max stride) (b ∷ bs) → Begins (length R) d b → Chain (length R) stride d b bs → rejoined stride (text_order d (row_lists R (b ∷ bs))) ≡ R
  chain_joined Right b bs z f c = right_joined b bs z c ∙ ap (λ (m : ℕ). drop m R) f
  chain_joined Left b bs z f c = left_joined b bs z c ∙ take_all b.end R (omega arith)
