-- Stretches of rows as encodings: their numbers, and how many there are.
-- Assumes nothing.
use mathlib.Core.Path.{◌≡◌, refl, sym, ap, ◌∙◌}
use Prim.Native.Nat.{ℕ, zero, suc, ◌+◌, ◌*◌, ◌-◌, ◌≤◌, ◌<◌}
use native.Mathlib.Numerals.{add-one}
use native.Mathlib.Omega.{arith}
use mathlib.Core.List.{List, [], ◌∷◌, ◌++◌, flat_map, map, append_assoc, append-nil}
use lib.ListN.{length, get_or, take, drop, length-append, length-take, length-drop, take-append-drop}
use lib.Seq.{sets, drop_at, take_at, drop-drop}
use Rattle.record.specs.Tree.{Row, forest}
use Rattle.lists.specs.Lists.{All}
use Rattle.record.specs.Flat.{row_width, node_width, row_numbers, flat_nodes, flat_rows}
use Rattle.record.specs.WellFormed.{nodes_in, rows_in, levels}
use Rattle.record.proofs.Flat.{length_numbers, row_stored, length_rows, flat_nodes_append}
use Rattle.record.proofs.Walk.{numbers_append}
use Rattle.cut_plan.specs.Cut.{rows_of}
use Rattle.record.specs.declared.Bounds.{Bounds}
use Rattle.cut_windows.specs.Made.{stretch_of}
use Rattle.record.specs.Standing.{RowsAt, Put}
use Rattle.cut_windows.specs.Promises.{head}
use Rattle.cut_windows.proofs.Heads.{flat_plain}

-- ---- The numbers of a stretch

pub stretch_numbers : {rows : List ℕ} {j : ℕ} {R : List Row} → RowsAt rows j R → (s e : ℕ) → s ≤ e → e ≤ length R → take ((e - s) * row_width) (drop (j + s * row_width) rows) ≡ flat_map row_numbers (take (e - s) (drop s R))
stretch_numbers {rows} {j} {R} h s e k l =
    let A = take s R in
    let B = take (e - s) (drop s R) in
    let C = drop (e - s) (drop s R) in
    let split : R ≡ A ++ (B ++ C) = sym (ap (A ++◌) (take-append-drop (e - s) (drop s R)) ∙ take-append-drop s R) in
    let la : length (flat_map row_numbers A) ≡ s * row_width = length_numbers row_stored A ∙ ap (λ (n : ℕ). n * row_width) (length-take s R ∙ omega arith) in
    let lb : length (flat_map row_numbers B) ≡ (e - s) * row_width = length_numbers row_stored B ∙ ap (λ (n : ℕ). n * row_width) (length-take (e - s) (drop s R) ∙ omega (arith, length-drop s R)) in
    let all : drop j rows ≡ flat_map row_numbers A ++ (flat_map row_numbers B ++ (flat_map row_numbers C ++ h.rest)) = h.is ∙ ap (λ (r : List Row). flat_map row_numbers r ++ h.rest) split ∙ simp (numbers_append, append_assoc) in
    ap (take ((e - s) * row_width)) (sym (drop-drop (s * row_width) j rows) ∙ ap (drop (s * row_width)) all ∙ drop_at (flat_map row_numbers A) _ (s * row_width) la)
    ∙ take_at (flat_map row_numbers B) _ ((e - s) * row_width) lb

flat_part_rows : (R : List Row) (b : Bounds) → flat_rows (forest (stretch_of R b ∷ [])) ≡ flat_map row_numbers (take (b.end - b.start) (drop b.start R))
unfolding flat_rows
flat_part_rows R b = append-nil _

pub size_part : (R : List Row) (b : Bounds) → b.end ≤ length R → length (stretch_of R b).rows ≡ b.end - b.start
size_part R b h = length-take (b.end - b.start) (drop b.start R) ∙ omega (arith, length-drop b.start R)

-- a part is written by its head and its numbers
pub part_put : {rows : List ℕ} {j : ℕ} {R : List Row} {b : Bounds} {nodes₀ nodes₁ rows₀ rows₁ : List ℕ} {a c : ℕ} → RowsAt rows j R → b.start ≤ b.end → b.end ≤ length R
    → nodes₁ ≡ sets nodes₀ a (head (b.end - b.start) 0) → rows₁ ≡ sets rows₀ c (take ((b.end - b.start) * row_width) (drop (j + b.start * row_width) rows))
    → Put (stretch_of R b ∷ []) nodes₀ a rows₀ c nodes₁ rows₁
unfolding flat_nodes
part_put {rows} {j} {R} {b} {nodes₀} {nodes₁} {rows₀} {rows₁} {a} {c} h k l n r =
    record {
      nodes_put = n ∙ ap (sets nodes₀ a) (sym (flat_plain (stretch_of R b).rows [] ∙ append-nil _ ∙ ap (λ (m : ℕ). head m 0) (size_part R b l)));
      rows_put = r ∙ ap (sets rows₀ c) (stretch_numbers h b.start b.end k l ∙ sym (flat_part_rows R b));
    }

-- ---- How many there are

abbrev pub Inside : ℕ → Bounds → Type 0
Inside n b = b.end ≤ n

module _ (R : List Row) where
  pub parts_nodes : (bs : List Bounds) → nodes_in (forest (map (stretch_of R) bs)) ≡ length bs
  parts_nodes [] = refl
  parts_nodes (b ∷ bs) = omega (arith, parts_nodes bs)

  pub parts_rows : (bs : List Bounds) → All (Inside (length R)) bs → rows_in (forest (map (stretch_of R) bs)) ≡ rows_of bs
  parts_rows [] h = refl
  parts_rows (b ∷ bs) (h, hs) = omega (arith, parts_rows bs hs, size_part R b h)

  pub parts_levels : (b : Bounds) (bs : List Bounds) → levels (forest (map (stretch_of R) (b ∷ bs))) ≡ 1
  parts_levels b [] = refl
  parts_levels b (c ∷ bs) = omega (arith, parts_levels c bs)

  pub parts_nodes_long : (bs : List Bounds) → length (flat_nodes (forest (map (stretch_of R) bs))) ≡ length bs * node_width
  unfolding flat_nodes
  parts_nodes_long [] = omega arith
  parts_nodes_long (b ∷ bs) =
      let e = ap length (flat_nodes_append (stretch_of R b ∷ []) (map (stretch_of R) bs)) ∙ length-append (flat_nodes (forest (stretch_of R b ∷ []))) (flat_nodes (forest (map (stretch_of R) bs))) in
      let p : length (flat_nodes (forest (stretch_of R b ∷ []))) ≡ node_width = ap length (flat_plain (stretch_of R b).rows [] ∙ append-nil (head (length (stretch_of R b).rows) 0)) in
      omega (arith, parts_nodes_long bs)

  pub parts_rows_long : (bs : List Bounds) → All (Inside (length R)) bs → length (flat_rows (forest (map (stretch_of R) bs))) ≡ rows_of bs * row_width
  parts_rows_long bs h = length_rows (forest (map (stretch_of R) bs)) ∙ ap (λ (n : ℕ). n * row_width) (parts_rows bs h)

-- ---- The first i of them

pub rows_take : (l : List Bounds) (i : ℕ) (d : Bounds) → i < length l → rows_of (take (i + 1) l) ≡ rows_of (take i l) + ((get_or l i d).end - (get_or l i d).start)
rows_take l i d h = ap (λ (k : ℕ). rows_of (take k l)) (add-one i) ∙ go l i h
  where
    go : (l : List Bounds) (i : ℕ) → i < length l → rows_of (take (suc i) l) ≡ rows_of (take i l) + ((get_or l i d).end - (get_or l i d).start)
    go [] i h = absurd (omega arith)
    go (b ∷ l) zero h = omega arith
    go (b ∷ l) (suc i) h = omega (arith, go l i (omega arith))

pub rows_take_le : (i : ℕ) (l : List Bounds) → rows_of (take i l) ≤ rows_of l
rows_take_le zero l = omega arith
rows_take_le (suc i) [] = omega arith
rows_take_le (suc i) (b ∷ l) = omega (arith, rows_take_le i l)
