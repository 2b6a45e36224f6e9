-- Rows written block by block, each moved on: those before place i are written, the others stand from there on.
-- Assumes nothing.
use mathlib.Core.Path.{◌≡◌, refl, sym, ap, ap₂, subst, ◌∙◌}
use mathlib.Core.List.{List, [], ◌∷◌, ◌++◌, flat_map, map, append_assoc, append-nil}
use Prim.Native.Nat.{ℕ, ◌+◌, ◌*◌, ◌≤◌, ◌<◌}
use native.Mathlib.Omega.{arith}
use lib.ListN.{length, get_or, take, drop, length-append, length-map, take-append-drop, get_or-append}
use lib.Seq.{sets, take_at, drop_at, drop-drop, get_or-drop, length-take-le}
use Rattle.record.specs.Tree.{Row}
use Rattle.record.specs.Flat.{row_width, row_numbers}
use Rattle.record.specs.Standing.{RowsAt}
use Rattle.record.proofs.Flat.{length_numbers, row_stored}
use Rattle.record.proofs.Walk.{numbers_append}
use Rattle.lists.proofs.All.{all_first, all_last}
use Rattle.lists.proofs.Parts.{all_get}
use Rattle.lists.proofs.FlatMap.{map_append}
use Rattle.lists.proofs.Sets.{sets_append}
use Rattle.join_trees.specs.Join.{moved}
use Rattle.join_trees.specs.Offsets.{most_offset, MovedWithin}
use Rattle.join_add.specs.Promises.{AskAddAt, sums}
use Rattle.join_add.proofs.Added.{get_d_added}
use Rattle.join_shift.specs.Promises.{shifts}
use Rattle.join_shift.proofs.Shifts.{Small, shifts_long, added_rows, moved_small}

-- the first rows A of R are written from `at` on, moved on by n, and take i numbers; B are the others
pub record Part (n : ℕ) (R : List Row) (out : List ℕ) (at : ℕ) (now : List ℕ) (i : ℕ) : Type 0 where
  pub A : List Row
  pub B : List Row
  pub whole : A ++ B ≡ R
  pub passed : length A * row_width ≡ i
  pub written : now ≡ sets out at (flat_map row_numbers (map (moved n) A))

pub part_start : (n : ℕ) (R : List Row) (out : List ℕ) (at : ℕ) → Part n R out at out 0
unfolding flat_map
part_start n R out at = record { A = []; B = R; whole = refl; passed = refl; written = refl }

-- the second of two runs of rows
second_there : {rows : List ℕ} {j i : ℕ} (A B : List Row) → RowsAt rows j (A ++ B) → length A * row_width ≡ i → RowsAt rows (j + i) B
second_there {rows} {j} {i} A B h e =
    record {
      rest = h.rest;
      is = sym (drop-drop i j rows) ∙ ap (drop i) (h.is ∙ ap (◌++ h.rest) (numbers_append A B) ∙ append_assoc (flat_map row_numbers A) (flat_map row_numbers B) h.rest)
          ∙ drop_at (flat_map row_numbers A) (flat_map row_numbers B ++ h.rest) i (length_numbers row_stored A ∙ e);
    }

first_there_lem : {rows : List ℕ} {j : ℕ} (A B : List Row) → RowsAt rows j (A ++ B) → RowsAt rows j A
first_there_lem A B h = record { rest = flat_map row_numbers B ++ h.rest; is = h.is ∙ ap (◌++ h.rest) (numbers_append A B) ∙ append_assoc (flat_map row_numbers A) (flat_map row_numbers B) h.rest }

abbrev Within : ℕ → Row → Type 0
Within n r = (r.offset_start + n ≤ most_offset) × (r.offset_end + n ≤ most_offset)

module _ {n j at i : ℕ} {rows out now : List ℕ} {R : List Row} (h : RowsAt rows j R) (p : Part n R out at now i) where
  left_there : RowsAt rows (j + i) p.B
  left_there = second_there p.A p.B (subst (RowsAt rows j) (sym p.whole) h) p.passed

  left_long : length p.A + length p.B ≡ length R
  left_long = sym (length-append p.A p.B) ∙ ap length p.whole

  pub four_left : i + 4 * row_width ≤ length R * row_width → 4 ≤ length p.B
  four_left l = omega (arith, left_long, p.passed)

  pub few_left : length R * row_width < i + 4 * row_width → length p.B ≤ 4
  few_left l = omega (arith, left_long, p.passed)

  pub rest_left : {m : ℕ} → i + m ≡ length R * row_width → m ≡ length p.B * row_width
  rest_left e = omega (arith, left_long, p.passed, e)

  -- a block of t rows
  module _ (t : ℕ) (few : t ≤ 4) (there : t ≤ length p.B) where
    abbrev block : List Row
    block = take t p.B

    block_there : RowsAt rows (j + i) block
    block_there = first_there_lem block (drop t p.B) (subst (RowsAt rows (j + i)) (sym (take-append-drop t p.B)) left_there)

    block_long : length block ≡ t
    block_long = length-take-le t p.B there

    numbers_long : length (flat_map row_numbers block) ≡ t * row_width
    numbers_long = length_numbers row_stored block ∙ ap (◌* row_width) block_long

    block_added : sums (flat_map row_numbers block) (shifts n 4) ≡ flat_map row_numbers (map (moved n) block)
    block_added = added_rows n 4 block (omega (arith, block_long))

    moved_long : length (flat_map row_numbers (map (moved n) block)) ≡ t * row_width
    moved_long = length_numbers row_stored (map (moved n) block) ∙ ap (◌* row_width) (length-map block (moved n) ∙ block_long)

    enough : length (flat_map row_numbers block) ≤ length (shifts n 4)
    enough = omega (arith, numbers_long, shifts_long n 4)

    block_sums : MovedWithin n R → ((k : ℕ) → Small (get_or rows k 0)) → (k : ℕ) → k < t * row_width → get_or rows (j + i + k) 0 + get_or (shifts n 4) k 0 ≤ most_offset
    block_sums w small k l =
        let wB : MovedWithin n p.B = all_last (Within n) p.A p.B (subst (MovedWithin n) (sym p.whole) w) in
        let wb : MovedWithin n block = all_first (Within n) block (drop t p.B) (subst (MovedWithin n) (sym (take-append-drop t p.B)) wB) in
        let at_k : (k : ℕ) → get_or (flat_map row_numbers block ++ block_there.rest) k 0 ≡ get_or rows (j + i + k) 0 = λ k. ap (λ (l : List ℕ). get_or l k 0) (sym block_there.is) ∙ get_or-drop (j + i) rows k 0 in
        let sums = moved_small n block block_there.rest wb (λ k. omega (arith, at_k k, small (j + i + k))) in
        omega (
          arith,
          at_k k,
          get_or-append (flat_map row_numbers block) block_there.rest 0 k (omega (arith, numbers_long)),
          get_d_added (flat_map row_numbers block) (shifts n 4) k (omega (arith, numbers_long)) enough,
          ap (λ (l : List ℕ). get_or l k 0) block_added,
          all_get Small k 0 (flat_map row_numbers (map (moved n) block)) (omega (arith, moved_long)) sums,
        )

    -- `more` is the block of shifts, of which the first m are added
    module _ {more : List ℕ} {m : ℕ} (b : more ≡ shifts n 4) (e : m ≡ t * row_width) where
      pub block_asked : MovedWithin n R → ((k : ℕ) → Small (get_or rows k 0)) → j + i + m ≤ length rows → at + i + m ≤ length now → AskAddAt rows (j + i) m more now (at + i)
      block_asked w small inside fits =
          subst (λ (l : List ℕ). AskAddAt rows (j + i) m l now (at + i)) (sym b)
          (record { inside = inside; fits = fits; enough = omega (arith, e, shifts_long n 4); sums = λ k l. block_sums w small k (omega (arith, e)) })

      pub part_on : {now' : List ℕ} → now' ≡ sets now (at + i) (sums (take m (drop (j + i) rows)) more) → Part n R out at now' (i + m)
      part_on {now'} w =
          let X = flat_map row_numbers (map (moved n) p.A) in
          let Y = flat_map row_numbers (map (moved n) block) in
          let own : take m (drop (j + i) rows) ≡ flat_map row_numbers block = ap (take m) block_there.is ∙ take_at (flat_map row_numbers block) block_there.rest m (numbers_long ∙ sym e) in
          let long : length X ≡ i = length_numbers row_stored (map (moved n) p.A) ∙ ap (◌* row_width) (length-map p.A (moved n)) ∙ p.passed in
          record {
            A = p.A ++ block;
            B = drop t p.B;
            whole = append_assoc p.A block (drop t p.B) ∙ ap (p.A ++◌) (take-append-drop t p.B) ∙ p.whole;
            passed = omega (arith, length-append p.A block, block_long, p.passed);
            written = w
                ∙ ap (sets now (at + i)) (ap₂ sums own b ∙ block_added)
                ∙ ap₂ (λ (l : List ℕ) (k : ℕ). sets l (at + k) Y) p.written (sym long)
                ∙ sets_append out at X Y
                ∙ ap (sets out at) (sym (ap (flat_map row_numbers) (map_append (moved n) p.A block) ∙ numbers_append (map (moved n) p.A) (map (moved n) block)));
          }

  -- nothing is left
  pub part_end : length R * row_width ≡ i → now ≡ sets out at (flat_map row_numbers (map (moved n) R))
  part_end e = go p.B p.whole (omega (arith, left_long, p.passed))
    where
      go : (B : List Row) → p.A ++ B ≡ R → length B ≡ 0 → now ≡ sets out at (flat_map row_numbers (map (moved n) R))
      go [] w z = p.written ∙ ap (λ (rs : List Row). sets out at (flat_map row_numbers (map (moved n) rs))) (sym (append-nil p.A) ∙ w)
      go (r ∷ B) w z = absurd (omega arith)
