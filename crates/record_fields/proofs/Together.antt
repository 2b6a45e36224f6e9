-- Numbers put together bit by bit: small exactly if each is. So the marks and words of all rows are judged at once.
-- Assumes nothing.
use Rattle.std.proofs.Common.{◌≡◌, ℕ, ◌+◌, ◌*◌, ◌%◌, ◌<◌, ◌≤◌, List, get_or, ap, ◌∙◌, subst, ap₂, inl, inr, ⊎_elim, eq-or-lt_of_le, arith, below_more}
use lib.Bits.{bit_or, or_lt, or_mod}
use Rattle.record.specs.Flat.{row_width}
use Rattle.lists.proofs.Bits.{left_within, right_within}
use Rattle.record_fields.specs.Promises.{RowOk, RowAt, u32_count, marked_word, LowestBit}

both_one : (a b : ℕ) → a ≤ 1 → b ≤ 1 → bit_or a b ≤ 1
both_one a b p q = omega (arith, or_lt 1 a b (omega arith) (omega arith))

-- the rows before i have these marks and lowest bits: the lowest bits are at most 1 and the marks too exactly if the rows
-- are fine; of the marks only the lower half counts, since words stand above it
pub record Judged (rows : List ℕ) (i marks lowest : ℕ) : Type 0 where
  pub so : lowest ≤ 1 → marks % u32_count ≤ 1 → (k : ℕ) → k < i → RowAt rows (k * row_width)
  pub back : ((k : ℕ) → k < i → RowAt rows (k * row_width)) → (lowest ≤ 1) × (marks % u32_count ≤ 1)

-- one row: the same for its own
row_so : (pool mark word u : ℕ) → LowestBit (mark + word * u32_count) u → u ≤ 1 → pool ≤ 1 → mark ≤ 1 → RowOk pool mark word
row_so pool mark word u h z p m = (p, ⊎_elim (λ e. inr e) (λ l. let none : mark + word * u32_count ≡ 0 = h.even (omega arith) z in inl (omega arith, omega arith)) (eq-or-lt_of_le m))

row_back : (pool mark word u : ℕ) → LowestBit (mark + word * u32_count) u → RowOk pool mark word → (u ≤ 1) × (pool ≤ 1) × (mark ≤ 1)
row_back pool mark word u h (p, o) = ⊎_elim (λ a. (h.none (omega (arith, a.0, a.1)), p, omega (arith, a.0))) (λ a. (h.odd (omega arith), p, omega arith)) o

-- the lower half of marks put together: a pool and a mark with its word beside those before
lower : (marks pool mark word : ℕ) → pool < u32_count → mark < u32_count → bit_or marks (bit_or pool (mark + word * u32_count)) % u32_count ≡ bit_or (marks % u32_count) (bit_or pool mark)
lower marks pool mark word p m =
    let own : (mark + word * u32_count) % u32_count ≡ mark = omega arith in
    let small : pool % u32_count ≡ pool = omega arith in
    or_mod marks (bit_or pool (mark + word * u32_count)) 32 ∙ ap (bit_or (marks % u32_count)) (or_mod pool (mark + word * u32_count) 32 ∙ ap₂ bit_or small own)

pub judged_more : {rows : List ℕ} {i marks lowest word u : ℕ} → Judged rows i marks lowest → let at = i * row_width in get_or rows (at + 2) 0 < u32_count → get_or rows (at + 5) 0 < u32_count → word ≡ marked_word rows (at + 5) → LowestBit word u → Judged rows (i + 1) (bit_or marks (bit_or (get_or rows (at + 2) 0) word)) (bit_or lowest u)
judged_more {rows} {i} {marks} {lowest} {word} {u} j small_pool small_mark read h =
    let at = i * row_width in
    let pool = get_or rows (at + 2) 0 in
    let mark = get_or rows (at + 5) 0 in
    let own_marks = bit_or pool mark in
    let next : at + 5 + 1 ≡ at + 6 = omega arith in
    let is : word ≡ mark + get_or rows (at + 6) 0 * u32_count = read ∙ ap (λ (k : ℕ). mark + get_or rows k 0 * u32_count) next in
    let all_marks : bit_or marks (bit_or pool word) % u32_count ≡ bit_or (marks % u32_count) own_marks = ap (λ (w : ℕ). bit_or marks (bit_or pool w) % u32_count) is ∙ lower marks pool mark (get_or rows (at + 6) 0) small_pool small_mark in
    let own_bit : LowestBit (mark + get_or rows (at + 6) 0 * u32_count) u = subst (λ (w : ℕ). LowestBit w u) is h in
    record {
      so = λ w m.
          let two : own_marks ≤ 1 = omega (arith, right_within (marks % u32_count) own_marks) in
          let own : RowAt rows at = row_so pool mark (get_or rows (at + 6) 0) u own_bit (omega (arith, right_within lowest u)) (omega (arith, left_within pool mark)) (omega (arith, right_within pool mark)) in
          below_more (λ (k : ℕ). RowAt rows (k * row_width)) i (j.so (omega (arith, left_within lowest u)) (omega (arith, left_within (marks % u32_count) own_marks))) own;
      back = λ all.
          let own = row_back pool mark (get_or rows (at + 6) 0) u own_bit (all i (omega arith)) in
          let others = j.back (λ k l. all k (omega arith)) in
          (both_one lowest u others.0 own.0, omega (arith, all_marks, both_one (marks % u32_count) own_marks others.1 (both_one pool mark own.1 own.2)));
    }
