-- A loop over an array of n numbers, from the front: the first i values are new, and the others old.
-- Assumes nothing.
use mathlib.Core.Path.{◌≡◌, refl, ◌∙◌}
use Prim.Native.Nat.{ℕ, zero, suc, ◌+◌, ◌^◌, ◌<◌, ◌≤◌}
use native.Mathlib.Omega.{arith}
use mathlib.Core.List.{List}
use lib.ListN.{length, set, replicate, length-set, length-replicate}
use lib.Seq.{get_or-set_same, get_or-set_other}
use borrow.Author.Count.{below_more}
use Rattle.join_table.specs.Table.{at}
use Rattle.join_table.specs.Promises.{Has}

pub record Passed (n : ℕ) (new old : ℕ → ℕ) (l : List ℕ) (i : ℕ) : Type 0 where
  pub len : length l ≡ n
  pub done : (k : ℕ) → k < i → at l k ≡ new k
  pub left : (k : ℕ) → i ≤ k → at l k ≡ old k

pub passed_none : {n : ℕ} (new : ℕ → ℕ) (l : List ℕ) → length l ≡ n → Passed n new (at l) l 0
passed_none new l e = record { len = e; done = λ k l. absurd (omega arith); left = λ k l. refl }

pub passed_more : {n : ℕ} {new old : ℕ → ℕ} {l : List ℕ} {i : ℕ} (v : ℕ) → Passed n new old l i → i < n → v ≡ new i → Passed n new old (set l i v) (i + 1)
passed_more {n} {new} {old} {l} {i} v p b e = record {
  len = length-set l i v ∙ p.len;
  done = below_more (λ k. at (set l i v) k ≡ new k) i
      (λ k lt. get_or-set_other l i k v 0 (λ eq. omega arith) ∙ p.done k lt)
      (get_or-set_same l i v 0 (omega (arith, p.len)) ∙ e);
  left = λ k le. get_or-set_other l i k v 0 (λ eq. omega arith) ∙ p.left k (omega arith);
}

pub zeros : (n k : ℕ) → at (replicate n 0) k ≡ 0
zeros zero k = refl
zeros (suc n) zero = refl
zeros (suc n) (suc k) = zeros n k

pub filled_none : (n : ℕ) (new : ℕ → ℕ) → Passed n new (λ k. 0) (replicate n 0) 0
filled_none n new = record { len = length-replicate n 0; done = λ k l. absurd (omega arith); left = λ k l. zeros n k }

-- passed to the last
pub passed_all : {n m i : ℕ} {new : ℕ → ℕ} {l : List ℕ} → Passed n new (λ k. 0) l i → i ≡ m + 1 → Has l m new
passed_all p e = record { upto = λ k le. p.done k (omega arith); beyond = λ k lt. p.left k (omega arith) }

pub fits_first : (x y : ℕ) {z : ℕ} → x + y < z → x < z
fits_first x y l = omega arith

pub fits_second : (x y : ℕ) {z : ℕ} → x + y < z → y < z
fits_second x y l = omega arith

pub fits_three : (x y z : ℕ) {a b c : ℕ} → x ≡ a → y ≡ b → z ≡ c → a ≤ 2 ^ 60 → b ≤ 2 ^ 60 → c ≤ 2 ^ 60 → x + y + z < 2 ^ 64
fits_three x y z p q r l m n = omega arith
