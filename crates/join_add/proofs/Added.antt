-- Numbers added to numbers: how many sums there are, and which one stands at a place.
-- Assumes nothing.
use mathlib.Core.Path.{◌≡◌, refl, sym, ap, ◌∙◌}
use mathlib.Core.List.{List, [], ◌∷◌}
use Prim.Native.Nat.{ℕ, zero, suc, ◌+◌, ◌≤◌, ◌<◌}
use native.Mathlib.Omega.{arith}
use lib.ListN.{length, get_or, set, take, drop}
use lib.Seq.{get_or-take, get_or-drop, paste}
use Rattle.lists.proofs.Sets.{copy_turn, copy_all}
use Rattle.join_add.specs.Promises.{AskAdd, AskSum, sums, sum_of, sum_set, four_set}

pub length_added : (xs ds : List ℕ) → length xs ≤ length ds → length (sums xs ds) ≡ length xs
unfolding sums
length_added [] ds h = refl
length_added (x ∷ xs) [] h = absurd (omega arith)
length_added (x ∷ xs) (d ∷ ds) h = ap suc (length_added xs ds (omega arith))

pub get_d_added : (xs ds : List ℕ) (k : ℕ) → k < length xs → length xs ≤ length ds → get_or (sums xs ds) k 0 ≡ get_or xs k 0 + get_or ds k 0
unfolding sums
get_d_added [] ds k l h = absurd (omega arith)
get_d_added (x ∷ xs) [] k l h = absurd (omega arith)
get_d_added (x ∷ xs) (d ∷ ds) zero l h = refl
get_d_added (x ∷ xs) (d ∷ ds) (suc k) l h = get_d_added xs ds k (omega arith) (omega arith)

-- a number of a part
pub part_at : (xs : List ℕ) (from n k : ℕ) → k < n → get_or (take n (drop from xs)) k 0 ≡ get_or xs (from + k) 0
part_at xs from n k h = get_or-take n (drop from xs) k 0 h ∙ get_or-drop from xs k 0

pub ask_sum : {src more dst : List ℕ} (k : ℕ) → AskAdd src more dst → k < length src → AskSum src more k
ask_sum {src} {more} {dst} k a l = record { inside = l; beside = omega (arith, a.enough); small = a.sums k l }

-- into numbers that are as many
pub ask_same : {src more d e : List ℕ} → AskAdd src more d → length e ≡ length d → AskAdd src more e
ask_same {src} {more} {d} {e} a h = record { room = omega (arith, a.room); enough = a.enough; sums = a.sums }

-- four sums, stored
pub four_stored : (src more d : List ℕ) (i : ℕ) {a b c e : ℕ} → a ≡ sum_of src more i → b ≡ sum_of src more (i + 1) → c ≡ sum_of src more (i + 2) → e ≡ sum_of src more (i + 3) → set (set (set (set d i a) (i + 1) b) (i + 2) c) (i + 3) e ≡ four_set src more d i
four_stored src more d i {a} {b} {c} {e} p q r s = cc

-- ---- The sums, stored one after another

module _ (src more d : List ℕ) (room : length src ≡ length d) (enough : length src ≤ length more) where
  -- after the first i of them, the next
  pub next_sum : (i : ℕ) → i < length src → sum_set src more (paste d 0 (sums src more) i) i ≡ paste d 0 (sums src more) (i + 1)
  next_sum i l =
      ap (λ (s : ℕ). set (paste d 0 (sums src more) i) i s) (sym (get_d_added src more i l enough))
      ∙ copy_turn d (sums src more) i (omega arith) (omega (arith, length_added src more enough))

  -- and the next four
  pub next_four : (i : ℕ) → i + 4 ≤ length src → four_set src more (paste d 0 (sums src more) i) i ≡ paste d 0 (sums src more) (i + 4)
  next_four i l =
      let second : i + 1 + 1 ≡ i + 2 = omega arith in
      let third : i + 2 + 1 ≡ i + 3 = omega arith in
      let fourth : i + 3 + 1 ≡ i + 4 = omega arith in
      let one = next_sum i (omega arith) in
      let two : sum_set src more (paste d 0 (sums src more) (i + 1)) (i + 1) ≡ paste d 0 (sums src more) (i + 2) = next_sum (i + 1) (omega arith) ∙ ap (paste d 0 (sums src more)) second in
      let three : sum_set src more (paste d 0 (sums src more) (i + 2)) (i + 2) ≡ paste d 0 (sums src more) (i + 3) = next_sum (i + 2) (omega arith) ∙ ap (paste d 0 (sums src more)) third in
      let four : sum_set src more (paste d 0 (sums src more) (i + 3)) (i + 3) ≡ paste d 0 (sums src more) (i + 4) = next_sum (i + 3) (omega arith) ∙ ap (paste d 0 (sums src more)) fourth in
      ap (λ (l : List ℕ). sum_set src more (sum_set src more (sum_set src more l (i + 1)) (i + 2)) (i + 3)) one
      ∙ ap (λ (l : List ℕ). sum_set src more (sum_set src more l (i + 2)) (i + 3)) two
      ∙ ap (λ (l : List ℕ). sum_set src more l (i + 3)) three
      ∙ four

  -- after all of them there is nothing else
  pub all_sums : (i : ℕ) → i ≡ length src → paste d 0 (sums src more) i ≡ sums src more
  all_sums i e = let long = length_added src more enough in copy_all d (sums src more) i (long ∙ room) (omega (arith, long))
