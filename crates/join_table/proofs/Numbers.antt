-- What a join's levels have, by a table.
-- Assumes nothing.
use mathlib.Core.Path.{◌≡◌, refl, ap, ap₂, ◌∙◌}
use Prim.Native.Nat.{ℕ, zero, suc, ◌+◌, ◌-◌, ◌*◌, ◌/◌, ◌%◌, ◌^◌, ◌≤◌, ◌<◌}
use native.Mathlib.Omega.{arith}
use native.Mathlib.Numerals.{add-one}
use mathlib.Core.Logic.{⊎_elim}
use mathlib.Core.List.{List}
use native.Mathlib.Nat.{le_refl, eq-or-lt_of_le, eq-zero-or-pos, mul-le-mul, pow-suc, pow-le-pow_right, mul-le-mul_right}
use Rattle.record.specs.WellFormed.{most_levels, most_nodes, most_rows}
use Rattle.join_table.specs.Table.{level_count, at, sum_below, later, joined_level, paired, spread}
use Rattle.join_table.specs.Promises.{Has, Small4}

-- ---- joined is linear in each

pub joined_none_left : (d : ℕ) (v : ℕ → ℕ) → joined_level d (λ i. 0) v ≡ 0
unfolding joined_level
joined_none_left zero v = omega arith
joined_none_left (suc d) v = omega (arith, joined_none_left d v, joined_none_left d (later v))

pub joined_none_right : (d : ℕ) (u : ℕ → ℕ) → joined_level d u (λ i. 0) ≡ 0
unfolding joined_level
joined_none_right zero u = omega arith
joined_none_right (suc d) u = omega (arith, joined_none_right d u, joined_none_right d (later u))

pub joined_add_left : (d : ℕ) (u w v : ℕ → ℕ) → joined_level d (λ i. u i + w i) v ≡ joined_level d u v + joined_level d w v
unfolding joined_level
joined_add_left zero u w v = omega arith
joined_add_left (suc d) u w v = omega (arith, joined_add_left d (later u) (later w) v, joined_add_left d (later u) (later w) (later v), joined_add_left d u w (later v))

pub joined_add_right : (d : ℕ) (u v w : ℕ → ℕ) → joined_level d u (λ i. v i + w i) ≡ joined_level d u v + joined_level d u w
unfolding joined_level
joined_add_right zero u v w = omega arith
joined_add_right (suc d) u v w = omega (arith, joined_add_right d (later u) v w, joined_add_right d (later u) (later v) (later w), joined_add_right d u (later v) (later w))

pub below_mono : (f : ℕ → ℕ) (i n : ℕ) → i ≤ n → sum_below i f ≤ sum_below n f
unfolding sum_below
below_mono f i zero h = let e : i ≡ 0 = omega arith in rw e (le_refl _)
below_mono f i (suc n) h = ⊎_elim (λ e. rw e (le_refl _)) (λ l. omega (arith, below_mono f i n (omega arith))) (eq-or-lt_of_le h)

-- ---- One turn more

pub below_next : (f : ℕ → ℕ) (i : ℕ) → sum_below (i + 1) f ≡ sum_below i f + f i
unfolding sum_below
below_next f i = rw add-one

pub below_past : (f : ℕ → ℕ) (i n left limit : ℕ) → i < n → left + sum_below i f ≡ limit → left < f i → limit < sum_below n f
below_past f i n left limit l e h = omega (arith, below_next f i, below_mono f (i + 1) n (omega arith))

pub below_left : (f : ℕ → ℕ) (i left limit : ℕ) → left + sum_below i f ≡ limit → f i ≤ left → left - f i + sum_below (i + 1) f ≡ limit
below_left f i left limit e h = omega (arith, below_next f i)

pub below_end : (f : ℕ → ℕ) (i n left limit : ℕ) → i ≤ n → n ≤ i → left + sum_below i f ≡ limit → sum_below n f ≤ limit
below_end f i n left limit l h e = omega (arith, below_mono f n i h)

-- ---- Totals

pub below_same : (n : ℕ) (f g : ℕ → ℕ) → ((d : ℕ) → d < n → f d ≡ g d) → sum_below n f ≡ sum_below n g
unfolding sum_below
below_same zero f g h = refl
below_same (suc n) f g h = ap₂ ◌+◌ (below_same n f g (λ d l. h d (omega arith))) (h n (omega arith))

pub entries : (f : ℕ → ℕ) (n most : ℕ) → sum_below n f ≤ most → ((i : ℕ) → n ≤ i → f i ≡ 0) → (i : ℕ) → f i ≤ most
entries f n most h z i =
    ⊎_elim (λ l. omega (arith, z i (omega arith))) (λ l. omega (arith, below_next f i, below_mono f (i + 1) n (omega arith))) (eq-zero-or-pos (n - i))

-- ---- The table

pub paired_fits : (a b c e : ℕ → ℕ) → Small4 a b c e → (k : ℕ) → paired a b c e k ≤ 2 ^ 29
unfolding paired
paired_fits a b c e h k =
    let p : a (k / level_count) * b (k % level_count) ≤ most_rows * most_nodes = mul-le-mul (h.fst (k / level_count)) (h.snd (k % level_count)) in
    let q : c (k / level_count) * e (k % level_count) ≤ most_nodes * most_rows = mul-le-mul (h.trd (k / level_count)) (h.fth (k % level_count)) in
    omega arith

pub entry_fits : {a b c e : ℕ → ℕ} (l : List ℕ) {n : ℕ} → Small4 a b c e → Has l n (paired a b c e) → (k : ℕ) → at l k ≤ 2 ^ 29
entry_fits {a} {b} {c} {e} l {n} h has k =
    ⊎_elim (λ z. omega (arith, has.upto k (omega arith), paired_fits a b c e h k)) (λ z. omega (arith, has.beyond k (omega arith))) (eq-zero-or-pos (k - n))

pub product_fits : (a b c e : ℕ → ℕ) → Small4 a b c e → (k : ℕ) → a (k / level_count) * b (k % level_count) + c (k / level_count) * e (k % level_count) < 2 ^ 64
unfolding paired
product_fits a b c e h k = omega (arith, paired_fits a b c e h k)

spread_bound : (d : ℕ) (f : ℕ → ℕ) (m : ℕ) → ((k : ℕ) → f k ≤ m) → (k : ℕ) → spread d f k ≤ 3 ^ d * m
unfolding spread
spread_bound zero f m h k = omega (arith, h k)
spread_bound (suc d) f m h k = rw pow-suc (omega (arith, spread_bound d f m h (k + 1), spread_bound d f m h (k + level_count), spread_bound d f m h (k + suc level_count)))

pub under : (d : ℕ) (f : ℕ → ℕ) → d ≤ most_levels → ((k : ℕ) → f k ≤ 2 ^ 29) → (k x : ℕ) → x ≡ spread d f k → x ≤ 2 ^ 60
under d f l h k x eq = omega (arith, spread_bound d f (2 ^ 29) h k, mul-le-mul_right (2 ^ 29) (pow-le-pow_right {n = 3} (omega arith) l))

pub spread_next : (d : ℕ) (f : ℕ → ℕ) (k : ℕ) → spread (d + 1) f k ≡ spread d f (k + 1) + spread d f (k + level_count) + spread d f (k + suc level_count)
unfolding spread
spread_next d f k = ap (λ (n : ℕ). spread n f k) (add-one d)

-- The values from i on.
from : ℕ → (ℕ → ℕ) → ℕ → ℕ
from zero a = a
from (suc i) a = later (from i a)

from_at : (i : ℕ) (a : ℕ → ℕ) (x : ℕ) → from i a x ≡ a (i + x)
unfolding from
from_at zero a x = ap a (omega arith)
from_at (suc i) a x = from_at i a (suc x) ∙ ap a (omega arith)

module _ (a b c e f : ℕ → ℕ) (m : ℕ) (s : m ≤ most_levels) (h : (k : ℕ) → k ≤ suc level_count * m → f k ≡ paired a b c e k) where
  paired_at : (i j : ℕ) → j ≤ most_levels → paired a b c e (level_count * i + j) ≡ from i a 0 * from j b 0 + from i c 0 * from j e 0
  unfolding paired
  paired_at i j l =
      let q : (level_count * i + j) / level_count ≡ i = omega arith in
      let r : (level_count * i + j) % level_count ≡ j = omega arith in
      let z : i + 0 ≡ i = omega arith in
      let z' : j + 0 ≡ j = omega arith in
      rw (q, r, from_at i a 0, from_at j b 0, from_at i c 0, from_at j e 0, z, z')

  spread_joined : (d i j : ℕ) → i + d ≤ m → j + d ≤ m → spread d f (level_count * i + j) ≡ joined_level d (from i a) (from j b) + joined_level d (from i c) (from j e)
  unfolding spread joined_level from
  spread_joined zero i j p q = h (level_count * i + j) (omega arith) ∙ paired_at i j (omega arith)
  spread_joined (suc d) i j o l =
      let p : level_count * i + j + 1 ≡ level_count * i + suc j = omega arith in
      let q : level_count * i + j + level_count ≡ level_count * suc i + j = omega arith in
      let r : level_count * i + j + suc level_count ≡ level_count * suc i + suc j = omega arith in
      rw (p, q, r) (omega (arith, spread_joined d i (suc j) (omega arith) (omega arith), spread_joined d (suc i) j (omega arith) (omega arith), spread_joined d (suc i) (suc j) (omega arith) (omega arith)))

  pub level : (d : ℕ) → d ≤ m → spread d f 0 ≡ joined_level d a b + joined_level d c e
  unfolding from
  level d l = spread_joined d 0 0 (omega arith) (omega arith)
