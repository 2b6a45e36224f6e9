-- How many of the ranges hold a row, by their places; and what a test says of the ranges that hold it, where at most one does.
-- Assumes nothing.
use mathlib.Core.Path.{◌≡◌, refl, ap}
use mathlib.Core.Bool.{Bool, true, false, cond, ◌&&◌, ◌||◌, false≢true, or-false}
use Prim.Native.Nat.{ℕ, zero, suc, ◌+◌, ◌≤◌, ◌<◌}
use native.Mathlib.Omega.{arith}
use mathlib.Core.List.{List, [], ◌∷◌, ◌++◌}
use lib.ListN.{get_or}
use Rattle.record.specs.Tree.{Range, absent}
use Rattle.record.proofs.WellFormed.{tells_le, tells_eq, tells_and₃}
use Rattle.lookup_holding.specs.Holding.{holds_row}
use Rattle.profile_trees.specs.Rules.{holders, any_range}

module _ (row : ℕ) where
  -- ---- What it means that a range holds the row

  pub holds_facts : (p : Range) → holds_row row p ≡ true → (p.present ≡ 1) × (p.start ≤ row) × (row < p.end)
  holds_facts p e = (tells_and₃ (tells_eq p.present 1) (tells_le p.start row) (tells_le (suc row) p.end)).so e

  pub facts_hold : (p : Range) → p.present ≡ 1 → p.start ≤ row → row < p.end → holds_row row p ≡ true
  facts_hold p m s e = (tells_and₃ (tells_eq p.present 1) (tells_le p.start row) (tells_le (suc row) p.end)).back (m, s, e)

  -- ---- One range, and then others

  pub holders_more : (p : Range) (q : List Range) → holds_row row p ≡ true → holders row (p ∷ q) ≡ suc (holders row q)
  unfolding holders
  holders_more p q e = rw e

  pub holders_same : (p : Range) (q : List Range) → holds_row row p ≡ false → holders row (p ∷ q) ≡ holders row q
  unfolding holders
  holders_same p q e = rw e

  pub holders_append : (s t : List Range) → holders row (s ++ t) ≡ holders row s + holders row t
  unfolding holders
  holders_append [] t = omega arith
  holders_append (p ∷ s) t = go (holds_row row p) (holders_append s t)
    where
      go : (b : Bool) → holders row (s ++ t) ≡ holders row s + holders row t → cond b (suc (holders row (s ++ t))) (holders row (s ++ t)) ≡ cond b (suc (holders row s)) (holders row s) + holders row t
      go true e = omega arith
      go false e = e

  -- ---- Those that hold the row are counted

  pub held_one : (q : List Range) (id : ℕ) → holds_row row (get_or q id absent) ≡ true → 1 ≤ holders row q
  held_one [] id e = absurd (false≢true e)
  held_one (p ∷ q) zero e = omega (arith, holders_more p q e)
  held_one (p ∷ q) (suc id) e = go (holds_row row p) refl (held_one q id e)
    where
      go : (b : Bool) → holds_row row p ≡ b → 1 ≤ holders row q → 1 ≤ holders row (p ∷ q)
      go true b h = omega (arith, holders_more p q b)
      go false b h = omega (arith, holders_same p q b)

  pub held_two : (q : List Range) (i j : ℕ) → (i ≡ j → ⊥) → holds_row row (get_or q i absent) ≡ true → holds_row row (get_or q j absent) ≡ true → 2 ≤ holders row q
  held_two [] i j n e f = absurd (false≢true e)
  held_two (p ∷ q) zero zero n e f = absurd (n refl)
  held_two (p ∷ q) zero (suc j) n e f = omega (arith, holders_more p q e, held_one q j f)
  held_two (p ∷ q) (suc i) zero n e f = omega (arith, holders_more p q f, held_one q i e)
  held_two (p ∷ q) (suc i) (suc j) n e f = go (holds_row row p) refl (held_two q i j (λ s. n (ap suc s)) e f)
    where
      go : (b : Bool) → holds_row row p ≡ b → 2 ≤ holders row q → 2 ≤ holders row (p ∷ q)
      go true b h = omega (arith, holders_more p q b)
      go false b h = omega (arith, holders_same p q b)

  -- ---- Those that are counted hold the row

  pub one_held : (q : List Range) → 1 ≤ holders row q → (id : ℕ) × (holds_row row (get_or q id absent) ≡ true)
  unfolding holders
  one_held [] h = absurd (omega arith)
  one_held (p ∷ q) h = go (holds_row row p) refl (one_held q)
    where
      go : (b : Bool) → holds_row row p ≡ b → (1 ≤ holders row q → (id : ℕ) × (holds_row row (get_or q id absent) ≡ true)) → (id : ℕ) × (holds_row row (get_or (p ∷ q) id absent) ≡ true)
      go true b rest = (0, b)
      go false b rest = let (id, e) = rest (omega (arith, holders_same p q b)) in (suc id, e)

  pub two_held : (q : List Range) → 2 ≤ holders row q → (i : ℕ) × (j : ℕ) × (i < j) × (holds_row row (get_or q i absent) ≡ true) × (holds_row row (get_or q j absent) ≡ true)
  unfolding holders
  two_held [] h = absurd (omega arith)
  two_held (p ∷ q) h = go (holds_row row p) refl (two_held q)
    where
      go : (b : Bool) → holds_row row p ≡ b
          → (2 ≤ holders row q → (i : ℕ) × (j : ℕ) × (i < j) × (holds_row row (get_or q i absent) ≡ true) × (holds_row row (get_or q j absent) ≡ true))
          → (i : ℕ) × (j : ℕ) × (i < j) × (holds_row row (get_or (p ∷ q) i absent) ≡ true) × (holds_row row (get_or (p ∷ q) j absent) ≡ true)
      go true b rest = let (j, e) = one_held q (omega (arith, holders_more p q b)) in (0, suc j, omega arith, b, e)
      go false b rest = let (i, j, l, e, f) = rest (omega (arith, holders_same p q b)) in (suc i, suc j, omega (arith, l), e, f)

  -- ---- None holds the row

  pub none_held : (q : List Range) → holders row q ≡ 0 → (id : ℕ) → holds_row row (get_or q id absent) ≡ false
  none_held q n id = go (holds_row row (get_or q id absent)) refl
    where
      go : (b : Bool) → holds_row row (get_or q id absent) ≡ b → b ≡ false
      go true b = absurd (omega (arith, held_one q id b))
      go false b = refl

  pub held_none : (q : List Range) → ((id : ℕ) → holds_row row (get_or q id absent) ≡ false) → holders row q ≡ 0
  unfolding holders
  held_none [] u = refl
  held_none (p ∷ q) u = rw (u 0) (held_none q (λ id. u (suc id)))

  -- ---- What a test says of the ranges that hold the row

  module _ (t : Range → Bool) where
    pub any_none : (q : List Range) → holders row q ≡ 0 → any_range (λ p. holds_row row p && t p) q ≡ false
    any_none [] n = refl
    any_none (p ∷ q) n = go (holds_row row p) refl (any_none q)
      where
        go : (b : Bool) → holds_row row p ≡ b → (holders row q ≡ 0 → any_range (λ p. holds_row row p && t p) q ≡ false) → ((b && t p) || any_range (λ p. holds_row row p && t p) q) ≡ false
        go true b rest = absurd (omega (arith, holders_more p q b))
        go false b rest = rest (omega (arith, holders_same p q b))

    pub any_one : (q : List Range) (id : ℕ) → holders row q ≤ 1 → holds_row row (get_or q id absent) ≡ true → any_range (λ p. holds_row row p && t p) q ≡ t (get_or q id absent)
    any_one [] id h e = absurd (false≢true e)
    any_one (p ∷ q) zero h e =
        let n : holders row q ≡ 0 = omega (arith, holders_more p q e) in
        rw (e, any_none q n) (or-false (t p))
    any_one (p ∷ q) (suc id) h e = go (holds_row row p) refl (any_one q id)
      where
        go : (b : Bool) → holds_row row p ≡ b
            → (holders row q ≤ 1 → holds_row row (get_or q id absent) ≡ true → any_range (λ p. holds_row row p && t p) q ≡ t (get_or q id absent))
            → ((b && t p) || any_range (λ p. holds_row row p && t p) q) ≡ t (get_or q id absent)
        go true b rest = absurd (omega (arith, holders_more p q b, held_one q id e))
        go false b rest = rest (omega (arith, holders_same p q b)) e
