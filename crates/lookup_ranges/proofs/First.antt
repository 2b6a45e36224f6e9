-- `first_from` finds the first element that the test holds of: one step of a walk through the list, what it finds, and that
-- it finds nothing only if there is nothing. `last_from` likewise finds the last.
-- Assumes nothing.
use mathlib.Core.Path.{◌≡◌, refl, ap, ◌∙◌}
use mathlib.Core.Bool.{Bool, true, false, cond}
use mathlib.Core.Option.{Option, none as nothing, some}
use Prim.Native.Nat.{ℕ, zero, suc, ◌+◌, ◌-◌, ◌≤◌, ◌<◌}
use native.Mathlib.Numerals.{add-one}
use native.Mathlib.Omega.{arith}
use mathlib.Core.List.{List, [], ◌∷◌}
use lib.ListN.{length, get_or, drop, drop_of_length-le}
use lib.Seq.{drop-cons}
use Rattle.lookup_ranges.specs.First.{first_from, last_from, or_else}

-- Place k, counted from n, is in the list, and the test holds there and at no place before it; d is what `get_or` takes.
pub record FirstAt {A : Type 0} (t : A → Bool) (n : ℕ) (xs : List A) (d : A) (k : ℕ) : Type 0 where
  pub from : n ≤ k
  pub inside : k < n + length xs
  pub holds : t (get_or xs (k - n) d) ≡ true
  pub none_before : (j : ℕ) → j < k - n → t (get_or xs j d) ≡ false

-- The same of the last place.
pub record LastAt {A : Type 0} (t : A → Bool) (n : ℕ) (xs : List A) (d : A) (k : ℕ) : Type 0 where
  pub from : n ≤ k
  pub inside : k < n + length xs
  pub holds : t (get_or xs (k - n) d) ≡ true
  pub none_after : (j : ℕ) → k - n < j → j < length xs → t (get_or xs j d) ≡ false

-- The test holds at no place.
abbrev pub Nowhere : {A : Type 0} → (A → Bool) → List A → A → Type 0
Nowhere t xs d = (j : ℕ) → j < length xs → t (get_or xs j d) ≡ false

-- nothing is not found
pub not_found : {o : Option ℕ} {k : ℕ} → o ≡ nothing → o ≡ some k → ⊥
not_found p q = let z : ◌≡◌ {A = ℕ} 0 1 = cc in omega arith

module _ {A : Type 0} (t : A → Bool) where
  -- ---- One step, at place i of a list, counted as n

  pub first_here : (xs : List A) (i n : ℕ) (d : A) → i < length xs → t (get_or xs i d) ≡ true → first_from t n (drop i xs) ≡ some n
  unfolding first_from
  first_here xs i n d h e = rw (drop-cons xs i d h, first_from, e)

  pub first_next : (xs : List A) (i n : ℕ) (d : A) → i < length xs → t (get_or xs i d) ≡ false → first_from t n (drop i xs) ≡ first_from t (n + 1) (drop (i + 1) xs)
  unfolding first_from
  first_next xs i n d h e = rw (drop-cons xs i d h, first_from, e, add-one i, add-one n)

  pub first_end : (xs : List A) (i n : ℕ) → length xs ≤ i → first_from t n (drop i xs) ≡ nothing
  unfolding first_from
  first_end xs i n h = rw (drop_of_length-le xs h)

module _ {A : Type 0} (t : A → Bool) (d : A) where
  nowhere_here : (x : A) (xs : List A) → t x ≡ false → Nowhere t xs d → Nowhere t (x ∷ xs) d
  nowhere_here x xs e u zero h = e
  nowhere_here x xs e u (suc j) h = u j (omega arith)

  -- ---- What the first search finds, and when it finds nothing

  pub first_found : (n : ℕ) (xs : List A) (k : ℕ) → first_from t n xs ≡ some k → FirstAt t n xs d k
  unfolding first_from
  first_found n [] k e = absurd (not_found refl e)
  first_found n (x ∷ xs) k e = go (t x) refl e (first_found (suc n) xs k)
    where
      here : n ≡ k → t x ≡ true → FirstAt t n (x ∷ xs) d k
      here s b =
          let z : k - n ≡ 0 = omega arith in
          record { from = omega arith; inside = omega arith; holds = rw z b; none_before = λ j h. absurd (omega arith) }

      later : t x ≡ false → FirstAt t (suc n) xs d k → FirstAt t n (x ∷ xs) d k
      later b f =
          let z : k - n ≡ suc (k - suc n) = omega arith in
          record { from = omega arith; inside = omega arith; holds = rw z f.holds; none_before = λ j h. before j (omega arith) }
        where
          before : (j : ℕ) → j < suc (k - suc n) → t (get_or (x ∷ xs) j d) ≡ false
          before zero h = b
          before (suc j) h = f.none_before j (omega arith)

      go : (b : Bool) → t x ≡ b → cond b (some n) (first_from t (suc n) xs) ≡ some k → (first_from t (suc n) xs ≡ some k → FirstAt t (suc n) xs d k) → FirstAt t n (x ∷ xs) d k
      go true b s rest = here (cc) b
      go false b s rest = later b (rest s)

  pub first_is : (n : ℕ) (xs : List A) (k : ℕ) → FirstAt t n xs d k → first_from t n xs ≡ some k
  unfolding first_from
  first_is n [] k f = absurd (omega (arith, f.from, f.inside))
  first_is n (x ∷ xs) k f = go (k - n) refl (first_is (suc n) xs k)
    where
      go : (m : ℕ) → k - n ≡ m → (FirstAt t (suc n) xs d k → first_from t (suc n) xs ≡ some k) → cond (t x) (some n) (first_from t (suc n) xs) ≡ some k
      go zero e rest = rw (rw e at f.holds) (ap some (omega (arith, f.from)))
      go (suc m) e rest =
          let z : k - n ≡ suc (k - suc n) = omega arith in
          rw (f.none_before 0 (omega arith))
          (rest (record { from = omega arith; inside = omega (arith, f.inside); holds = rw z at f.holds; none_before = λ j h. f.none_before (suc j) (omega arith) }))

  pub first_nothing : (n : ℕ) (xs : List A) → first_from t n xs ≡ nothing → Nowhere t xs d
  unfolding first_from
  first_nothing n [] e = λ j h. absurd (omega arith)
  first_nothing n (x ∷ xs) e = go (t x) refl e (first_nothing (suc n) xs)
    where
      go : (b : Bool) → t x ≡ b → cond b (some n) (first_from t (suc n) xs) ≡ nothing → (first_from t (suc n) xs ≡ nothing → Nowhere t xs d) → Nowhere t (x ∷ xs) d
      go true b s rest = absurd (not_found s refl)
      go false b s rest = nowhere_here x xs b (rest s)

  pub nothing_first : (n : ℕ) (xs : List A) → Nowhere t xs d → first_from t n xs ≡ nothing
  unfolding first_from
  nothing_first n [] u = refl
  nothing_first n (x ∷ xs) u = rw (u 0 (omega arith)) (nothing_first (suc n) xs (λ j h. u (suc j) (omega arith)))

  -- ---- The last search

  pub last_nothing : (n : ℕ) (xs : List A) → last_from t n xs ≡ nothing → Nowhere t xs d
  unfolding last_from
  last_nothing n [] e = λ j h. absurd (omega arith)
  last_nothing n (x ∷ xs) e = go (last_from t (suc n) xs) (last_nothing (suc n) xs) (t x) refl e
    where
      go : (o : Option ℕ) → (o ≡ nothing → Nowhere t xs d) → (b : Bool) → t x ≡ b → or_else o (cond b (some n) nothing) ≡ nothing → Nowhere t (x ∷ xs) d
      go (some k) rest b s q = absurd (not_found q refl)
      go nothing rest true s q = absurd (not_found q refl)
      go nothing rest false s q = nowhere_here x xs s (rest refl)

  pub nothing_last : (n : ℕ) (xs : List A) → Nowhere t xs d → last_from t n xs ≡ nothing
  unfolding last_from
  nothing_last n [] u = refl
  nothing_last n (x ∷ xs) u = rw (u 0 (omega arith), nothing_last (suc n) xs (λ j h. u (suc j) (omega arith)))

  pub last_found : (n : ℕ) (xs : List A) (k : ℕ) → last_from t n xs ≡ some k → LastAt t n xs d k
  unfolding last_from
  last_found n [] k e = absurd (not_found refl e)
  last_found n (x ∷ xs) k e = go (last_from t (suc n) xs) refl (last_found (suc n) xs k) (t x) refl e
    where
      here : n ≡ k → t x ≡ true → Nowhere t xs d → LastAt t n (x ∷ xs) d k
      here s b u =
          let z : k - n ≡ 0 = omega arith in
          record { from = omega arith; inside = omega arith; holds = rw z b; none_after = λ j a h. after j (omega arith) h }
        where
          after : (j : ℕ) → 0 < j → j < length (x ∷ xs) → t (get_or (x ∷ xs) j d) ≡ false
          after zero a h = absurd (omega arith)
          after (suc j) a h = u j (omega arith)

      later : LastAt t (suc n) xs d k → LastAt t n (x ∷ xs) d k
      later f =
          let z : k - n ≡ suc (k - suc n) = omega arith in
          record { from = omega arith; inside = omega arith; holds = rw z f.holds; none_after = λ j a h. after j (omega arith) h }
        where
          after : (j : ℕ) → suc (k - suc n) < j → j < length (x ∷ xs) → t (get_or (x ∷ xs) j d) ≡ false
          after zero a h = absurd (omega arith)
          after (suc j) a h = f.none_after j (omega arith) (omega arith)

      go : (o : Option ℕ) → last_from t (suc n) xs ≡ o → (last_from t (suc n) xs ≡ some k → LastAt t (suc n) xs d k) → (b : Bool) → t x ≡ b → or_else o (cond b (some n) nothing) ≡ some k → LastAt t n (x ∷ xs) d k
      go (some m) r rest b s q = later (rest (r ∙ q))
      go nothing r rest true s q = here (cc) s (last_nothing (suc n) xs r)
      go nothing r rest false s q = absurd (not_found refl q)

  pub last_is : (n : ℕ) (xs : List A) (k : ℕ) → LastAt t n xs d k → last_from t n xs ≡ some k
  unfolding last_from
  last_is n [] k f = absurd (omega (arith, f.from, f.inside))
  last_is n (x ∷ xs) k f = go (k - n) refl (last_is (suc n) xs k)
    where
      go : (m : ℕ) → k - n ≡ m → (LastAt t (suc n) xs d k → last_from t (suc n) xs ≡ some k) → or_else (last_from t (suc n) xs) (cond (t x) (some n) nothing) ≡ some k
      go zero e rest = rw (nothing_last (suc n) xs (λ j h. f.none_after (suc j) (omega arith) (omega arith)), rw e at f.holds) (ap some (omega (arith, f.from)))
      go (suc m) e rest =
          let z : k - n ≡ suc (k - suc n) = omega arith in
          rw (rest (record { from = omega arith; inside = omega (arith, f.inside); holds = rw z at f.holds; none_after = λ j a h. f.none_after (suc j) (omega arith) (omega arith) }))
