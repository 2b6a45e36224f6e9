-- A batch of one or two encodings: what `read` says of it.
-- Assumes nothing.
use mathlib.Core.Path.{◌≡◌, refl, sym, ap, ◌∙◌, subst}
use mathlib.Core.Bool.{true, false, ◌||◌, false≢true}
use mathlib.Core.Option.{Option, none as nothing, some}
use Prim.Native.Nat.{ℕ, suc}
use native.Mathlib.Omega.{arith}
use mathlib.Core.List.{List, [], ◌∷◌}
use lib.Dec.{eqb}
use lib.ListN.{length}
use borrow.Author.Tests.{ne_eqb}
use Rattle.record.specs.Tree.{Encoding, listed, forest}
use Rattle.record.specs.WellFormed.{Stores}
use Rattle.record.specs.Read.{Reading, malformed, holds, read, one_or_two, of_one_or_two, is_one_or_two}
use Rattle.record.specs.Standing.{with_second, OneOrTwo}
use Rattle.record.proofs.Tree.{forest_listed}
use Rattle.record.proofs.Read.{found, stored}

pub one_or_two_of : {A : Type 0} {nodes rows : List ℕ} {E : Encoding} {second : Option Encoding} (otherwise : A) (k : Encoding → Option Encoding → A) → OneOrTwo nodes rows E second → of_one_or_two otherwise k (read nodes rows) ≡ k E second
unfolding of_one_or_two
one_or_two_of {A} {nodes} {rows} {E} {second} otherwise k h = rw (found nodes rows (forest (with_second E second)) h.stores) (go second)
  where
    go : (second : Option Encoding) → one_or_two otherwise k (listed (forest (with_second E second))) ≡ k E second
    go nothing = refl
    go (some F) = refl

pub not_one_or_two : {A : Type 0} (otherwise : A) (k : Encoding → Option Encoding → A) (r : Reading) → is_one_or_two r ≡ false → of_one_or_two otherwise k r ≡ otherwise
unfolding of_one_or_two is_one_or_two
not_one_or_two otherwise k malformed e = refl
not_one_or_two otherwise k (holds f) e = go (listed f) e
  where
    go : (l : List Encoding) → one_or_two false (λ E second. true) l ≡ false → one_or_two otherwise k l ≡ otherwise
    go [] e = refl
    go (E ∷ []) e = absurd (false≢true (sym e))
    go (E ∷ F ∷ []) e = absurd (false≢true (sym e))
    go (E ∷ F ∷ G ∷ l) e = refl

pub one_or_two_there : (nodes rows : List ℕ) → is_one_or_two (read nodes rows) ≡ true → (E : Encoding) × (second : Option Encoding) × OneOrTwo nodes rows E second
unfolding of_one_or_two is_one_or_two
one_or_two_there nodes rows e = go (read nodes rows) refl e
  where
    those : (l : List Encoding) → one_or_two false (λ E second. true) l ≡ true → (E : Encoding) × (second : Option Encoding) × (l ≡ with_second E second)
    those [] e = absurd (false≢true e)
    those (E ∷ []) e = (E, nothing, refl)
    those (E ∷ F ∷ []) e = (E, some F, refl)
    those (E ∷ F ∷ G ∷ l) e = absurd (false≢true e)

    go : (r : Reading) → read nodes rows ≡ r → is_one_or_two r ≡ true → (E : Encoding) × (second : Option Encoding) × OneOrTwo nodes rows E second
    go malformed s e = absurd (false≢true e)
    go (holds f) s e =
        let (E, second, p) = those (listed f) e in
        let q : f ≡ forest (with_second E second) = sym (forest_listed f) ∙ ap forest p in
        (E, second, record { stores = subst (Stores nodes rows) q (stored nodes rows f s) })

-- the test by the number of encodings
pub one_or_two_counted : (l : List Encoding) → one_or_two false (λ E second. true) l ≡ (eqb (length l) 1 || eqb (length l) 2)
one_or_two_counted [] = refl
one_or_two_counted (E ∷ []) = refl
one_or_two_counted (E ∷ F ∷ []) = refl
one_or_two_counted (E ∷ F ∷ G ∷ l) = rw (ne_eqb (suc (suc (suc (length l)))) 1 (λ e. omega arith), ne_eqb (suc (suc (suc (length l)))) 2 (λ e. omega arith))
