-- What is computed says whether a forest is well-formed.
-- Assumes nothing.
use mathlib.Core.Path.{◌≡◌, refl, sym, ap, ap₂}
use Prim.Native.Nat.{ℕ, suc, ◌≤◌}
use mathlib.Core.Bool.{Bool, true, false, ◌&&◌, ◌||◌, false≢true}
use mathlib.Core.Logic.{◌⊎◌, inl, inr}
use mathlib.Core.List.{List, [], ◌∷◌}
use lib.Dec.{leb, eqb}
use lib.ListN.{length}
use borrow.Author.Tests.{leb-true, le-leb, eqb-true, eq-eqb}
use Rattle.record.specs.Tree.{Row, Range, Forest, none, node, sequences}
use Rattle.lists.specs.Lists.{All}
use Rattle.record.specs.WellFormed.{RangeFine, RowFine, NodeFine, Fine, Fits, WellFormed, nodes_in, rows_in, levels, most_nodes, most_rows, most_levels}
use Rattle.record.specs.Read.{range_ok, row_ok, all_ok, fine_ok, fits_ok, well_ok}

-- the test b says whether P holds
pub record Tells (b : Bool) (P : Type 0) : Type 0 where
  pub so : b ≡ true → P
  pub back : P → b ≡ true

pub tells_le : (a b : ℕ) → Tells (leb a b) (a ≤ b)
tells_le a b = record { so = leb-true a b; back = le-leb a b }

pub tells_eq : (a b : ℕ) → Tells (eqb a b) (a ≡ b)
tells_eq a b = record { so = eqb-true a b; back = eq-eqb a b }

pub tells_and : {a b : Bool} {A B : Type 0} → Tells a A → Tells b B → Tells (a && b) (A × B)
tells_and {a} {b} {A} {B} s t = record { so = λ e. go a s.so e; back = λ (x, y). ap₂ ◌&&◌ (s.back x) (t.back y) }
  where
    go : (c : Bool) → (c ≡ true → A) → (c && b) ≡ true → A × B
    go true f e = (f refl, t.so e)
    go false f e = absurd (false≢true e)

tells_or : {a b : Bool} {A B : Type 0} → Tells a A → Tells b B → Tells (a || b) (A ⊎ B)
tells_or {a} {b} {A} {B} s t = record { so = λ e. go a s.so e; back = forth a s.back }
  where
    go : (c : Bool) → (c ≡ true → A) → (c || b) ≡ true → A ⊎ B
    go true f e = inl (f refl)
    go false f e = inr (t.so e)

    forth : (c : Bool) → (A → c ≡ true) → A ⊎ B → (c || b) ≡ true
    forth true f x = refl
    forth false f (inl x) = absurd (false≢true (f x))
    forth false f (inr y) = t.back y

pub tells_as : {b : Bool} {P Q : Type 0} → (P → Q) → (Q → P) → Tells b P → Tells b Q
tells_as f h s = record { so = λ e. f (s.so e); back = λ q. s.back (h q) }

pub tells_and₃ : {a b c : Bool} {A B C : Type 0} → Tells a A → Tells b B → Tells c C → Tells (a && (b && c)) (A × B × C)
tells_and₃ s t u = tells_as (λ p. (p.0, p.1.0, p.1.1)) (λ p. (p.0, (p.1, p.2))) (tells_and s (tells_and t u))

-- two tests that say whether the same holds
pub tells_same : {a b : Bool} {P : Type 0} → Tells a P → Tells b P → a ≡ b
tells_same {a} {b} s t = go a b (λ e. t.back (s.so e)) (λ e. s.back (t.so e))
  where
    go : (a b : Bool) → (a ≡ true → b ≡ true) → (b ≡ true → a ≡ true) → a ≡ b
    go true b f h = sym (f refl)
    go false true f h = h refl
    go false false f h = refl

pub tells_all : {A : Type 0} (t : A → Bool) (M : A → Type 0) → ((a : A) → Tells (t a) (M a)) → (xs : List A) → Tells (all_ok t xs) (All M xs)
tells_all t M h [] = record { so = λ e. tt; back = λ u. refl }
tells_all t M h (x ∷ xs) = tells_and (h x) (tells_all t M h xs)

tells_range : (n : ℕ) (p : Range) → Tells (range_ok n p) (RangeFine n p)
tells_range n p =
    tells_or
    (tells_as (λ (a, b, c) i. record { present = a i; start = b i; end = c i }) (λ e. (ap (λ (p : Range). p.present) e, ap (λ (p : Range). p.start) e, ap (λ (p : Range). p.end) e))
    (tells_and₃ (tells_eq p.present 0) (tells_eq p.start 0) (tells_eq p.end 0)))
    (tells_and₃ (tells_eq p.present 1) (tells_le p.start p.end) (tells_le p.end n))

tells_row : (r : Row) → Tells (row_ok r) (RowFine r)
tells_row r = tells_and (tells_le r.pool 1) (tells_or (tells_and (tells_eq r.word_mark 0) (tells_eq r.word 0)) (tells_eq r.word_mark 1))

tells_node : (r : List Row) (q : List Range) → Tells (eqb (length q) sequences && (all_ok (range_ok (length r)) q && all_ok row_ok r)) (NodeFine r q)
tells_node r q =
    tells_as (λ (a, b, c). record { places = a; ranges_fine = b; rows_fine = c }) (λ n. (n.places, n.ranges_fine, n.rows_fine))
    (tells_and₃ (tells_eq (length q) sequences) (tells_all (range_ok (length r)) (RangeFine (length r)) (tells_range (length r)) q) (tells_all row_ok RowFine tells_row r))

pub tells_fine : (f : Forest) → Tells (fine_ok f) (Fine f)
unfolding fine_ok
tells_fine none = record { so = λ e. tt; back = λ u. refl }
tells_fine (node r q w x) = tells_and₃ (tells_node r q) (tells_fine w) (tells_fine x)

pub tells_fits : (f : Forest) → Tells (fits_ok f) (Fits f)
unfolding fits_ok
tells_fits f =
    tells_as (λ (a, b, c). record { few_nodes = a; few_rows = b; few_levels = c }) (λ w. (w.few_nodes, w.few_rows, w.few_levels))
    (tells_and₃ (tells_le (nodes_in f) most_nodes) (tells_le (rows_in f) most_rows) (tells_le (levels f) (suc most_levels)))

pub tells_well : (f : Forest) → Tells (well_ok f) (WellFormed f)
unfolding well_ok
tells_well f = tells_as (λ (a, b). record { fine = a; fits = b }) (λ w. (w.fine, w.fits)) (tells_and (tells_fine f) (tells_fits f))
