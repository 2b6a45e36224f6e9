-- The span that is computed is the least offset start and the greatest offset end, and there is no other; none is said just
-- if no row has the special mask 0.
-- Assumes nothing.
use mathlib.Core.Path.{◌≡◌, refl, ap₂, subst}
use mathlib.Core.Bool.{Bool, true, false, cond}
use mathlib.Core.Logic.{inl, inr, ⊎_elim}
use mathlib.Core.Option.{Option, none as nothing, some}
use Prim.Native.Nat.{◌≤◌, ◌<◌, min, max}
use native.Mathlib.Omega.{arith}
use mathlib.Core.List.{List, [], ◌∷◌}
use lib.Dec.{eqb}
use borrow.Author.Tests.{eqb-true, eqb-false}
use Rattle.record.specs.Tree.{Row}
use Rattle.lists.specs.Lists.{All}
use Rattle.lists.proofs.All.{all_imp}
use Rattle.lists.proofs.Numbers.{either}
use Rattle.lookup_spans.specs.Spans.{Span, span_from, joint, span_of}
use Rattle.lookup_spans.specs.Least.{SomeRow, Plain, Least, NonePlain}

-- ---- Some row

some_imp : {M N : Row → Type 0} (R : List Row) → ((r : Row) → M r → N r) → SomeRow M R → SomeRow N R
some_imp [] f h = h
some_imp (r ∷ R) f (inl m) = inl (f r m)
some_imp (r ∷ R) f (inr h) = inr (some_imp R f h)

-- what follows where all are such rows and some is another
meet : {M N : Row → Type 0} {C : Type 0} (R : List Row) → ((r : Row) → M r → N r → C) → All M R → SomeRow N R → C
meet [] f a s = absurd s
meet (r ∷ R) f (m, a) (inl n) = f r m n
meet (r ∷ R) f (m, a) (inr s) = meet R f a s

-- ---- What the computed span tells

abbrev Told : List Row → Option Span → Type 0
Told R nothing = NonePlain R
Told R (some s) = Least R s

-- one row more
module _ (r : Row) (R : List Row) where
  abbrev own : Span
  own = span_from r.offset_start r.offset_end

  first : Plain r → NonePlain R → Least (r ∷ R) own
  first p h =
      record {
        starts_within = ((λ e. omega arith), all_imp R (λ x n e. absurd (n e)) h);
        ends_within = ((λ e. omega arith), all_imp R (λ x n e. absurd (n e)) h);
        start_there = inl (p, refl);
        end_there = inl (p, refl);
      }

  further : Plain r → (s : Span) → Least R s → Least (r ∷ R) (span_from (min r.offset_start s.start) (max r.offset_end s.end))
  further p s h =
      record {
        starts_within = ((λ e. omega arith), all_imp R (λ x n e. omega (arith, n e)) h.starts_within);
        ends_within = ((λ e. omega arith), all_imp R (λ x n e. omega (arith, n e)) h.ends_within);
        start_there =
            ⊎_elim
            (λ (l : r.offset_start ≤ s.start). inl (p, omega arith))
            (λ (l : s.start < r.offset_start). inr (some_imp R (λ x q. (q.0, omega (arith, q.1))) h.start_there))
            (either r.offset_start s.start);
        end_there =
            ⊎_elim
            (λ (l : r.offset_end ≤ s.end). inr (some_imp R (λ x q. (q.0, omega (arith, q.1))) h.end_there))
            (λ (l : s.end < r.offset_end). inl (p, omega arith))
            (either r.offset_end s.end);
      }

  left_off : (Plain r → ⊥) → (s : Span) → Least R s → Least (r ∷ R) s
  left_off p s h = record { starts_within = ((λ e. absurd (p e)), h.starts_within); ends_within = ((λ e. absurd (p e)), h.ends_within); start_there = inr h.start_there; end_there = inr h.end_there }

  told_more : (b : Bool) → eqb r.special 0 ≡ b → (s : Option Span) → Told R s → Told (r ∷ R) (joint (cond b (some own) nothing) s)
  told_more true e nothing h = first (eqb-true r.special 0 e) h
  told_more true e (some s) h = further (eqb-true r.special 0 e) s h
  told_more false e nothing h = (eqb-false r.special 0 e, h)
  told_more false e (some s) h = left_off (eqb-false r.special 0 e) s h

told : (R : List Row) → Told R (span_of R)
unfolding span_of
told [] = tt
told (r ∷ R) = told_more r R (eqb r.special 0) refl (span_of R) (told R)

-- ---- It is the least start and the greatest end

pub span_least : (R : List Row) (s : Span) → span_of R ≡ some s → Least R s
span_least R s e = subst (Told R) e (told R)

pub span_none : (R : List Row) → span_of R ≡ nothing → NonePlain R
span_none R e = subst (Told R) e (told R)

-- ---- And there is no other

only : (R : List Row) (s t : Span) → Least R s → Least R t → t ≡ s
only R s t h k =
    let a : s.start ≤ t.start = meet R (λ r m n. omega (arith, m n.0, n.1)) h.starts_within k.start_there in
    let b : t.start ≤ s.start = meet R (λ r m n. omega (arith, m n.0, n.1)) k.starts_within h.start_there in
    let c : t.end ≤ s.end = meet R (λ r m n. omega (arith, m n.0, n.1)) h.ends_within k.end_there in
    let d : s.end ≤ t.end = meet R (λ r m n. omega (arith, m n.0, n.1)) k.ends_within h.end_there in
    let p : t.start ≡ s.start = omega arith in
    let q : t.end ≡ s.end = omega arith in
    ap₂ span_from p q

pub span_only : (R : List Row) (s : Span) → Least R s → span_of R ≡ some s
span_only R s h = go (span_of R) (told R)
  where
    go : (a : Option Span) → Told R a → a ≡ some s
    go nothing n = absurd (meet R (λ r m p. m p.0) n h.start_there)
    go (some t) k = λ j. some (only R s t h k j)

pub none_span : (R : List Row) → NonePlain R → span_of R ≡ nothing
none_span R h = go (span_of R) (told R)
  where
    go : (a : Option Span) → Told R a → a ≡ nothing
    go nothing n = refl
    go (some t) k = absurd (meet R (λ r m p. m p.0) h k.start_there)
