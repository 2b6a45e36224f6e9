-- The least start and the greatest end of several spans: their order plays no part, nor does one that comes twice; and the
-- span of rows put together or left off.
-- Assumes nothing.
use mathlib.Core.Path.{◌≡◌, refl, sym, ap, ap₂, subst, ◌∙◌}
use mathlib.Core.Option.{Option, none as nothing, some}
use Prim.Native.Nat.{ℕ}
use native.Mathlib.Omega.{arith}
use mathlib.Core.List.{List, [], ◌∷◌, ◌++◌, map}
use lib.ListN.{take, drop, take-append-drop}
use Rattle.record.specs.Tree.{Row}
use Rattle.lists.specs.Lists.{All}
use Rattle.lists.proofs.All.{all_imp}
use Rattle.lists.proofs.FlatMap.{map_append}
use Rattle.lookup_spans.specs.Spans.{Span, span_from, joint, among, row_span, span_of}

-- ---- Two and three spans

same : {a b c d : ℕ} → a ≡ c → b ≡ d → ◌≡◌ {A = Option Span} (some (span_from a b)) (some (span_from c d))
same p q = ap₂ (λ (s e : ℕ). some (span_from s e)) p q

pub joint_none : (a : Option Span) → joint a nothing ≡ a
joint_none nothing = refl
joint_none (some a) = refl

pub joint_same : (a : Option Span) → joint a a ≡ a
joint_same nothing = refl
joint_same (some a) = same (omega arith) (omega arith)

pub joint_either : (a b : Option Span) → joint a b ≡ joint b a
joint_either nothing b = sym (joint_none b)
joint_either (some a) nothing = refl
joint_either (some a) (some b) = same (omega arith) (omega arith)

pub joint_three : (a b c : Option Span) → joint (joint a b) c ≡ joint a (joint b c)
joint_three nothing b c = refl
joint_three (some a) nothing c = refl
joint_three (some a) (some b) nothing = refl
joint_three (some a) (some b) (some c) = same (omega arith) (omega arith)

-- ---- One span within another

-- a adds nothing to b
abbrev pub Within : Option Span → Option Span → Type 0
Within a b = joint a b ≡ b

pub within_both : (a b : Option Span) → Within a b → Within b a → a ≡ b
within_both a b p q = sym q ∙ joint_either b a ∙ p

pub within_step : (a b c : Option Span) → Within a b → Within b c → Within a c
within_step a b c p q = ap (joint a) (sym q) ∙ sym (joint_three a b c) ∙ ap (λ (x : Option Span). joint x c) p ∙ q

pub within_first : (a b : Option Span) → Within a (joint a b)
within_first a b = sym (joint_three a a b) ∙ ap (λ (x : Option Span). joint x b) (joint_same a)

pub within_second : (a b : Option Span) → Within b (joint a b)
within_second a b = ap (joint b) (joint_either a b) ∙ within_first b a ∙ joint_either b a

-- both within a third
pub within_joint : (a b c : Option Span) → Within a c → Within b c → Within (joint a b) c
within_joint a b c p q = joint_three a b c ∙ ap (joint a) q ∙ p

-- several, all within another; and each within all of them
module _ {A : Type 0} (f : A → Option Span) where
  pub within_among : (xs : List A) (c : Option Span) → All (λ x. Within (f x) c) xs → Within (among (map f xs)) c
  within_among [] c h = refl
  within_among (x ∷ xs) c (h, hs) = within_joint (f x) (among (map f xs)) c h (within_among xs c hs)

  pub within_each : (xs : List A) → All (λ x. Within (f x) (among (map f xs))) xs
  within_each [] = tt
  within_each (x ∷ xs) =
      let m = among (map f xs) in
      (within_first (f x) m, all_imp xs (λ y h. within_step (f y) m (joint (f x) m) h (within_second (f x) m)) (within_each xs))

-- ---- Rows put together, and left off

among_append : (l m : List (Option Span)) → among (l ++ m) ≡ joint (among l) (among m)
among_append [] m = refl
among_append (a ∷ l) m = ap (joint a) (among_append l m) ∙ sym (joint_three a (among l) (among m))

pub span_nothing : span_of [] ≡ nothing
unfolding span_of
span_nothing = refl

pub span_one : (r : Row) → span_of (r ∷ []) ≡ row_span r.special r.offset_start r.offset_end
unfolding span_of
span_one r = joint_none (row_span r.special r.offset_start r.offset_end)

pub span_append : (R S : List Row) → span_of (R ++ S) ≡ joint (span_of R) (span_of S)
unfolding span_of
span_append R S =
    let f : Row → Option Span = λ r. row_span r.special r.offset_start r.offset_end in
    ap among (map_append f R S) ∙ among_append (map f R) (map f S)

-- the first n rows, and all but the first n
span_split : (n : ℕ) (R : List Row) → joint (span_of (take n R)) (span_of (drop n R)) ≡ span_of R
span_split n R = sym (span_append (take n R) (drop n R)) ∙ ap span_of (take-append-drop n R)

pub span_take : (n : ℕ) (R : List Row) → Within (span_of (take n R)) (span_of R)
span_take n R = subst (Within (span_of (take n R))) (span_split n R) (within_first (span_of (take n R)) (span_of (drop n R)))

pub span_drop : (n : ℕ) (R : List Row) → Within (span_of (drop n R)) (span_of R)
span_drop n R = subst (Within (span_of (drop n R))) (span_split n R) (within_second (span_of (take n R)) (span_of (drop n R)))
