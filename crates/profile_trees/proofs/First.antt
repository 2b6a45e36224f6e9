-- The first break of rows one after another: of two breaks the one whose rule goes first, and of the same rule the earlier.
-- Assumes nothing.
use mathlib.Core.Path.{◌≡◌, refl, sym, ap, ap₂, ◌∙◌}
use mathlib.Core.Bool.{Bool, true, false, cond}
use mathlib.Core.Option.{Option, none as nothing, some, map}
use Prim.Native.Nat.{ℕ, zero, suc, ◌+◌, ◌≤◌, ◌<◌}
use native.Mathlib.Nat.{add-zero, suc-add, zero-add}
use native.Mathlib.Omega.{arith}
use mathlib.Core.List.{List, [], ◌∷◌, ◌++◌}
use lib.Dec.{ltb}
use borrow.Author.Tests.{lt-ltb, le-ltb, ltb-true, ltb-false}
use Rattle.lists.specs.Lists.{All}
use Rattle.lookup_ranges.specs.First.{or_else}
use Rattle.profile_trees.specs.Rules.{BatchNode, Rule, NumberedRule, rules}
use Rattle.profile_trees.specs.Profile.{NodeRow, rows_from, first_row, break_at, first_break}
use Rattle.profile_trees.specs.Promises.{no_rule, held, better, row_rules}
use Rattle.profile_trees.specs.declared.Break.{Break}

-- ---- Of two breaks the one that goes first

pub better_nothing : (o : Option Break) → better o nothing ≡ o
unfolding better
better_nothing nothing = refl
better_nothing (some a) = refl

pub nothing_better : (o : Option Break) → better nothing o ≡ o
unfolding better
nothing_better o = refl

-- the first stays unless the rule of the second is lower
pub better_stays : (a b : Break) → a.rule ≤ b.rule → better (some a) (some b) ≡ some a
unfolding better
better_stays a b h = rw (le-ltb b.rule a.rule h)

pub better_lower : (a b : Break) → b.rule < a.rule → better (some a) (some b) ≡ some b
unfolding better
better_lower a b h = rw (lt-ltb b.rule a.rule h)

pub better_assoc : (a b c : Option Break) → better (better a b) c ≡ better a (better b c)
unfolding better
better_assoc nothing b c = refl
better_assoc (some a) nothing c = refl
better_assoc (some a) (some b) nothing = better_nothing (better (some a) (some b))
better_assoc (some a) (some b) (some c) = go (ltb b.rule a.rule) (ltb c.rule b.rule) refl refl
  where
    go : (p q : Bool) → ltb b.rule a.rule ≡ p → ltb c.rule b.rule ≡ q → better (cond p (some b) (some a)) (some c) ≡ better (some a) (cond q (some c) (some b))
    go true true p q = better_lower b c (ltb-true c.rule b.rule q) ∙ sym (better_lower a c (omega (arith, ltb-true b.rule a.rule p, ltb-true c.rule b.rule q)))
    go true false p q = better_stays b c (ltb-false c.rule b.rule q) ∙ sym (better_lower a b (ltb-true b.rule a.rule p))
    go false true p q = refl
    go false false p q = better_stays a c (omega (arith, ltb-false b.rule a.rule p, ltb-false c.rule b.rule q)) ∙ sym (better_stays a b (ltb-false b.rule a.rule p))

-- ---- Rules whose numbers rise

abbrev pub Ascending : List NumberedRule → Type 0
Ascending [] = Unit {0}
Ascending (r ∷ rs) = All (λ s. r.number < s.number) rs × Ascending rs

-- what holds of the number of a break's rule, if there is a break
abbrev pub OfRule : (ℕ → Type 0) → Option Break → Type 0
OfRule M nothing = Unit {0}
OfRule M (some b) = M b.rule

-- what holds of all rules' numbers holds of the first break's
pub first_among : (M : ℕ → Type 0) (rs : List NumberedRule) → All (λ r. M r.number) rs → (ps : List NodeRow) → OfRule M (first_break rs ps)
unfolding first_break
first_among M [] h ps = tt
first_among M (r ∷ rs) h ps = go (first_row r.broken ps) (first_break rs ps) (first_among M rs h.1 ps)
  where
    go : (x : Option NodeRow) (A : Option Break) → OfRule M A → OfRule M (or_else (map (break_at r.number) x) A)
    go (some p) A k = h.0
    go nothing A k = k

pub better_among : (M : ℕ → Type 0) (a b : Option Break) → OfRule M a → OfRule M b → OfRule M (better a b)
unfolding better
better_among M nothing b h k = k
better_among M (some a) nothing h k = h
better_among M (some a) (some b) h k = go (ltb b.rule a.rule)
  where
    go : (t : Bool) → OfRule M (cond t (some b) (some a))
    go true = k
    go false = h

-- a break of a rule, or none, as it is held
pub held_known : (o : Option Break) → OfRule (λ n. n ≤ no_rule) o → (held o).rule ≤ no_rule
held_known nothing h = omega arith
held_known (some b) h = h

-- ---- Rows one after another

-- what is told of the first row at which a rule is broken
abbrev pub told : NumberedRule → Option NodeRow → Option Break
told r = map (break_at r.number)

pub row_append : (broken : Rule) (ps qs : List NodeRow) → first_row broken (ps ++ qs) ≡ or_else (first_row broken ps) (first_row broken qs)
unfolding first_row
row_append broken [] qs = refl
row_append broken (p ∷ ps) qs = go (broken p.of p.row) (row_append broken ps qs)
  where
    go : (t : Bool) → first_row broken (ps ++ qs) ≡ or_else (first_row broken ps) (first_row broken qs)
        → cond t (some p) (first_row broken (ps ++ qs)) ≡ or_else (cond t (some p) (first_row broken ps)) (first_row broken qs)
    go true e = refl
    go false e = e

pub first_append : (rs : List NumberedRule) → Ascending rs → (ps qs : List NodeRow) → first_break rs (ps ++ qs) ≡ better (first_break rs ps) (first_break rs qs)
unfolding first_break
first_append [] up ps qs = sym (better_nothing nothing)
first_append (r ∷ rs) up ps qs =
    ap₂ (λ (x : Option NodeRow) (A : Option Break). or_else (told r x) A) (row_append r.broken ps qs) (first_append rs up.1 ps qs)
    ∙ go (first_row r.broken ps) (first_row r.broken qs) (first_break rs ps) (first_break rs qs) (first_among (λ n. r.number < n) rs up.0 ps) (first_among (λ n. r.number < n) rs up.0 qs)
  where
    go : (x y : Option NodeRow) (A B : Option Break) → OfRule (λ n. r.number < n) A → OfRule (λ n. r.number < n) B
        → or_else (told r (or_else x y)) (better A B) ≡ better (or_else (told r x) A) (or_else (told r y) B)
    go (some p) (some q) A B h k = sym (better_stays (break_at r.number p) (break_at r.number q) (omega arith))
    go (some p) nothing A nothing h k = sym (better_nothing (some (break_at r.number p)))
    go (some p) nothing A (some b) h k = sym (better_stays (break_at r.number p) b (omega (arith, k)))
    go nothing (some q) nothing B h k = sym (nothing_better (some (break_at r.number q)))
    go nothing (some q) (some a) B h k = sym (better_lower a (break_at r.number q) h)
    go nothing nothing A B h k = refl

pub ascending_rules : Ascending rules
ascending_rules = omega arith

pub ascending_rows : (falls : Rule) → Ascending (row_rules falls)
ascending_rows falls = omega arith

-- ---- The rows of a node one after another

pub rows_append : (number : ℕ) (N : BatchNode) (row a b : ℕ) → rows_from number N row (a + b) ≡ rows_from number N row a ++ rows_from number N (row + a) b
unfolding rows_from
rows_append number N row zero b = rw (zero-add b, add-zero row)
rows_append number N row (suc a) b =
    rw (suc-add a b)
    (ap (record { number = number; of = N; row = row } ∷◌) (rows_append number N (suc row) a b ∙ ap (λ (k : ℕ). rows_from number N (suc row) a ++ rows_from number N k b) (omega arith)))
