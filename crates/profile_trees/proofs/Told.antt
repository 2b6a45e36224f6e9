-- What the check says: yes exactly if no rule is broken anywhere, and else a place that breaks the rule told, with none before it, rule by
-- rule and then depth first; and that nothing else can be said. Assumes nothing.
use mathlib.Core.Path.{◌≡◌, refl, sym, ap, ap₂, ◌∙◌, subst}
use mathlib.Core.Bool.{Bool, true, false, ◌&&◌, ◌||◌, true≢false}
use mathlib.Core.Option.{Option, none as nothing, some, map, none-ne-some, some-injective}
use Prim.Native.Nat.{ℕ, ◌<◌}
use native.Mathlib.Nat.{zero-add}
use native.Mathlib.Omega.{arith}
use mathlib.Core.List.{List, [], ◌∷◌}
use lib.Dec.{eqb, ltb}
use lib.ListN.{get_elem?}
use borrow.Author.Tests.{eq-eqb, ne_eqb, eqb-true, eqb-false, ltb-true, ltb-false}
use Rattle.lists.specs.Lists.{All}
use Rattle.lists.proofs.All.{all_imp}
use Rattle.record.specs.Tree.{Forest}
use Rattle.record.specs.Read.{Reading, malformed, holds, read, of_any}
use Rattle.record.specs.declared.Refusal.{Refusal}
use Rattle.record.specs.declared.Refusal.TheVariants.{MalformedRecord}
use Rattle.record.proofs.Read.{stored}
use Rattle.lookup_ranges.specs.First.{or_else}
use Rattle.profile_trees.specs.Rules.{BatchNode, Rule, NumberedRule, rules}
use Rattle.profile_trees.specs.Profile.{batch_nodes, NodeRow, node_rows, first_row, break_at, first_break, first_broken, told_of, profile_answer}
use Rattle.profile_trees.specs.First.{breaks_rule, of_node, broken, FirstBreak, NoneBroken, Says}
use Rattle.profile_trees.specs.declared.Break.{Break}
use Rattle.std.specs.Prelude.{Option as Answer, Some, None, Result, Ok, Err}
use Rattle.profile_trees.proofs.First.{Ascending, OfRule, first_among, ascending_rules}
use Rattle.profile_trees.proofs.Fine.{FineNode, all_fine, past_quiet}
use Rattle.profile_trees.proofs.Searched.{Quiet, node_none, node_found}

-- ---- A rule by its number

-- tests that agree find the same
row_same : (s t : Rule) → ((N : BatchNode) (row : ℕ) → s N row ≡ t N row) → (ps : List NodeRow) → first_row s ps ≡ first_row t ps
unfolding first_row
row_same s t h [] = refl
row_same s t h (p ∷ ps) = rw (h p.of p.row, row_same s t h ps)

never : (ps : List NodeRow) → first_row (λ N row. false) ps ≡ nothing
unfolding first_row
never [] = refl
never (p ∷ ps) = never ps

-- no rule has a number below those of all
breaks_below : (rs : List NumberedRule) (number : ℕ) → All (λ r. number < r.number) rs → (N : BatchNode) (row : ℕ) → breaks_rule rs number N row ≡ false
breaks_below [] number h N row = refl
breaks_below (r ∷ rs) number h N row = rw (ne_eqb r.number number (λ e. omega (arith, e, h.0)), breaks_below rs number h.1 N row)

pub or_false : (b : Bool) → b || false ≡ b
or_false true = refl
or_false false = refl

module _ (r : NumberedRule) (rs : List NumberedRule) where
  this_rule : All (λ s. r.number < s.number) rs → (N : BatchNode) (row : ℕ) → breaks_rule (r ∷ rs) r.number N row ≡ r.broken N row
  this_rule h N row = rw (eq-eqb r.number r.number refl, breaks_below rs r.number h N row) (or_false (r.broken N row))

  other_rule : (number : ℕ) → (r.number ≡ number → ⊥) → (N : BatchNode) (row : ℕ) → breaks_rule (r ∷ rs) number N row ≡ breaks_rule rs number N row
  other_rule number n N row = rw (ne_eqb r.number number n)

-- ---- The first break, rule by rule

nothing_first : (rs : List NumberedRule) → Ascending rs → (ps : List NodeRow) → first_break rs ps ≡ nothing → (number : ℕ) → first_row (breaks_rule rs number) ps ≡ nothing
unfolding first_break
nothing_first [] up ps e number = never ps
nothing_first (r ∷ rs) up ps e number = go (first_row r.broken ps) refl e (nothing_first rs up.1 ps) (eqb r.number number) refl
  where
    go : (x : Option NodeRow) → first_row r.broken ps ≡ x → or_else (map (break_at r.number) x) (first_break rs ps) ≡ nothing
        → (first_break rs ps ≡ nothing → (number : ℕ) → first_row (breaks_rule rs number) ps ≡ nothing)
        → (b : Bool) → eqb r.number number ≡ b → first_row (breaks_rule (r ∷ rs) number) ps ≡ nothing
    go (some p) x s rest b t = absurd (none-ne-some (break_at r.number p) (sym s))
    go nothing x s rest true t = ap (λ (n : ℕ). first_row (breaks_rule (r ∷ rs) n) ps) (sym (eqb-true r.number number t)) ∙ row_same (breaks_rule (r ∷ rs) r.number) r.broken (this_rule r rs up.0) ps ∙ x
    go nothing x s rest false t = row_same (breaks_rule (r ∷ rs) number) (breaks_rule rs number) (other_rule r rs number (eqb-false r.number number t)) ps ∙ rest s number

-- The rule of b is broken first where b says, and no rule with a lower number is broken.
record FirstRule (rs : List NumberedRule) (ps : List NodeRow) (b : Break) : Type 0 where
  p : NodeRow
  first : first_row (breaks_rule rs b.rule) ps ≡ some p
  is : b ≡ break_at b.rule p
  no_lower : (number : ℕ) → number < b.rule → first_row (breaks_rule rs number) ps ≡ nothing

some_first : (rs : List NumberedRule) → Ascending rs → (ps : List NodeRow) (b : Break) → first_break rs ps ≡ some b → FirstRule rs ps b
unfolding first_break
some_first [] up ps b e = absurd (none-ne-some b e)
some_first (r ∷ rs) up ps b e = go (first_row r.broken ps) refl e (some_first rs up.1 ps b) (first_among (λ n. r.number < n) rs up.0 ps)
  where
    here : (p : NodeRow) → first_row r.broken ps ≡ some p → break_at r.number p ≡ b → FirstRule (r ∷ rs) ps b
    here p x s =
        let same : r.number ≡ b.rule = ap (λ (b : Break). b.rule) s in
        record {
          p = p;
          first = ap (λ (n : ℕ). first_row (breaks_rule (r ∷ rs) n) ps) (sym same) ∙ row_same (breaks_rule (r ∷ rs) r.number) r.broken (this_rule r rs up.0) ps ∙ x;
          is = sym s ∙ ap (λ (n : ℕ). break_at n p) same;
          no_lower = λ number h. row_same (breaks_rule (r ∷ rs) number) (λ N row. false) (breaks_below (r ∷ rs) number (omega (arith, same), all_imp rs (λ s l. omega (arith, same)) up.0)) ps ∙ never ps;
        }

    later : first_row r.broken ps ≡ nothing → r.number < b.rule → FirstRule rs ps b → FirstRule (r ∷ rs) ps b
    later x l f = record { p = f.p; first = row_same (breaks_rule (r ∷ rs) b.rule) (breaks_rule rs b.rule) (other_rule r rs b.rule (λ e. omega arith)) ps ∙ f.first; is = f.is; no_lower = λ number h. lower number h (eqb r.number number) refl }
      where
        lower : (number : ℕ) → number < b.rule → (t : Bool) → eqb r.number number ≡ t → first_row (breaks_rule (r ∷ rs) number) ps ≡ nothing
        lower number h true t = ap (λ (n : ℕ). first_row (breaks_rule (r ∷ rs) n) ps) (sym (eqb-true r.number number t)) ∙ row_same (breaks_rule (r ∷ rs) r.number) r.broken (this_rule r rs up.0) ps ∙ x
        lower number h false t = row_same (breaks_rule (r ∷ rs) number) (breaks_rule rs number) (other_rule r rs number (eqb-false r.number number t)) ps ∙ f.no_lower number h

    go : (x : Option NodeRow) → first_row r.broken ps ≡ x → or_else (map (break_at r.number) x) (first_break rs ps) ≡ some b
        → (first_break rs ps ≡ some b → FirstRule rs ps b) → OfRule (λ n. r.number < n) (first_break rs ps) → FirstRule (r ∷ rs) ps b
    go (some p) x s rest above = here p x (some-injective (break_at r.number p) b s)
    go nothing x s rest above = later x (subst (OfRule (λ n. r.number < n)) s above) (rest s)

-- ---- Of a batch

module _ (f : Forest) (fine : All FineNode (batch_nodes false f)) where
  quiet : (number : ℕ) → All (Quiet (breaks_rule rules number)) (batch_nodes false f)
  quiet number = all_imp (batch_nodes false f) (λ N h row past. go rules N row (past_quiet N h row past)) fine
    where
      go : (rs : List NumberedRule) (N : BatchNode) (row : ℕ) → All (λ r. r.broken N row ≡ false) rs → breaks_rule rs number N row ≡ false
      go [] N row h = refl
      go (r ∷ rs) N row h = rw (h.0, go rs N row h.1) (neither (eqb r.number number))
        where
          neither : (b : Bool) → (b && false) || false ≡ false
          neither true = refl
          neither false = refl

  unbroken : (number : ℕ) → first_row (breaks_rule rules number) (node_rows 0 (batch_nodes false f)) ≡ nothing → (n row : ℕ) → broken f number n row ≡ false
  unfolding broken
  unbroken number e n row = node_none (breaks_rule rules number) 0 (batch_nodes false f) (quiet number) e n row

  pub passes_told : first_broken f ≡ nothing → NoneBroken f
  unfolding first_broken
  passes_told e number n row = unbroken number (nothing_first rules ascending_rules (node_rows 0 (batch_nodes false f)) e number) n row

  pub break_told : (b : Break) → first_broken f ≡ some b → FirstBreak f b
  unfolding first_broken broken
  break_told b e =
      let r = some_first rules ascending_rules (node_rows 0 (batch_nodes false f)) b e in
      let s = node_found (breaks_rule rules b.rule) 0 (batch_nodes false f) (quiet b.rule) r.p r.first in
      let at : s.n ≡ b.node = sym (ap (λ (b : Break). b.node) r.is ∙ s.numbered ∙ zero-add s.n) in
      let row : r.p.row ≡ b.row = sym (ap (λ (b : Break). b.row) r.is) in
      record {
        breaks = ap₂ (λ (n k : ℕ). of_node (λ N. breaks_rule rules b.rule N k) (get_elem? (batch_nodes false f) n)) (sym at) (sym row) ∙ s.breaks;
        no_rule_before = λ number n row h. unbroken number (r.no_lower number h) n row;
        no_node_before = λ n row h. s.no_node_before n row (omega arith);
        no_row_before = λ k h. ap (λ (n : ℕ). of_node (λ N. breaks_rule rules b.rule N k) (get_elem? (batch_nodes false f) n)) (sym at) ∙ s.no_row_before k (omega arith);
      }

-- of the numbers lent
pub says : (nodes rows : List ℕ) → Says (read nodes rows) (profile_answer (read nodes rows))
unfolding profile_answer of_any
says nodes rows = go (read nodes rows) refl
  where
    told : (f : Forest) → All FineNode (batch_nodes false f) → (o : Option Break) → first_broken f ≡ o → Says (holds f) (Ok (told_of o))
    told f fine nothing e = passes_told f fine e
    told f fine (some b) e = break_told f fine b e

    go : (r : Reading) → read nodes rows ≡ r → Says r (of_any (Err MalformedRecord) (λ f. Ok (told_of (first_broken f))) r)
    go malformed e = refl
    go (holds f) e = told f (all_fine false f (stored nodes rows f e).well.fine) (first_broken f) refl

-- ---- Nothing else can be said

first_only : (f : Forest) (b c : Break) → FirstBreak f b → FirstBreak f c → b ≡ c
first_only f b c h k = λ i. record { rule = rule i; node = at i; row = in_it i }
  where
    -- what holds at one place cannot be denied there
    never_both : {x y : Bool} → x ≡ true → y ≡ false → x ≡ y → ⊥
    never_both t u e = true≢false (sym t ∙ e ∙ u)

    same : (m n : ℕ) → (m < n → ⊥) → (n < m → ⊥) → m ≡ n
    same m n p q = go (ltb m n) (ltb n m) refl refl
      where
        go : (s t : Bool) → ltb m n ≡ s → ltb n m ≡ t → m ≡ n
        go true t x y = absurd (p (ltb-true m n x))
        go false true x y = absurd (q (ltb-true n m y))
        go false false x y = omega (arith, ltb-false m n x, ltb-false n m y)

    rule : b.rule ≡ c.rule
    rule = same b.rule c.rule (λ l. never_both h.breaks (k.no_rule_before b.rule b.node b.row l) refl) (λ l. never_both k.breaks (h.no_rule_before c.rule c.node c.row l) refl)

    at : b.node ≡ c.node
    at = same b.node c.node (λ l. never_both h.breaks (k.no_node_before b.node b.row l) (ap (λ (n : ℕ). broken f n b.node b.row) rule)) (λ l. never_both k.breaks (h.no_node_before c.node c.row l) (ap (λ (n : ℕ). broken f n c.node c.row) (sym rule)))

    in_it : b.row ≡ c.row
    in_it = same b.row c.row (λ l. never_both h.breaks (k.no_row_before b.row l) (ap₂ (λ (n m : ℕ). broken f n m b.row) rule at)) (λ l. never_both k.breaks (h.no_row_before c.row l) (ap₂ (λ (n m : ℕ). broken f n m c.row) (sym rule) (sym at)))

-- so an answer that says what is true is the one: "it passes exactly if no rule is broken anywhere", and no other place can be told
pub says_only : (batch : Reading) (a b : Result (Answer Break) Refusal) → Says batch a → Says batch b → a ≡ b
says_only malformed (Err v) (Err w) p q = ap Err (p ∙ sym q)
says_only malformed (Err v) (Ok b) p q = absurd q
says_only malformed (Ok a) b p q = absurd p
says_only (holds f) (Err v) b p q = absurd p
says_only (holds f) (Ok None) (Err w) p q = absurd q
says_only (holds f) (Ok None) (Ok None) p q = refl
says_only (holds f) (Ok None) (Ok (Some c)) p q = absurd (true≢false (sym q.breaks ∙ p c.rule c.node c.row))
says_only (holds f) (Ok (Some b)) (Err w) p q = absurd q
says_only (holds f) (Ok (Some b)) (Ok None) p q = absurd (true≢false (sym p.breaks ∙ q b.rule b.node b.row))
says_only (holds f) (Ok (Some b)) (Ok (Some c)) p q = ap (λ (b : Break). Ok (Some b)) (first_only f b c p q)
