-- What is answered, by the first break that was found. Assumes nothing.
use mathlib.Core.Path.{◌≡◌, refl, sym, ap, ◌∙◌, subst}
use mathlib.Core.Option.{Option, none as nothing, some}
use mathlib.Core.Bool.{false}
use Prim.Native.Nat.{ℕ, ◌≤◌}
use native.Mathlib.Omega.{arith}
use mathlib.Core.List.{List}
use Rattle.record.specs.Tree.{Forest}
use Rattle.record.specs.WellFormed.{Stores}
use Rattle.record.specs.Read.{read}
use Rattle.record.specs.declared.Refusal.{Refusal}
use Rattle.record.specs.declared.Refusal.TheVariants.{MalformedRecord}
use Rattle.record_check.specs.Answers.{shape_of}
use Rattle.record_check.proofs.Checked.{refused_as, none_of, any_of}
use Rattle.profile_trees.specs.Rules.{rules}
use Rattle.profile_trees.specs.Profile.{batch_nodes, node_rows, first_broken, told_of, profile_answer}
use Rattle.profile_trees.specs.First.{Says}
use Rattle.profile_trees.specs.Promises.{no_rule, held}
use Rattle.profile_trees.specs.declared.Break.{Break}
use Rattle.std.specs.Prelude.{Option as Answer, Some, None, Result, Ok, Err}
use Rattle.profile_trees.proofs.First.{OfRule, first_among}
use Rattle.profile_trees.proofs.Told.{says}

-- an answer that is the definition's says what it is to say
pub says_so : (nodes rows : List ℕ) (answer : Result (Answer Break) Refusal) → answer ≡ profile_answer (read nodes rows) → (answer ≡ profile_answer (read nodes rows)) × Says (read nodes rows) answer
says_so nodes rows answer e = (e, subst (Says (read nodes rows)) (sym e) (says nodes rows))

pub answered_malformed : (nodes rows : List ℕ) {why : Refusal} → Err why ≡ shape_of (read nodes rows) → Err why ≡ profile_answer (read nodes rows)
unfolding profile_answer
answered_malformed nodes rows e =
    ap Err (refused_as (read nodes rows) (sym e)) ∙ sym (none_of (Err MalformedRecord) (λ f. Ok (told_of (first_broken f))) (read nodes rows) (sym e))

module _ {nodes rows : List ℕ} {f : Forest} (s : Stores nodes rows f) where
  answered : profile_answer (read nodes rows) ≡ Ok (told_of (first_broken f))
  unfolding profile_answer
  answered = any_of (Err MalformedRecord) (λ f. Ok (told_of (first_broken f))) s

  -- no rule has the number that stands for none
  below_none : OfRule (λ n. n ≤ 6) (first_broken f)
  unfolding first_broken
  below_none = first_among (λ n. n ≤ 6) rules (omega arith) (node_rows 0 (batch_nodes false f))

  module _ (found : Break) (e : found ≡ held (first_broken f)) where
    pub answered_passes : found.rule ≡ no_rule → Ok None ≡ profile_answer (read nodes rows)
    answered_passes h = ap Ok (go (first_broken f) e below_none) ∙ sym answered
      where
        go : (o : Option Break) → found ≡ held o → OfRule (λ n. n ≤ 6) o → None ≡ told_of o
        go nothing e few = refl
        go (some b) e few = absurd (omega (arith, h, few, ap (λ (b : Break). b.rule) e))

    pub answered_breaks : (found.rule ≡ no_rule → ⊥) → Ok (Some found) ≡ profile_answer (read nodes rows)
    answered_breaks h = ap Ok (go (first_broken f) e) ∙ sym answered
      where
        go : (o : Option Break) → found ≡ held o → Some found ≡ told_of o
        go nothing e = absurd (h (ap (λ (b : Break). b.rule) e))
        go (some b) e = ap Some e
