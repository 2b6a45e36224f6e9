-- What the check is to say, as sentences: yes exactly if no rule is broken anywhere, and else the first place at which one is.
-- That `profile_answer` says just that is shown in proofs/Told.
-- Assumes nothing: these are definitions.
use Rattle.std.specs.Prelude.{◌≡◌, ℕ, ◌<◌, Bool, true, false, ◌&&◌, ◌||◌, List, [], ◌∷◌, eqb, Option as Answer, Some, None, Result, Ok, Err}
use Rattle.std.proofs.Math.Option.{Option, none as nothing, some}
use Rattle.std.proofs.Math.ListN.{get_elem?}
use Rattle.record.specs.Tree.{Forest}
use Rattle.record.specs.Read.{Reading, malformed, holds}
use Rattle.record.specs.declared.Refusal.{Refusal}
use Rattle.record.specs.declared.Refusal.TheVariants.{MalformedRecord}
use Rattle.profile_trees.specs.Rules.{BatchNode, NumberedRule, rules}
use Rattle.profile_trees.specs.Profile.{batch_nodes}
use Rattle.profile_trees.specs.declared.Break.{Break}

-- whether some of the rules has this number and the node breaks it at this row
abbrev pub breaks_rule : List NumberedRule → ℕ → BatchNode → ℕ → Bool
breaks_rule [] number N row = false
breaks_rule (r ∷ rs) number N row = (eqb r.number number && r.broken N row) || breaks_rule rs number N row

abbrev pub of_node : (BatchNode → Bool) → Option BatchNode → Bool
of_node t nothing = false
of_node t (some N) = t N

-- whether the batch breaks the rule with this number at this row of the node with this number
unfoldable pub broken : Forest → ℕ → ℕ → ℕ → Bool
broken f number n row = of_node (λ N. breaks_rule rules number N row) (get_elem? (batch_nodes false f) n)

-- "the place told breaks the rule and none before it does", "going rule by rule, then depth first"
pub record FirstBreak (f : Forest) (b : Break) : Type 0 where
  pub breaks : broken f b.rule b.node b.row ≡ true
  pub no_rule_before : (number n row : ℕ) → number < b.rule → broken f number n row ≡ false
  pub no_node_before : (n row : ℕ) → n < b.node → broken f b.rule n row ≡ false
  pub no_row_before : (row : ℕ) → row < b.row → broken f b.rule b.node row ≡ false

-- "no rule is broken anywhere"
abbrev pub NoneBroken : Forest → Type 0
NoneBroken f = (number n row : ℕ) → broken f number n row ≡ false

-- what an answer says of a batch
abbrev pub Says : Reading → Result (Answer Break) Refusal → Type 0
Says malformed (Err why) = why ≡ MalformedRecord
Says malformed (Ok told) = ⊥
Says (holds f) (Err why) = ⊥
Says (holds f) (Ok None) = NoneBroken f
Says (holds f) (Ok (Some b)) = FirstBreak f b
