-- `noddrefyr_process` hands on what `process::process` answers. Assumes nothing.
use mathlib.Core.Path.{◌≡◌, ap, ◌∙◌, subst}
use mathlib.Core.Bool.{Bool}
use mathlib.Core.List.{List}
use Prim.Native.Nat.{ℕ}
use Rattle.std.specs.Prelude.{Result}
use Rattle.record.specs.Outcome.{Outcome, fault_after}
use Rattle.record.specs.Working.{WritesWith}
use Rattle.record.specs.declared.Refusal.{Refusal}
use Rattle.record.specs.declared.Written.{Written}
use Rattle.process_check.proofs.Lent.{outcome_lent}
use Rattle.c_crossing.proofs.Crossing.{writes_out_with}
use Rattle.c_process.proofs.noddrefyr_process.Goals as goal

-- an outcome that is the same writes the same
writes_same : {p q : Bool → List ℕ → List ℕ → List ℕ → List ℕ → Outcome} {add : Bool} {a b d e : List ℕ} {answer : Result Written Refusal} {a' b' d' e' : List ℕ} → p ≡ q → WritesWith (p add a b d e) answer a b d e a' b' d' e' → WritesWith (q add a b d e) answer a b d e a' b' d' e'
writes_same {add = add} {a = a} {b = b} {d = d} {e = e} {answer = answer} {a' = a'} {b' = b'} {d' = d'} {e' = e'} same w = subst (λ (o : Bool → List ℕ → List ℕ → List ℕ → List ℕ → Outcome). WritesWith (o add a b d e) answer a b d e a' b' d' e') same w

pub returns : goal.returns
returns c =
    let same = outcome_lent c.args.nodes.now c.args.rows.now c.args.single_set c.args.single c.args.pair_set c.args.pair c.args.entries.now c.args.members.now c.args.added.now c.then_some.ensures c.then_some-2.ensures in
    let w = writes_same same c.process-answer.ensures in
    let told = c.told_with_fault.ensures in
    record {
      answer = writes_out_with w.writes w.working_nodes_left w.working_rows_left told.refusal told.counts;
      part = told.part ∙ ap (fault_after _) w.writes.answers;
    }
