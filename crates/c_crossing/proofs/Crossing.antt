-- An answer crosses as its case says. Assumes nothing.
use Rattle.record.specs.declared.Refusal.{Refusal}
use Rattle.std.specs.Prelude.{Result}
use mathlib.Core.Path.{◌≡◌, sym, ap, ◌∙◌}
use Prim.Native.Nat.{ℕ}
use mathlib.Core.List.{List}
use Rattle.record.specs.Outcome.{Outcome, refusal_of, counts_or, left_working, Writes}
use Rattle.record.specs.declared.Written.{Written}
use Rattle.c_crossing.specs.Crossing.{Crossed, Crosses, WritesOut, WritesOutWith}

-- what is said of the answer, where the answer is this case
pub crosses : {A : Type 0} (f : A → Crossed) {answer said case : A} {r : ℕ} {numbers : List ℕ} → answer ≡ said → answer ≡ case → r ≡ (f case).refusal → numbers ≡ (f case).numbers → Crosses (f said) r numbers
crosses f e k a b =
    let s = ap f (sym k ∙ e) in
    record { refusal_is = a ∙ ap (λ (c : Crossed). c.refusal) s; numbers_are = b ∙ ap (λ (c : Crossed). c.numbers) s }

-- an operation that writes, whose answer was `told`
pub writes_out : {o : Outcome} {answer : Result Written Refusal} {r : ℕ} {was counts nodes rows nodes' rows' : List ℕ} → Writes o answer nodes rows nodes' rows' → r ≡ refusal_of answer → counts ≡ counts_or was answer → WritesOut o r was counts nodes rows nodes' rows'
writes_out {was = was} w a b =
    record { refusal_is = a ∙ ap refusal_of w.answers; counts_are = b ∙ ap (counts_or was) w.answers; nodes_left = w.nodes_left; rows_left = w.rows_left }

-- the same with a working store, which it left as it says
pub writes_out_with : {o : Outcome} {answer : Result Written Refusal} {r : ℕ} {was counts nodes rows working_nodes working_rows nodes' rows' working_nodes' working_rows' : List ℕ} → Writes o answer nodes rows nodes' rows' → working_nodes' ≡ left_working o working_nodes → working_rows' ≡ left_working o working_rows → r ≡ refusal_of answer → counts ≡ counts_or was answer
    → WritesOutWith o r was counts nodes rows working_nodes working_rows nodes' rows' working_nodes' working_rows'
writes_out_with w m n a b =
    record { writes_out = writes_out w a b; working_nodes_left = m; working_rows_left = n }
