-- One turn of the walk over the steps by their rows.
-- Assumes nothing.
use mathlib.Core.Path.{◌≡◌, sym}
use mathlib.Core.Bool.{false}
use mathlib.Core.Option.{Option, some}
use mathlib.Core.List.{List}
use Prim.Native.Nat.{ℕ, ◌+◌, ◌*◌, ◌<◌}
use native.Mathlib.Omega.{arith}
use lib.ListN.{length}
use Rattle.record.specs.Tree.{Encoding, windows}
use Rattle.template_text.specs.Template.{piece_width}
use Rattle.process_steps.specs.declared.Step.{Step}
use Rattle.process_steps.specs.Promises.{EntryThere}
use Rattle.process_steps.specs.Steps.{second_or, step_at, step_encoding}
use Rattle.process_steps.proofs.Steps.{fine_there}
use Rattle.process_rows.specs.Promises.{StepsOf, SecondRows, Alone, step_rows}
use Rattle.process_rows.proofs.Alone.{alone_step, alone_join}
use Rattle.process_rows.proofs.Walked.{Walked, walked_any, next, walked_more}

-- what is known of the fold of the steps passed: its rows
abbrev pub AloneWith : ℕ → Encoding → Type 0
AloneWith n F = Alone F n

module _ {nodes : List ℕ} {k : ℕ} {entries numbers : List ℕ} {count : ℕ} {members : List ℕ} {E : Encoding} {second : Option Encoding} {steps : List Step} (h : StepsOf nodes k entries numbers count members E second steps) {i : ℕ} {s : Step} (l : i < count) (there : s ≡ step_at numbers (i * piece_width)) where
  -- its entry is one of the table
  pub step_there : EntryThere entries s
  step_there = fine_there entries members second s (next h (walked_any {f = step_encoding entries members E second} steps i (omega (arith, l, h.counted))) l there).fine

  pub rows_more : {a b m n : ℕ} → SecondRows nodes 0 a → SecondRows nodes k b → length (windows E) ≡ 0 → length (windows (second_or second)) ≡ 0 → n ≡ step_rows entries a b s → Walked (step_encoding entries members E second) (AloneWith m) steps i → Walked (step_encoding entries members E second) (AloneWith (m + n)) steps (i + 1)
  rows_more {a} {b} rows rows' e e' is w =
      let t = next h w l there in
      let one : Alone E a = record { no_windows = e; rows_are = sym (rows (some E) h.first_stands) } in
      let other : Alone (second_or second) b = record { no_windows = e'; rows_are = sym (rows' second h.second_stands) } in
      walked_more t (rw is (alone_join false _ _ t.has (alone_step entries members second s one other t.fine)))
