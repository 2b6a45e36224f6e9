-- Encodings without windows: what steps join, and what a join of two has.
-- Assumes nothing.
use mathlib.Core.Path.{refl, ap, ◌∙◌}
use mathlib.Core.Bool.{Bool}
use mathlib.Core.Option.{Option}
use mathlib.Core.List.{List}
use Prim.Native.Nat.{ℕ, ◌+◌}
use lib.ListN.{length, length-map}
use Rattle.record.specs.Tree.{Encoding, empty}
use Rattle.join_trees.specs.Join.{join}
use Rattle.join_trees.proofs.Join.{join_rows_lem}
use Rattle.join_trees.proofs.Rows.{length_join_rows}
use Rattle.join_trees.proofs.Sizes.{length_join}
use Rattle.template_entries.specs.Rows.{special_row, special_encoding, members_of, MembersThere, entry_members}
use Rattle.template_entries.proofs.EntryMembers.{members_many}
use Rattle.join_view.specs.declared.View.{View}
use Rattle.join_view.specs.declared.View.TheVariants.{Piece as PieceView}
use Rattle.join_view.specs.View.{below, seen}
use Rattle.join_view.proofs.Seen.{length_rows_seen, tops_seen}
use Rattle.process_steps.specs.declared.Step.{Step}
use Rattle.process_steps.specs.declared.Step.TheVariants.{First, Second, Special}
use Rattle.process_steps.specs.Promises.{StepFine}
use Rattle.process_steps.specs.Steps.{second_or, step_encoding}
use Rattle.process_rows.specs.Promises.{Alone, step_rows}

-- ---- What steps join

pub alone_empty : Alone empty 0
alone_empty = record { no_windows = refl; rows_are = refl }

alone_seen : {E : Encoding} {n : ℕ} (v : View) → Alone E n → Alone (seen v E) n
alone_seen {E} {n} v h = record { no_windows = tops_seen (below v) E.below ∙ h.no_windows; rows_are = length_rows_seen v E.rows ∙ h.rows_are }

pub alone_special : {entries members : List ℕ} (t entry : ℕ) → MembersThere entries members entry → Alone (special_encoding t (entry_members entries members entry)) (members_of entries entry).count
alone_special {entries} {members} t entry h = record { no_windows = refl; rows_are = length-map (entry_members entries members entry) (special_row t) ∙ members_many h }

pub alone_step : {E : Encoding} {a b : ℕ} (entries members : List ℕ) (o : Option Encoding) (s : Step) → Alone E a → Alone (second_or o) b → StepFine entries members o s → Alone (step_encoding entries members E o s) (step_rows entries a b s)
alone_step entries members o (First t) e f h = alone_seen (PieceView 0 t) e
alone_step entries members o (Second t) e f h = alone_seen (PieceView 1 t) f
alone_step entries members o (Special t entry) e f h = alone_special t entry h

-- ---- A join of two

pub alone_join : (g : Bool) (S P : Encoding) {m n : ℕ} → Alone S m → Alone P n → Alone (join g S P) (m + n)
alone_join g S P s p = record {
  no_windows = length_join g S P ∙ rw (s.no_windows, p.no_windows) refl;
  rows_are = ap length (join_rows_lem g S P) ∙ length_join_rows g S.rows P.rows ∙ rw (s.rows_are, p.rows_are) refl;
}
