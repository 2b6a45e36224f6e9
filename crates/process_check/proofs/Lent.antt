-- Templates that are lent as a flag and a text: where one is unset, its text does not matter. Assumes nothing.
use mathlib.Core.Path.{◌≡◌, refl, ap, ap₂, ◌∙◌, fun_ext}
use mathlib.Core.Bool.{Bool, true, false}
use mathlib.Core.List.{List}
use Prim.Native.Nat.{ℕ}
use Rattle.std.specs.Borrow.{Bor}
use Rattle.std.specs.Bool.{then_some}
use Rattle.std.specs.Prelude.{Option, is_some}
use Rattle.record.specs.Read.{read}
use Rattle.template_entries.specs.Table.{read_table}
use Rattle.template_text.specs.Template.{TemplateReading, read_template}
use Rattle.template_text.specs.Used.{lent_text}
use Rattle.template_text.specs.declared.Which.{Which}
use Rattle.template_text.specs.declared.Which.TheVariants.{Single, Pair}
use Rattle.process_check.specs.Process.{text_for, process_read, process_outcome}

text_lent : (single_set : Bool) (single : Bor (List ℕ)) (pair_set : Bool) (pair : Bor (List ℕ)) (which : Which) → text_for (is_some (then_some single_set single)) (lent_text (then_some single_set single)) (is_some (then_some pair_set pair)) (lent_text (then_some pair_set pair)) which ≡ text_for single_set single.now pair_set pair.now which
text_lent true single pair_set pair Single = refl
text_lent false single pair_set pair Single = refl
text_lent single_set single true pair Pair = refl
text_lent single_set single false pair Pair = refl

pub outcome_lent : (nodes rows : List ℕ) (single_set : Bool) (single : Bor (List ℕ)) (pair_set : Bool) (pair : Bor (List ℕ)) (entries members added : List ℕ) {for_one for_two : Option (Bor (List ℕ))} → for_one ≡ then_some single_set single → for_two ≡ then_some pair_set pair
    → process_outcome nodes rows (is_some for_one) (lent_text for_one) (is_some for_two) (lent_text for_two) entries members added ≡ process_outcome nodes rows single_set single.now pair_set pair.now entries members added
outcome_lent nodes rows single_set single pair_set pair entries members added one two =
    ap₂ (λ (s p : Option (Bor (List ℕ))). process_outcome nodes rows (is_some s) (lent_text s) (is_some p) (lent_text p) entries members added) one two
    ∙ ap (λ (template : Which → TemplateReading). process_read (read nodes rows) (read_table entries members added) template) (fun_ext (λ (which : Which). ap read_template (text_lent single_set single pair_set pair which)))
