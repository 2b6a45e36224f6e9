-- What the walks over a template ask, from what was checked: its table is sound, and it can be read.
-- Assumes nothing.
use mathlib.Core.Path.{◌≡◌, refl}
use mathlib.Core.Bool.{Bool, true, false, cond}
use mathlib.Core.List.{List}
use Prim.Native.Nat.{ℕ}
use native.Mathlib.Omega.{arith}
use Rattle.record.specs.declared.Refusal.TheVariants.{TemplateTooLong}
use Rattle.template_parts.specs.Parts.{parts}
use Rattle.template_pieces.specs.Piece.{Piece}
use Rattle.template_text.specs.Template.{unread, reads, short, read_parts, read_template}
use Rattle.template_entries.specs.Table.{Special, sound, read_table}
use Rattle.template_find.specs.Promises.{IdsInside}
use Rattle.template_entries.proofs.Sound.{table_holds}
use Rattle.template_find.proofs.Found.{ids_inside}
use Rattle.process_plan.specs.Promises.{TableFits}

pub sound_inside : (entries members added : List ℕ) {table : List Special} → read_table entries members added ≡ sound table → IdsInside entries added
sound_inside entries members added e = ids_inside (table_holds entries members added e)

-- and its entries are few
pub sound_fits : (entries members added : List ℕ) {table : List Special} → read_table entries members added ≡ sound table → TableFits entries added
sound_fits entries members added e = record { ids = sound_inside entries members added e; few = (table_holds entries members added e).few }

pub read_short : (text : List ℕ) {pieces : List Piece} → read_template text ≡ reads pieces → short text ≡ true
unfolding read_template
read_short text {pieces} e = go (short text) e
  where
    go : (b : Bool) → cond b (read_parts 0 0 (parts text)) (unread TemplateTooLong) ≡ reads pieces → b ≡ true
    go true e = refl
    go false e = absurd (let z : ◌≡◌ {A = ℕ} 0 1 = cc in omega arith)
