-- The answer of reading a template: which texts are short enough, and what a walk from part to part has read at its end.
-- Assumes nothing.
use mathlib.Core.Path.{◌≡◌, ◌∙◌}
use mathlib.Core.Bool.{Bool, true, false, cond}
use Prim.Native.Nat.{ℕ, ◌≤◌, ◌<◌}
use native.Mathlib.Omega.{arith}
use mathlib.Core.List.{List}
use lib.ListN.{length}
use Rattle.record.proofs.WellFormed.{tells_le, tells_and}
use Rattle.record.specs.declared.Refusal.TheVariants.{TemplateTooLong}
use Rattle.template_parts.specs.Parts.{space, parts}
use Rattle.template_parts.proofs.Split.{split_few}
use Rattle.template_pieces.specs.Piece.{Piece}
use Rattle.template_text.specs.Template.{most_bytes, most_parts, read_parts, unread, reads, short, read_template}
use Rattle.template_text.proofs.Walked.{Walked}
use Rattle.template_text.specs.Comes.{comes_at}
use Rattle.std.specs.Prelude.{None, Ok, Err}
use Rattle.record.specs.declared.Refusal.{Refusal}
use Rattle.template_text.proofs.Coming.{comes}

pub short_is : (text : List ℕ) → short text ≡ true → (length text ≤ most_bytes) × (length (parts text) ≤ most_parts)
short_is text = (tells_and (tells_le (length text) most_bytes) (tells_le (length (parts text)) most_parts)).so

-- few bytes have few parts
pub few_parts : (text : List ℕ) → length text < most_parts → length (parts text) ≤ most_parts
few_parts text h = omega (arith, split_few space text)

pub template_long : (text : List ℕ) → short text ≡ false → read_template text ≡ unread TemplateTooLong
unfolding read_template
template_long text e = rw e

pub template_short : (text : List ℕ) → short text ≡ true → read_template text ≡ read_parts 0 0 (parts text)
unfolding read_template
template_short text e = rw e

-- a text whose pieces are read is short enough, and its parts can be read
pub template_holds : (text : List ℕ) {pieces : List Piece} → read_template text ≡ reads pieces → read_parts 0 0 (parts text) ≡ reads pieces
unfolding read_template
template_holds text {pieces} e = go (short text) e
  where
    go : (b : Bool) → cond b (read_parts 0 0 (parts text)) (unread TemplateTooLong) ≡ reads pieces → read_parts 0 0 (parts text) ≡ reads pieces
    go true e = e
    go false e = cc

-- ---- At the end of a walk

module _ {text : List ℕ} {at : ℕ} {passed : List Piece} (w : Walked text at passed) (is_short : short text ≡ true) where
  pub walk_end : comes_at text at ≡ Ok None → read_template text ≡ reads passed
  walk_end e = template_short text is_short ∙ comes w e

  pub walk_bad : {k : Refusal} → comes_at text at ≡ Err k → read_template text ≡ unread k
  walk_bad e = template_short text is_short ∙ comes w e
