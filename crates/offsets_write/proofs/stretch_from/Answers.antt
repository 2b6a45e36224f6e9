-- `stretch_from` meets its contract, by the way that offsets are converted. Assumes nothing.
use Rattle.std.specs.Prelude.{None}
use mathlib.Core.Path.{◌≡◌, ap, sym, ◌∙◌}
use Rattle.chars_text.proofs.Texts.{characters_starts}
use Rattle.offsets_trees.specs.declared.Way.{Way}
use Rattle.offsets_trees.specs.Offsets.{byte_fault, char_fault, fault_by}
use Rattle.offsets_trees.proofs.RoundTrips.{byte_fine, char_fine}
use native.Mathlib.Omega.{arith}
use Rattle.offsets_write.proofs.stretch_from.Goals as goal
use Rattle.offsets_write.proofs.stretch_from.Lts as Lts
use Rattle.offsets_write.proofs.stretch_from.Reads as Reads
use Rattle.offsets_write.proofs.stretch_from.Tie as tie

-- ---- Places in the code

abbrev In-ToBytes : Type 0
In-ToBytes = Lts.Past-After-enum_told2 tie.the-claims Reads.Pre Reads.Post

abbrev In-ToCharacters : Type 0
In-ToCharacters = Lts.Past-After-enum_told tie.the-claims Reads.Pre Reads.Post

-- nothing is wrong with the offset, towards characters and towards bytes
fine_place : (c : In-ToCharacters) → byte_fault c.args.text.now c.args.offset ≡ None
fine_place c =
    let s = c.before.before in
    ap (λ (way : Way). fault_by way s.args.text.now s.args.offset) (sym c.in-ToCharacters.is) ∙ s.requires.0.fine

fine_character : (c : In-ToBytes) → char_fault c.args.text.now c.args.offset ≡ None
fine_character c =
    let s = c.before.before in
    ap (λ (way : Way). fault_by way s.args.text.now s.args.offset) (sym c.in-ToBytes.is) ∙ s.requires.0.fine

pub from_place-requires : goal.from_place-requires
from_place-requires c = (
  (byte_fine c.args.text.now c.args.offset (fine_place c.before)).0,
  rw c.in-ToCharacters.is at c.requires.0.ready.tabled,
  rw c.in-ToCharacters.is at c.requires.1,
)

pub from_character-requires : goal.from_character-requires
from_character-requires c = (
  omega (arith, char_fine c.args.text.now c.args.offset (fine_character c.before), characters_starts c.args.text.now c.requires.0.ready.well),
  rw c.in-ToBytes.is at c.requires.0.ready.tabled,
  rw c.in-ToBytes.is at c.requires.1,
)

pub returns-in-ToCharacters : goal.returns-in-ToCharacters
returns-in-ToCharacters c = rw c.in-ToCharacters.is c.from_place.ensures

pub returns-in-ToBytes : goal.returns-in-ToBytes
returns-in-ToBytes c = rw c.in-ToBytes.is c.from_character.ensures
