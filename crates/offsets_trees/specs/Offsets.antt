-- Offsets in bytes and in characters (document 02, request 01).
-- Assumes nothing: these are definitions.
use Rattle.std.specs.Prelude.{cond, ℕ, List, [], ◌∷◌, map, leb, length, Option, None, Some}
use Rattle.record.specs.Tree.{Row, Forest, none, node}
use Rattle.record.specs.Walk.{all_rows}
use Rattle.chars_text.specs.Characters.{characters, chars_before, place_of, is_start}
use Rattle.offsets_trees.specs.declared.Way.{Way}
use Rattle.offsets_trees.specs.declared.Way.TheVariants.{ToCharacters, ToBytes}
use Rattle.offsets_trees.specs.declared.Fault.{Fault}
use Rattle.offsets_trees.specs.declared.Fault.TheVariants.{PastEnd, InsideCharacter}

-- ---- The batch converted

-- a row with other offsets; "Every other number stays."
abbrev pub placed : Row → ℕ → ℕ → Row
placed r start end =
    record {
      id = r.id;
      type_id = r.type_id;
      pool = r.pool;
      text_start = r.text_start;
      text_length = r.text_length;
      word_mark = r.word_mark;
      word = r.word;
      offset_start = start;
      offset_end = end;
      special = r.special;
      attention = r.attention;
    }

-- "both offsets of every row": each by itself
abbrev pub with_offsets : (ℕ → ℕ) → Row → Row
with_offsets convert r = placed r (convert r.offset_start) (convert r.offset_end)

-- "the same batch with both offsets of every row in characters, windows included, and the way back"
unfoldable pub converted : (ℕ → ℕ) → Forest → Forest
converted convert none = none
converted convert (node r q w x) = node (map (with_offsets convert) r) q (converted convert w) (converted convert x)

-- ---- What is wrong

-- "an offset past the end of the text (17), an offset inside a character (18, only from bytes to characters)": the end itself is no
-- fault, as the end of a row is the place after its last byte
abbrev pub byte_fault : List ℕ → ℕ → Option Fault
byte_fault text offset = cond (leb offset (length text)) (cond (is_start text offset) None (Some InsideCharacter)) (Some PastEnd)

abbrev pub char_fault : List ℕ → ℕ → Option Fault
char_fault text offset = cond (leb offset (length (characters text))) None (Some PastEnd)

-- the first that there is
abbrev pub earlier : Option Fault → Option Fault → Option Fault
earlier None later = later
earlier (Some fault) later = Some fault

-- "17 and 18 by the first row concerned, its start before its end"
abbrev pub row_fault : (ℕ → Option Fault) → Row → Option Fault
row_fault fault r = earlier (fault r.offset_start) (fault r.offset_end)

unfoldable pub rows_fault : (ℕ → Option Fault) → List Row → Option Fault
rows_fault fault [] = None
rows_fault fault (r ∷ rows) = earlier (row_fault fault r) (rows_fault fault rows)

-- of a batch: its rows as they are stored, windows included
abbrev pub batch_fault : (ℕ → Option Fault) → Forest → Option Fault
batch_fault fault f = rows_fault fault (all_rows f)

-- ---- Both ways

abbrev pub other_way : Way → Way
other_way ToCharacters = ToBytes
other_way ToBytes = ToCharacters

-- a byte's place becomes the number of characters before it; the number of a character becomes the place of its first byte, and the
-- number of all characters the text's length
abbrev pub convert_by : Way → List ℕ → ℕ → ℕ
convert_by ToCharacters text = chars_before text
convert_by ToBytes text = place_of text

abbrev pub fault_by : Way → List ℕ → ℕ → Option Fault
fault_by ToCharacters text = byte_fault text
fault_by ToBytes text = char_fault text
