-- What the pieces of a template become (document 01, module 9).
-- Assumes nothing: these are definitions.
use Rattle.std.specs.Prelude.{Bool, false, cond, List, [], ◌∷◌, map, ℕ}
use Rattle.std.proofs.Math.Option.{Option, none as nothing, some}
use Rattle.record.specs.Tree.{Encoding, forest, windows, encoding}
use Rattle.record.specs.Outcome.{Outcome, in_room}
use Rattle.record_make.specs.Making.{set_sequence}
use Rattle.join_trees.specs.Join.{fold}
use Rattle.join_trees.specs.Outcomes.{and_then}
use Rattle.template_pieces.specs.Piece.{Piece, sequence_a, sequence_b, special}
use Rattle.template_entries.specs.Table.{Special}
use Rattle.template_find.specs.Last.{last_with}
use Rattle.template_entries.specs.Rows.{special_encoding}
use Rattle.template_walk.specs.Sequences.{some_ok, is_b}
use Rattle.join_view.specs.View.{typed_row}

-- "Encoding i gets sequence id i, and so do its first-level windows": set sequence of module 1, on each of them
abbrev pub with_sequence : ℕ → Encoding → Encoding
with_sequence i E = set_sequence i (encoding E.rows E.ranges (map (set_sequence i) (windows E)))

-- its own rows with a type
abbrev pub with_type : ℕ → Encoding → Encoding
with_type t E = record { rows = map (typed_row t) E.rows; ranges = E.ranges; below = E.below }

-- "each piece sets type and sequence on the top encoding only" (`seen_piece` of proofs/Seen: what the code looks through is
-- this)
abbrev pub of_sequence : ℕ → ℕ → Encoding → Encoding
of_sequence i t E = with_type t (set_sequence i (with_sequence i E))

-- a piece of the second encoding; without one there is nothing to take
abbrev pub of_second : ℕ → Option Encoding → List Encoding
of_second t nothing = []
of_second t (some F) = of_sequence 1 t F ∷ []

-- a special piece, which is nothing where its id is unknown
abbrev pub of_special : ℕ → Option Special → List Encoding
of_special t nothing = []
of_special t (some s) = special_encoding t s.members ∷ []

-- what one piece becomes: the table, whether special tokens are added, the encodings
abbrev pub applied : List Special → Bool → Encoding → Option Encoding → Piece → List Encoding
applied table add E second (sequence_a t) = of_sequence 0 t E ∷ []
applied table add E second (sequence_b t) = of_second t second
applied table add E second (special start id t) = cond add (of_special t (last_with id table)) []

-- "11 B without a second"
abbrev pub lacks_second : Option Encoding → List Piece → Bool
lacks_second nothing pieces = some_ok is_b pieces
lacks_second (some F) pieces = false

-- "the pieces are folded without growing": no offset moves, so that of what a fold is refused for only 2 is left
-- (`folded_still` of proofs/Folded ties it to the fold of module 5). The encodings Ps folded, into an output of the first two
-- lists, with a working store of the last two.
unfoldable pub folded_into : List Encoding → List ℕ → List ℕ → List ℕ → List ℕ → Outcome
folded_into Ps nodes rows working_nodes working_rows = and_then (in_room nodes rows (forest (fold false Ps ∷ []))) (in_room working_nodes working_rows)
