-- What an operation that writes answers, and what it leaves in the buffers lent to it: once, for all of them.
-- Assumes nothing: these are definitions.
use Rattle.std.specs.Prelude.{◌≡◌, ◌&&◌, cond, ℕ, ◌*◌, ◌≤◌, List, [], ◌∷◌, ◌++◌, leb, eqb, length, drop, Result, Ok, Err}
use Rattle.record.specs.Tree.{Forest}
use Rattle.record.specs.Flat.{row_width, node_width, flat_nodes, flat_rows}
use Rattle.record.specs.WellFormed.{Fits, nodes_in, rows_in}
use Rattle.record.specs.Read.{fits_ok}
use Rattle.lists.specs.Lists.{zeros}
use Rattle.record.specs.Refusals.{number_of, fault_or}
use Rattle.record.specs.declared.Refusal.{Refusal}
use Rattle.record.specs.declared.Refusal.TheVariants.{NoRoom}
use Rattle.record.specs.declared.Written.{Written}

-- "either does its work or refuses with a number": refused, or done with the encodings that it writes
pub data Outcome : Type 0 where
  refused : Refusal → Outcome
  done : Forest → Outcome

-- "2 means the result needs more rows, nodes or levels than the limits above or more rows or nodes than the output
-- holds": f as the result in an output of the two lists
unfoldable pub in_room : List ℕ → List ℕ → Forest → Outcome
in_room nodes rows f = cond (fits_ok f && (leb (nodes_in f * node_width) (length nodes) && leb (rows_in f * row_width) (length rows))) (done f) (refused NoRoom)

-- the same as a fact: f is within the limits and an output of the two lists (`in_room_lem`, `no_room` of proofs/Outcome)
pub record Room (nodes rows : List ℕ) (f : Forest) : Type 0 where
  pub fits : Fits f
  pub nodes_fit : nodes_in f * node_width ≤ length nodes
  pub rows_fit : rows_in f * row_width ≤ length rows

-- ---- The answer

-- refused with its number, or done with the nodes and rows of the result
abbrev pub answered : Outcome → Result Written Refusal
answered (refused k) = Err k
answered (done f) = Ok (record { nodes = nodes_in f; rows = rows_in f })

-- "A refusal carries only its number": document 01's number for each case, 0 where nothing is refused
abbrev pub refusal_of : {X : Type 0} → Result X Refusal → ℕ
refusal_of (Err k) = number_of k
refusal_of (Ok x) = 0

-- the nodes and rows of the result in the place of what two lent numbers were; a refusal leaves them
abbrev pub counts_or : List ℕ → Result Written Refusal → List ℕ
counts_or was (Err k) = was
counts_or was (Ok w) = w.nodes ∷ w.rows ∷ []

-- and the part of a template at fault, if that is why
abbrev pub fault_after : List ℕ → Result Written Refusal → List ℕ
fault_after was (Err k) = fault_or was k
fault_after was (Ok w) = was

-- ---- The buffers

-- "A refusal changes no buffer, save 6"; "6 leaves output and working store all zeros"
abbrev pub after_refusal : Refusal → List ℕ → List ℕ
after_refusal k was = cond (eqb (number_of k) 6) (zeros was) was

-- "On success numbers past the result are untouched": the result, then what was there
abbrev pub over : List ℕ → List ℕ → List ℕ
over result was = result ++ drop (length result) was

-- what stands in an output that held `was`, of which `flat` is the part written
unfoldable pub left : (Forest → List ℕ) → Outcome → List ℕ → List ℕ
left flat (refused k) was = after_refusal k was
left flat (done f) was = over (flat f) was

-- "and a working store is zeroed"
unfoldable pub left_working : Outcome → List ℕ → List ℕ
left_working (refused k) was = after_refusal k was
left_working (done f) was = zeros was

-- The promise of an operation that writes: its answer, and every number lent for its output afterwards.
pub record Writes (o : Outcome) (answer : Result Written Refusal) (nodes rows nodes' rows' : List ℕ) : Type 0 where
  pub answers : answer ≡ answered o
  pub nodes_left : nodes' ≡ left flat_nodes o nodes
  pub rows_left : rows' ≡ left flat_rows o rows
