-- What join and fold answer and write, refusals first, in document 01's order: "*Join, fold*: 1, 2, 6".
-- Assumes nothing: these are definitions.
use Rattle.std.specs.Prelude.{Bool, cond, List, [], ◌∷◌, ℕ}
use Rattle.record.specs.Tree.{Forest, Encoding, listed, forest}
use Rattle.record.specs.Read.{Reading, of_one, of_any}
use Rattle.record.specs.Outcome.{Outcome, refused, done, in_room}
use Rattle.record.specs.declared.Refusal.TheVariants.{MalformedRecord, OffsetTooLarge}
use Rattle.join_trees.specs.Join.{join, fold}
use Rattle.join_trees.specs.Offsets.{join_fits, fold_fits}

-- the next test, of what was not refused before it
unfoldable pub and_then : Outcome → (Forest → Outcome) → Outcome
and_then (refused k) next = refused k
and_then (done f) next = next f

-- "6 if any offset at any step would pass 4,294,967,295"
abbrev pub if_fits : Bool → Forest → Outcome
if_fits fits f = cond fits (done f) (refused OffsetTooLarge)

-- S joined with P, into an output of the two lists
unfoldable pub join_into : Bool → Encoding → Encoding → List ℕ → List ℕ → Outcome
join_into growing S P nodes rows = and_then (in_room nodes rows (forest (join growing S P ∷ []))) (if_fits (join_fits growing S P))

-- "Join takes two batches of one encoding"
unfoldable pub join_outcome : Bool → Reading → Reading → List ℕ → List ℕ → Outcome
join_outcome growing first second nodes rows =
    of_one (refused MalformedRecord) (λ S. of_one (refused MalformedRecord) (λ P. join_into growing S P nodes rows) second) first

-- "more rows or nodes than the output (and the working store, where one is lent) holds": the encodings Ps folded, into
-- an output of the first two lists, with a working store of the last two
unfoldable pub fold_into : Bool → List Encoding → List ℕ → List ℕ → List ℕ → List ℕ → Outcome
fold_into growing Ps nodes rows working_nodes working_rows =
    and_then (in_room nodes rows (forest (fold growing Ps ∷ []))) (λ f. and_then (in_room working_nodes working_rows f) (if_fits (fold_fits growing Ps)))

-- "text, span, pad batch and fold any batch"
unfoldable pub fold_outcome : Bool → Reading → List ℕ → List ℕ → List ℕ → List ℕ → Outcome
fold_outcome growing batch nodes rows working_nodes working_rows =
    of_any (refused MalformedRecord) (λ f. fold_into growing (listed f) nodes rows working_nodes working_rows) batch
