-- What the functions ask and give that decide whether a batch can be folded, and how much its fold takes.
-- Assumes nothing: these are definitions.
use Rattle.std.specs.Prelude.{◌≡◌, Bool, true, List, [], ◌∷◌, ℕ, length, Result, Ok, Err}
use Rattle.record.specs.Tree.{Forest, listed, forest, tops}
use Rattle.record.specs.WellFormed.{Stores, nodes_in, rows_in}
use Rattle.record.specs.Read.{read}
use Rattle.record.specs.Outcome.{Room, refused}
use Rattle.record.specs.declared.Refusal.{Refusal}
use Rattle.record.specs.declared.Written.{Written}
use Rattle.join_trees.specs.Join.{fold}
use Rattle.join_trees.specs.Offsets.{fold_fits}
use Rattle.join_trees.specs.Outcomes.{fold_outcome}
use Rattle.record_room.specs.declared.Size.{Size}
use Rattle.join_size.specs.Promises.{Sizes}

-- ---- The size

-- the two lists store `count` encodings
pub record AskFoldSize (nodes rows : List ℕ) (count : ℕ) : Type 0 where
  pub f : Forest
  pub stores : Stores nodes rows f
  pub counts : count ≡ tops f

-- how much the fold of whatever they store takes, growing or not
abbrev pub SizesFold : List ℕ → List ℕ → Size → Type 0
SizesFold nodes rows s = (growing : Bool) (f : Forest) → Stores nodes rows f → Sizes (fold growing (listed f)) s

-- ---- The decision: of an output and a working store, by their lengths

-- Encodings are stored there whose fold can be written, and this is how much it takes.
pub record FoldedBy (growing : Bool) (nodes rows out out' working working' : List ℕ) (n m : ℕ) : Type 0 where
  pub f : Forest
  pub stores : Stores nodes rows f
  pub within : fold_fits growing (listed f) ≡ true
  pub room : Room out out' (forest (fold growing (listed f) ∷ []))
  pub working_room : Room working working' (forest (fold growing (listed f) ∷ []))
  pub nodes_taken : n ≡ nodes_in (forest (fold growing (listed f) ∷ []))
  pub rows_taken : m ≡ rows_in (forest (fold growing (listed f) ∷ []))

-- refused, as the fold is; or it can be done
abbrev pub Decided : Bool → List ℕ → List ℕ → List ℕ → List ℕ → List ℕ → List ℕ → Result Written Refusal → Type 0
Decided growing nodes rows out out' working working' (Err k) = fold_outcome growing (read nodes rows) out out' working working' ≡ refused k
Decided growing nodes rows out out' working working' (Ok w) = FoldedBy growing nodes rows out out' working working' w.nodes w.rows

-- a decision for every output and working store that are so long
abbrev pub DecidesFold : Bool → List ℕ → List ℕ → ℕ → ℕ → ℕ → ℕ → Result Written Refusal → Type 0
DecidesFold growing nodes rows a b c d decision =
    (out out' working working' : List ℕ) → length out ≡ a → length out' ≡ b → length working ≡ c → length working' ≡ d → Decided growing nodes rows out out' working working' decision
