-- What the functions on outputs promise. Assumes nothing: these are definitions.
use Rattle.std.specs.Prelude.{◌≡◌, true, ◌⊎◌, ℕ, ◌-◌, min, List, length, get_or, take, drop, replicate}
use Rattle.replay_cases.specs.Case.{part_at, last_at}
use Rattle.replay_bytes.specs.Promises.{Within}

-- What reading a length promises: the number at a place, at most as much as was lent.
pub record LengthAt (case : List ℕ) (at : ℕ) (lent : List ℕ) (r : ℕ) : Type 0 where
  pub exact : r ≡ min (get_or case at 0) (length lent)
  pub held : Within r lent

-- the answers begin with the refusal and the counts
pub record ToldFirst (refusal : ℕ) (counts answers : List ℕ) : Type 0 where
  pub refused : get_or answers 0 0 ≡ refusal
  pub node_count : get_or answers 1 0 ≡ get_or counts 0 0
  pub row_count : get_or answers 2 0 ≡ get_or counts 1 0

-- the numbers from one place up to another
abbrev pub between : ℕ → ℕ → List ℕ → List ℕ
between start end l = take (end - start) (drop start l)

-- the list at a place of the answers, and the last one after it
abbrev pub list_at : List ℕ → ℕ → List ℕ
list_at answers at = between (part_at answers at).start (part_at answers at).end answers

abbrev pub last_list_at : List ℕ → ℕ → List ℕ
last_list_at answers at = between (last_at answers at).start (length answers) answers

-- two lists end the answers
abbrev pub Ends : List ℕ → Type 0
Ends answers = (last_at answers (part_at answers 3).end).fits ≡ true

-- the answers end with two lists, and these are what the output begins with
pub record Left (nodes rows answers : List ℕ) : Type 0 where
  pub ends : Ends answers
  pub first : take (length (list_at answers 3)) nodes ≡ list_at answers 3
  pub last : take (length (last_list_at answers (part_at answers 3).end)) rows ≡ last_list_at answers (part_at answers 3).end

-- what an operation gave and left is what is stored
pub record Stored (refusal : ℕ) (counts nodes rows answers : List ℕ) : Type 0 where
  pub told : ToldFirst refusal counts answers
  pub left : Left nodes rows answers

-- the refusal is answered of a working store only if each of its numbers is this one
abbrev pub LeftAs : ℕ → List ℕ → List ℕ → ℕ → ℕ → Type 0
LeftAs number nodes rows refusal r =
    ((r ≡ refusal) × (nodes ≡ replicate 2048 number) × (rows ≡ replicate 2048 number)) ⊎ (r ≡ 4294967295)
