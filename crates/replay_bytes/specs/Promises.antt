-- What the functions that read bytes from a case promise.
-- Assumes nothing: these are definitions.
use Rattle.std.specs.Prelude.{ℕ, ◌-◌, ◌≤◌, ◌<◌, ◌≡◌, ◌⊎◌, Bool, true, false, List, length, get_or, take, drop, Option, IfSome}
use Rattle.replay_cases.specs.Case.{part_at, no_list}
use Rattle.replay_cases.specs.declared.Part.{Part}
use Rattle.replay_bytes.specs.declared.Texts.{Texts}

-- So many numbers lie within what was lent. `whole` follows, and is stated so that they can be lent with no proof.
pub record Within (n : ℕ) (lent : List ℕ) : Type 0 where
  pub inside : n ≤ length lent
  pub whole : n ≡ length (take n lent)

-- What putting the numbers of a list into bytes promises: they stand at the start, or they are too many or no bytes.
abbrev pub PutBytes : Bool → List ℕ → List ℕ → Type 0
PutBytes true list stored = (length list ≤ length stored) × (take (length list) stored ≡ list)
PutBytes false list stored = length list ≤ length stored → ((i : ℕ) → i < length list → get_or list i 0 < 256) → ⊥

-- What putting the list at a place into bytes promises: its numbers stand at the start, unless it gives none. `ordered`
-- and `inside` are stated so that the list can be lent.
pub record BytesAt (case : List ℕ) (at : ℕ) (r : Part) (stored : List ℕ) : Type 0 where
  pub found : (r ≡ part_at case at) ⊎ (r ≡ no_list (length case))
  pub ordered : r.start ≤ r.end
  pub inside : r.end ≤ length case
  pub held : Within (r.end - r.start) stored
  pub put : take (r.end - r.start) stored ≡ take (r.end - r.start) (drop r.start case)

-- What putting a text, or two, promises: they lie within what was lent for them; one that could be put stands there.
pub record TextHeld (list : List ℕ) (r : Option ℕ) (bytes : List ℕ) : Type 0 where
  pub held : IfSome r (λ count. Within count bytes)
  pub put : IfSome r (λ count. take count bytes ≡ list)

pub record TextsHeld (r : Texts) (first second : List ℕ) : Type 0 where
  pub first_held : Within r.first first
  pub second_held : Within r.second second
