-- What the functions that read a case promise.
-- Assumes nothing: these are definitions.
use Rattle.std.specs.Prelude.{ℕ, ◌≤◌, ◌≡◌, List, length, take, Option, IfSome}
use Rattle.replay_cases.specs.Case.{answered_case, fitted, case_of, part_at, last_at}
use Rattle.replay_cases.specs.declared.Part.{Part}

-- What reading a line into so much room promises. `counts` and `whole` are stated so that `&numbers[..count]` needs no proof.
pub record GatheredCase (line : List ℕ) (room : ℕ) (r : Option ℕ) (stored : List ℕ) : Type 0 where
  pub exact : answered_case r stored ≡ fitted room (case_of line)
  pub counts : IfSome r (λ count. count ≤ length stored)
  pub whole : IfSome r (λ count. count ≡ length (take count stored))

-- What finding a list promises. `ordered` and `inside` follow from `exact`, and are stated so that `&case[start..end]` needs
-- no proof.
pub record PartAt (case : List ℕ) (at : ℕ) (r : Part) : Type 0 where
  pub exact : r ≡ part_at case at
  pub ordered : r.start ≤ r.end
  pub inside : r.end ≤ length case

-- What finding the last list promises, with facts beside `exact` as above.
pub record LastAt (case : List ℕ) (at : ℕ) (r : Part) : Type 0 where
  pub exact : r ≡ last_at case at
  pub ordered : r.start ≤ r.end
  pub ends : r.end ≡ length case
