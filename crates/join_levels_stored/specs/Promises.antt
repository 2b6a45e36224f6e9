-- What the profile of a stored encoding asks and gives.
-- Assumes nothing: these are definitions.
use Rattle.std.specs.Prelude.{◌≡◌, List, [], ◌∷◌, ℕ}
use Rattle.lists.specs.Stretch.{Stretch}
use Rattle.record.specs.Tree.{Encoding, forest}
use Rattle.record.specs.Flat.{flat_nodes}
use Rattle.record.specs.WellFormed.{WellFormed, nodes_in, rows_in}
use Rattle.join_levels.specs.declared.Profile.{Profile}
use Rattle.join_levels.specs.Levels.{ProfileOf}

-- ---- An encoding in a list of nodes

-- the nodes from place i on begin with E's (`Here` of record asks for its rows too, which a profile is not taken from)
pub record EncodingAt (nodes : List ℕ) (i : ℕ) (E : Encoding) : Type 0 where
  pub there : Stretch nodes i (flat_nodes (forest (E ∷ [])))
  pub well : WellFormed (forest (E ∷ []))

pub record Standing (nodes : List ℕ) (i : ℕ) : Type 0 where
  pub E : Encoding
  pub stands : EncodingAt nodes i E

-- p is that of any encoding whose nodes begin at place i
abbrev pub ProfilesAt : List ℕ → ℕ → Profile → Type 0
ProfilesAt nodes i p = (E : Encoding) → EncodingAt nodes i E → ProfileOf E p

-- ---- Totals

-- The nodes, and the rows, of any encoding within the limits that has this profile.
abbrev pub CountsNodes : Profile → ℕ → Type 0
CountsNodes p n = (E : Encoding) → ProfileOf E p → n ≡ nodes_in (forest (E ∷ []))

abbrev pub CountsRows : Profile → ℕ → Type 0
CountsRows p n = (E : Encoding) → ProfileOf E p → n ≡ rows_in (forest (E ∷ []))
