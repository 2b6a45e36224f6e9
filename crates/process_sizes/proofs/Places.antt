-- The profile of the encoding that begins at a place, if there is one; that of the empty one where there is none.
-- Assumes nothing.
use mathlib.Core.Option.{Option, none as nothing, some}
use mathlib.Core.List.{List}
use Prim.Native.Nat.{ℕ, ◌≤◌, ◌<◌}
use native.Mathlib.Omega.{arith}
use lib.ListN.{length}
use Rattle.record.specs.Tree.{Encoding, empty}
use Rattle.join_levels.specs.declared.Profile.{Profile}
use Rattle.join_levels.specs.Levels.{ProfileOf, Profiled}
use Rattle.join_levels_stored.specs.Promises.{Standing, ProfilesAt}
use Rattle.process_rows.specs.Promises.{SecondStands}
use Rattle.process_sizes.specs.Promises.{ProfileAt}
use Rattle.process_rows.proofs.Places.{long}

module _ (nodes : List ℕ) (k : ℕ) where
  -- ---- Where the place is inside

  module _ (l : k < length nodes) where
    pub place_standing : (o : Option Encoding) → SecondStands nodes k o → Standing nodes k
    place_standing nothing h = absurd (omega arith)
    place_standing (some F) h = record { E = F; stands = h }

    pub profile_there : {p : Profile} → ProfilesAt nodes k p → ProfileAt nodes k p
    profile_there is nothing h = absurd (omega arith)
    profile_there is (some F) h = is F h

  -- ---- Where it is past the end

  module _ (l : length nodes ≤ k) where
    pub profile_past : {p : Profile} → ProfileOf empty p → ProfileAt nodes k p
    profile_past is nothing h = is
    profile_past is (some F) h = absurd (omega (arith, long h))

  -- ---- Wherever it is

  pub place_profiled : {p : Profile} (o : Option Encoding) → SecondStands nodes k o → ProfileAt nodes k p → Profiled p
  place_profiled nothing h is = record { E = empty; is = is nothing h; fits = record { few_nodes = omega arith; few_rows = omega arith; few_levels = omega arith } }
  place_profiled (some F) h is = record { E = F; is = is (some F) h; fits = h.well.fits }
