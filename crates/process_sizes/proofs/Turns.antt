-- One turn of the walk over the steps by profiles.
-- Assumes nothing.
use mathlib.Core.Path.{◌≡◌}
use mathlib.Core.Bool.{false}
use mathlib.Core.Option.{Option, some}
use mathlib.Core.List.{List, [], ◌∷◌, map}
use Prim.Native.Nat.{ℕ, ◌+◌, ◌*◌, ◌<◌}
use Rattle.record.specs.Tree.{Encoding, forest}
use Rattle.record.specs.WellFormed.{Fits}
use Rattle.join_trees.specs.Join.{join, fold}
use Rattle.template_text.specs.Template.{piece_width}
use Rattle.join_levels.specs.declared.Profile.{Profile}
use Rattle.std.specs.Prelude.{Some, None}
use Rattle.join_levels.specs.Levels.{ProfileOf, Measured, Measures}
use Rattle.process_steps.specs.declared.Step.{Step}
use Rattle.process_steps.specs.Steps.{step_at, step_encoding}
use Rattle.process_rows.specs.Promises.{StepsOf}
use Rattle.process_sizes.specs.Promises.{ProfileAt, MeasuresStep}
use Rattle.process_rows.proofs.Walked.{Walked, Next, next, walked_more, walked_stop}

-- what is known of the fold of the steps passed: its profile
abbrev pub Within : Profile → Encoding → Type 0
Within p F = ProfileOf F p × Fits (forest (F ∷ []))

module _ {nodes : List ℕ} {k : ℕ} {entries numbers : List ℕ} {count : ℕ} {members : List ℕ} {E : Encoding} {second : Option Encoding} {steps : List Step} (h : StepsOf nodes k entries numbers count members E second steps) {i : ℕ} {s : Step} (l : i < count) (there : s ≡ step_at numbers (i * piece_width)) where
  module _ {so_far first other : Profile} (r : Measured) (p : ProfileAt nodes 0 first) (q : ProfileAt nodes k other) (measures : MeasuresStep so_far entries s first other r) (w : Walked (step_encoding entries members E second) (Within so_far) steps i) where
    abbrev turn : Next (step_encoding entries members E second) (Within so_far) entries members second steps i s
    turn = next h w l there

    measured : Measures (join false (fold false (map (step_encoding entries members E second) turn.passed)) (step_encoding entries members E second s)) r
    measured = measures _ members E second turn.has.0 (p (some E) h.first_stands) (q second h.second_stands) turn.fine

    pub profile_more : {so_far' : Profile} → r ≡ Some so_far' → Walked (step_encoding entries members E second) (Within so_far') steps (i + 1)
    profile_more e = walked_more turn (rw e at measured)

    pub profile_stop : r ≡ None → Measures (fold false (map (step_encoding entries members E second) steps)) None
    profile_stop e = walked_stop turn (rw e at measured)
