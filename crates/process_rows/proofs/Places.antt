-- The encoding that begins at a place, if there is one: its two counts. Where there is none the empty one counts.
-- Assumes nothing.
use mathlib.Core.Path.{refl, ap, sym}
use mathlib.Core.Bool.{true}
use mathlib.Core.Option.{Option, none as nothing, some}
use mathlib.Core.List.{List, [], ◌∷◌, append-nil}
use Prim.Native.Nat.{ℕ, ◌+◌, ◌≤◌, ◌<◌}
use native.Mathlib.Omega.{arith}
use lib.Dec.{eqb}
use lib.ListN.{length, get_or, length-append, length-drop}
use Rattle.record.specs.Tree.{Encoding, forest}
use Rattle.record.specs.Flat.{node_width, flat_nodes, flat_rows}
use Rattle.record.specs.Standing.{At}
use Rattle.record.proofs.Flat.{length_nodes}
use Rattle.record.proofs.Standing.{at_size, at_count}
use Rattle.join_levels_stored.specs.Promises.{EncodingAt}
use Rattle.process_rows.specs.Promises.{SecondStands, WindowlessAt, SecondRows}

-- its rows need not be known: any will do
at_any : {nodes : List ℕ} {k : ℕ} {F : Encoding} → EncodingAt nodes k F → At nodes (flat_rows (forest (F ∷ []))) k 0 (forest (F ∷ []))
at_any {nodes} {k} {F} h = record { rest = h.there.rest; is = h.there.is; rest_rows = []; is_rows = sym (append-nil (flat_rows (forest (F ∷ [])))) }

pub long : {nodes : List ℕ} {k : ℕ} {F : Encoding} → EncodingAt nodes k F → k + node_width ≤ length nodes
long {nodes} {k} {F} h = omega (arith, length-drop k nodes, ap length h.there.is, length-append (flat_nodes (forest (F ∷ []))) h.there.rest, length_nodes (forest (F ∷ [])) h.well.fine)

module _ (nodes : List ℕ) (k : ℕ) where
  -- ---- Where the place is inside

  module _ (l : k < length nodes) where
    pub place_long : (o : Option Encoding) → SecondStands nodes k o → k + node_width ≤ length nodes
    place_long nothing h = absurd (omega arith)
    place_long (some F) h = long h

    pub windows_there : WindowlessAt nodes k (eqb (get_or nodes (k + 1) 0) 0)
    windows_there nothing h = absurd (omega arith)
    windows_there (some F) h = ap (λ (n : ℕ). eqb n 0) (at_count (at_any h))

    pub rows_there : SecondRows nodes k (get_or nodes k 0)
    rows_there nothing h = absurd (omega arith)
    rows_there (some F) h = at_size (at_any h)

  -- ---- Where it is past the end

  module _ (l : length nodes ≤ k) where
    pub windows_past : WindowlessAt nodes k true
    windows_past nothing h = refl
    windows_past (some F) h = absurd (omega (arith, long h))

    pub rows_past : SecondRows nodes k 0
    rows_past nothing h = refl
    rows_past (some F) h = absurd (omega (arith, long h))
