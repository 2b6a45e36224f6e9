-- Document 01's two samples of joins, growing or not; that the two groupings of three do differ in order; and the edge of
-- 32 bits.
-- Assumes nothing.
use mathlib.Core.Path.{◌≡◌, refl, ap}
use mathlib.Core.Bool.{Bool, true, false}
use mathlib.Core.List.{List, [], ◌∷◌, map}
use Prim.Native.Nat.{ℕ}
use native.Mathlib.Omega.{arith}
use Rattle.record.specs.Tree.{Row, Encoding, encoding, forest}
use Rattle.record.specs.WellFormed.{nodes_in}
use Rattle.join_trees.specs.Join.{join, with_each, each_with}
use Rattle.join_trees.specs.Offsets.{offsets_fit, join_fits, steps_fit, fold_fits}
use Rattle.join_trees.specs.Samples.{lettered, letter, sample_s, sample_p, sample_q, spelled, spelled_windows}

-- ★ "S with window s, P with window p: windows sP, sp, Sp, six nodes in all."
pub two_windows : (g : Bool) → spelled_windows (join g sample_s sample_p) ≡ (11 ∷ 2 ∷ []) ∷ (11 ∷ 12 ∷ []) ∷ (1 ∷ 12 ∷ []) ∷ []
unfolding join with_each each_with sample_s sample_p letter lettered spelled spelled_windows
two_windows g = refl

pub two_nodes : (g : Bool) → nodes_in (forest (join g sample_s sample_p ∷ [])) ≡ 6
unfolding join with_each each_with sample_s sample_p letter lettered
two_nodes g = refl

-- ★ "One window each, c, d, e, of S, P, Q. S with P first: cPQ, cPe, cdQ, cde, SdQ, Sde, SPe."
pub first_two_windows : (g : Bool) → spelled_windows (join g (join g sample_s sample_p) sample_q)
    ≡ (11 ∷ 2 ∷ 3 ∷ []) ∷ (11 ∷ 2 ∷ 13 ∷ []) ∷ (11 ∷ 12 ∷ 3 ∷ []) ∷ (11 ∷ 12 ∷ 13 ∷ []) ∷ (1 ∷ 12 ∷ 3 ∷ []) ∷ (1 ∷ 12 ∷ 13 ∷ []) ∷ (1 ∷ 2 ∷ 13 ∷ []) ∷ []
unfolding join with_each each_with sample_s sample_p sample_q letter lettered spelled spelled_windows
first_two_windows g = refl

-- "P with Q first: cPQ, cdQ, cde, cPe, SdQ, Sde, SPe."
pub last_two_windows : (g : Bool) → spelled_windows (join g sample_s (join g sample_p sample_q))
    ≡ (11 ∷ 2 ∷ 3 ∷ []) ∷ (11 ∷ 12 ∷ 3 ∷ []) ∷ (11 ∷ 12 ∷ 13 ∷ []) ∷ (11 ∷ 2 ∷ 13 ∷ []) ∷ (1 ∷ 12 ∷ 3 ∷ []) ∷ (1 ∷ 12 ∷ 13 ∷ []) ∷ (1 ∷ 2 ∷ 13 ∷ []) ∷ []
unfolding join with_each each_with sample_s sample_p sample_q letter lettered spelled spelled_windows
last_two_windows g = refl

-- So in general the two groupings are not equal.
pub order_differs : (g : Bool) → join g (join g sample_s sample_p) sample_q ≡ join g sample_s (join g sample_p sample_q) → ⊥
order_differs g e =
    let z : ◌≡◌ {A = ℕ} 2 12 = cc (ap spelled_windows e, first_two_windows g, last_two_windows g) in
    omega arith

-- ---- Offsets

ends : Encoding → List ℕ
ends E = map (λ (r : Row). r.offset_end) E.rows

growing_ends : ends (join true (join true sample_s sample_p) sample_q) ≡ 5 ∷ 10 ∷ 15 ∷ []
unfolding join with_each each_with sample_s sample_p sample_q letter lettered ends
growing_ends = refl

-- one row without windows, its offset end as given
ending : ℕ → Encoding
ending n = encoding (record { id = 1; type_id = 0; pool = 0; text_start = 0; text_length = 0; word_mark = 0; word = 0; offset_start = 0; offset_end = n; special = 0; attention = 1 } ∷ []) [] []

last_that_fits : join_fits true (ending 4294967290) (ending 5) ≡ true
unfolding join with_each each_with ending offsets_fit
last_that_fits = refl

first_that_does_not : join_fits true (ending 4294967290) (ending 6) ≡ false
unfolding join with_each each_with ending offsets_fit
first_that_does_not = refl

-- in the second of three steps
step_that_does_not : fold_fits true (ending 4294967290 ∷ ending 6 ∷ ending 0 ∷ []) ≡ false
unfolding join with_each each_with ending offsets_fit steps_fit
step_that_does_not = refl
