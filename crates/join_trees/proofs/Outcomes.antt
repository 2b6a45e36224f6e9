-- The cases of a join's and a fold's outcome, one by one; what is known of one that is done; and how one that is refused
-- with 6 meets its promise.
-- Assumes nothing.
use mathlib.Core.Path.{◌≡◌, refl, sym, ap, ◌∙◌, subst}
use mathlib.Core.Bool.{Bool, true, false, ◌&&◌, false≢true}
use mathlib.Core.Logic.{◌⊎◌, inl, inr, ⊎_elim}
use mathlib.Core.List.{List, [], ◌∷◌, ◌++◌}
use Prim.Native.Nat.{ℕ, ◌*◌, ◌≤◌}
use native.Mathlib.Omega.{arith}
use lib.Dec.{leb}
use lib.ListN.{length}
use Rattle.record.specs.Tree.{Forest, Encoding, listed, forest, empty}
use Rattle.record.specs.Flat.{row_width, node_width, flat_nodes, flat_rows}
use Rattle.record.specs.WellFormed.{Fits, WellFormed, Stores, nodes_in, rows_in}
use Rattle.record.specs.Read.{Reading, malformed, holds, read, fits_ok, sole, of_one, of_any, is_one}
use Rattle.record.specs.Standing.{One}
use Rattle.record.specs.Outcome.{Room, Outcome, refused, done}
use Rattle.record.specs.declared.Refusal.TheVariants.{MalformedRecord, NoRoom, OffsetTooLarge}
use Rattle.record.proofs.Tree.{forest_listed}
use Rattle.record.proofs.One.{one_of, not_one}
use Rattle.record.proofs.Outcome.{in_room_lem, no_room}
use Rattle.record.proofs.Read.{found, stored}
use Rattle.record.proofs.WellFormed.{Tells, tells_le, tells_and₃, tells_fits}
use Rattle.join_trees.specs.Join.{join, fold}
use Rattle.join_trees.specs.Offsets.{join_fits, fold_fits}
use Rattle.join_trees.specs.Outcomes.{and_then, join_into, join_outcome, fold_into, fold_outcome}
use Rattle.join_trees.proofs.Fine.{join_well}
use Rattle.join_trees.proofs.Sizes.{no_more_room, fold_no_less}
use Rattle.join_trees.proofs.Folds.{fold_from_append, fold_well}

-- ---- Room, decided

tells_room : (nodes rows : List ℕ) (f : Forest) → Tells (fits_ok f && (leb (nodes_in f * node_width) (length nodes) && leb (rows_in f * row_width) (length rows))) (Fits f × (nodes_in f * node_width ≤ length nodes) × (rows_in f * row_width ≤ length rows))
tells_room nodes rows f = tells_and₃ (tells_fits f) (tells_le (nodes_in f * node_width) (length nodes)) (tells_le (rows_in f * row_width) (length rows))

pub room_or_not : (nodes rows : List ℕ) (f : Forest) → Room nodes rows f ⊎ (Room nodes rows f → ⊥)
room_or_not nodes rows f = go _ (tells_room nodes rows f)
  where
    go : (b : Bool) → Tells b (Fits f × (nodes_in f * node_width ≤ length nodes) × (rows_in f * row_width ≤ length rows)) → Room nodes rows f ⊎ (Room nodes rows f → ⊥)
    go true t = let p = t.so refl in inl (record { fits = p.0; nodes_fit = p.1; rows_fit = p.2 })
    go false t = inr (λ r. false≢true (t.back (r.fits, r.nodes_fit, r.rows_fit)))

-- ---- Join

module _ (g : Bool) (nodes rows : List ℕ) where
  pub join_malformed_first : (a b : Reading) → is_one a ≡ false → join_outcome g a b nodes rows ≡ refused MalformedRecord
  unfolding join_outcome
  join_malformed_first a b e = not_one _ _ a e

  pub join_malformed_second : (a b : Reading) → is_one b ≡ false → join_outcome g a b nodes rows ≡ refused MalformedRecord
  unfolding join_outcome of_one
  join_malformed_second malformed b e = refl
  join_malformed_second (holds f) b e = go (listed f)
    where
      go : (l : List Encoding) → sole (refused MalformedRecord) (λ S. of_one (refused MalformedRecord) (λ P. join_into g S P nodes rows) b) l ≡ refused MalformedRecord
      go [] = refl
      go (S ∷ []) = not_one (refused MalformedRecord) (λ P. join_into g S P nodes rows) b e
      go (S ∷ T ∷ l) = refl

  pub join_of : {xs rs ys ss : List ℕ} {S P : Encoding} → One xs rs S → One ys ss P → join_outcome g (read xs rs) (read ys ss) nodes rows ≡ join_into g S P nodes rows
  unfolding join_outcome
  join_of {xs} {rs} {ys} {ss} {S} {P} s p = one_of (refused MalformedRecord) (λ S. of_one (refused MalformedRecord) (λ P. join_into g S P nodes rows) (read ys ss)) s ∙ one_of (refused MalformedRecord) (λ P. join_into g S P nodes rows) p

  module _ (S P : Encoding) where
    pub join_no_room : (Room nodes rows (forest (join g S P ∷ [])) → ⊥) → join_into g S P nodes rows ≡ refused NoRoom
    unfolding join_into and_then
    join_no_room h = rw (no_room nodes rows (forest (join g S P ∷ [])) h)

    pub join_too_large : Room nodes rows (forest (join g S P ∷ [])) → join_fits g S P ≡ false → join_into g S P nodes rows ≡ refused OffsetTooLarge
    unfolding join_into and_then
    join_too_large h e = rw (in_room_lem nodes rows (forest (join g S P ∷ [])) h, e)

    pub join_done : Room nodes rows (forest (join g S P ∷ [])) → join_fits g S P ≡ true → join_into g S P nodes rows ≡ done (forest (join g S P ∷ []))
    unfolding join_into and_then
    join_done h e = rw (in_room_lem nodes rows (forest (join g S P ∷ [])) h, e)

-- ---- Fold

module _ (g : Bool) (nodes rows working_nodes working_rows : List ℕ) where
  pub fold_malformed : fold_outcome g malformed nodes rows working_nodes working_rows ≡ refused MalformedRecord
  unfolding fold_outcome of_any
  fold_malformed = refl

  pub fold_of : {xs rs : List ℕ} {f : Forest} → Stores xs rs f → fold_outcome g (read xs rs) nodes rows working_nodes working_rows ≡ fold_into g (listed f) nodes rows working_nodes working_rows
  unfolding fold_outcome of_any
  fold_of {xs} {rs} {f} s = rw (found xs rs f s)

  module _ (Ps : List Encoding) where
    -- the output or the working store does not hold it
    pub fold_no_room : (Room nodes rows (forest (fold g Ps ∷ [])) → Room working_nodes working_rows (forest (fold g Ps ∷ [])) → ⊥) → fold_into g Ps nodes rows working_nodes working_rows ≡ refused NoRoom
    unfolding fold_into and_then
    fold_no_room h =
        ⊎_elim (λ r. rw (in_room_lem nodes rows (forest (fold g Ps ∷ [])) r, no_room working_nodes working_rows (forest (fold g Ps ∷ [])) (h r)))
        (λ n. rw (no_room nodes rows (forest (fold g Ps ∷ [])) n))
        (room_or_not nodes rows (forest (fold g Ps ∷ [])))

    pub fold_too_large : Room nodes rows (forest (fold g Ps ∷ [])) → Room working_nodes working_rows (forest (fold g Ps ∷ [])) → fold_fits g Ps ≡ false → fold_into g Ps nodes rows working_nodes working_rows ≡ refused OffsetTooLarge
    unfolding fold_into and_then
    fold_too_large h w e = rw (in_room_lem nodes rows (forest (fold g Ps ∷ [])) h, in_room_lem working_nodes working_rows (forest (fold g Ps ∷ [])) w, e)

    pub fold_done : Room nodes rows (forest (fold g Ps ∷ [])) → Room working_nodes working_rows (forest (fold g Ps ∷ [])) → fold_fits g Ps ≡ true → fold_into g Ps nodes rows working_nodes working_rows ≡ done (forest (fold g Ps ∷ []))
    unfolding fold_into and_then
    fold_done h w e = rw (in_room_lem nodes rows (forest (fold g Ps ∷ [])) h, in_room_lem working_nodes working_rows (forest (fold g Ps ∷ [])) w, e)

-- What has no room on the way has none in the end: the first step that is too large decides.
pub fold_stopped : (g : Bool) (nodes rows : List ℕ) (Ps Qs : List Encoding) → (Room nodes rows (forest (fold g Ps ∷ [])) → ⊥) → Room nodes rows (forest (fold g (Ps ++ Qs) ∷ [])) → ⊥
fold_stopped g nodes rows Ps Qs n r = n (no_more_room (fold_no_less g (fold g Ps) Qs) (rw (fold_from_append g empty Ps Qs) at r))

-- ---- What is known of an outcome that is done

pub record Joined (g : Bool) (a b : Reading) (nodes rows : List ℕ) (f : Forest) : Type 0 where
  pub S : Encoding
  pub P : Encoding
  pub first_is : a ≡ holds (forest (S ∷ []))
  pub second_is : b ≡ holds (forest (P ∷ []))
  pub is : f ≡ forest (join g S P ∷ [])
  pub room : Room nodes rows (forest (join g S P ∷ []))
  pub fits : join_fits g S P ≡ true

one_told : {f : Forest} (r : Reading) (k : Encoding → Outcome) → of_one (refused MalformedRecord) k r ≡ done f → (E : Encoding) × (r ≡ holds (forest (E ∷ []))) × (k E ≡ done f)
unfolding of_one
one_told malformed k e = absurd (let z : ◌≡◌ {A = ℕ} 0 1 = cc in omega arith)
one_told {f} (holds h) k e =
    let (E, p, q) = go (listed h) e in
    (E, ap holds (sym (forest_listed h) ∙ ap forest p), q)
  where
    go : (l : List Encoding) → sole (refused MalformedRecord) k l ≡ done f → (E : Encoding) × (l ≡ E ∷ []) × (k E ≡ done f)
    go [] e = absurd (let z : ◌≡◌ {A = ℕ} 0 1 = cc in omega arith)
    go (E ∷ []) e = (E, refl, e)
    go (E ∷ F ∷ l) e = absurd (let z : ◌≡◌ {A = ℕ} 0 1 = cc in omega arith)

into_told : {f : Forest} (g : Bool) (S P : Encoding) (nodes rows : List ℕ) → join_into g S P nodes rows ≡ done f → Room nodes rows (forest (join g S P ∷ [])) × (join_fits g S P ≡ true) × (f ≡ forest (join g S P ∷ []))
into_told {f} g S P nodes rows e = ⊎_elim (λ r. go r (join_fits g S P) refl) (λ n. absurd (let z : ◌≡◌ {A = ℕ} 0 1 = cc (join_no_room g nodes rows S P n) in omega arith)) (room_or_not nodes rows (forest (join g S P ∷ [])))
  where
    go : Room nodes rows (forest (join g S P ∷ [])) → (b : Bool) → join_fits g S P ≡ b → Room nodes rows (forest (join g S P ∷ [])) × (join_fits g S P ≡ true) × (f ≡ forest (join g S P ∷ []))
    go r true t = (r, t, cc (join_done g nodes rows S P r t))
    go r false t = absurd (let z : ◌≡◌ {A = ℕ} 0 1 = cc (join_too_large g nodes rows S P r t) in omega arith)

pub join_told : {f : Forest} (g : Bool) (a b : Reading) (nodes rows : List ℕ) → join_outcome g a b nodes rows ≡ done f → Joined g a b nodes rows f
unfolding join_outcome
join_told g a b nodes rows e =
    let (S, p, e') = one_told a (λ S. of_one (refused MalformedRecord) (λ P. join_into g S P nodes rows) b) e in
    let (P, q, e'') = one_told b (λ P. join_into g S P nodes rows) e' in
    let t = into_told g S P nodes rows e'' in
    record { S = S; P = P; first_is = p; second_is = q; is = t.2; room = t.0; fits = t.1 }

-- What a join of two batches writes is a well-formed batch again, and reads as the join.
pub join_reads : {f : Forest} (g : Bool) (xs rs ys ss nodes rows : List ℕ) → join_outcome g (read xs rs) (read ys ss) nodes rows ≡ done f → read (flat_nodes f) (flat_rows f) ≡ holds f
join_reads {f} g xs rs ys ss nodes rows e =
    let j = join_told g (read xs rs) (read ys ss) nodes rows e in
    let s = stored xs rs (forest (j.S ∷ [])) j.first_is in
    let p = stored ys ss (forest (j.P ∷ [])) j.second_is in
    let w : WellFormed f = subst WellFormed (sym j.is) (join_well g j.S j.P s.well p.well j.room.fits) in
    found (flat_nodes f) (flat_rows f) f (record { nodes_are = refl; rows_are = refl; well = w })

pub record Folded (g : Bool) (batch : Reading) (nodes rows working_nodes working_rows : List ℕ) (f : Forest) : Type 0 where
  pub h : Forest
  pub batch_is : batch ≡ holds h
  pub is : f ≡ forest (fold g (listed h) ∷ [])
  pub room : Room nodes rows (forest (fold g (listed h) ∷ []))
  pub working_room : Room working_nodes working_rows (forest (fold g (listed h) ∷ []))
  pub fits : fold_fits g (listed h) ≡ true

pub fold_told : {f : Forest} (g : Bool) (batch : Reading) (nodes rows working_nodes working_rows : List ℕ) → fold_outcome g batch nodes rows working_nodes working_rows ≡ done f → Folded g batch nodes rows working_nodes working_rows f
unfolding fold_outcome of_any
fold_told g malformed nodes rows working_nodes working_rows e = absurd (let z : ◌≡◌ {A = ℕ} 0 1 = cc in omega arith)
fold_told {f} g (holds h) nodes rows working_nodes working_rows e =
    ⊎_elim
    (λ r. ⊎_elim (λ w. go r w (fold_fits g (listed h)) refl) (λ n. none (λ _ w. n w)) (room_or_not working_nodes working_rows F))
    (λ n. none (λ r _. n r))
    (room_or_not nodes rows F)
  where
    F : Forest
    F = forest (fold g (listed h) ∷ [])

    none : (Room nodes rows F → Room working_nodes working_rows F → ⊥) → Folded g (holds h) nodes rows working_nodes working_rows f
    none n = absurd (let z : ◌≡◌ {A = ℕ} 0 1 = cc (fold_no_room g nodes rows working_nodes working_rows (listed h) n) in omega arith)

    go : Room nodes rows F → Room working_nodes working_rows F → (b : Bool) → fold_fits g (listed h) ≡ b → Folded g (holds h) nodes rows working_nodes working_rows f
    go r w true t = record { h = h; batch_is = refl; is = cc (fold_done g nodes rows working_nodes working_rows (listed h) r w t); room = r; working_room = w; fits = t }
    go r w false t = absurd (let z : ◌≡◌ {A = ℕ} 0 1 = cc (fold_too_large g nodes rows working_nodes working_rows (listed h) r w t) in omega arith)

pub fold_reads : {f : Forest} (g : Bool) (xs rs nodes rows working_nodes working_rows : List ℕ) → fold_outcome g (read xs rs) nodes rows working_nodes working_rows ≡ done f → read (flat_nodes f) (flat_rows f) ≡ holds f
fold_reads {f} g xs rs nodes rows working_nodes working_rows e =
    let t = fold_told g (read xs rs) nodes rows working_nodes working_rows e in
    let s = stored xs rs t.h t.batch_is in
    let w : WellFormed f = subst WellFormed (sym t.is) (fold_well g (listed t.h) (subst WellFormed (sym (forest_listed t.h)) s.well) t.room.fits) in
    found (flat_nodes f) (flat_rows f) f (record { nodes_are = refl; rows_are = refl; well = w })
