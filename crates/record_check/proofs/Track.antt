-- What a pass over the nodes keeps: the batches that the two lists store are those that close what is left. Assumes nothing.
use mathlib.Core.Path.{◌≡◌, refl, sym, ap, ◌∙◌, subst}
use Prim.Native.Nat.{ℕ, zero, suc, ◌+◌, ◌-◌, ◌*◌, ◌≤◌, ◌<◌}
use native.Mathlib.Nat.{suc-ne-zero, add-zero}
use native.Mathlib.Numerals.{add-one}
use native.Mathlib.Omega.{arith}
use mathlib.Core.List.{List, [], ◌∷◌}
use lib.ListN.{length, get_or, set, drop, length-drop}
use lib.Seq.{get_or-set_other, get_or-set_same, get_or-drop, drop-drop}
use Rattle.record.specs.Tree.{Forest, none, node}
use Rattle.record.specs.Flat.{row_width, node_width, flat_nodes, flat_rows}
use Rattle.record.specs.WellFormed.{most_levels}
use Rattle.record_check.specs.Promises.{Good, Builds, Built}
use Rattle.record_check.proofs.Passes.{Closes, Next, next_forth, next_back, pop_forth, pop_back, deep}

-- t encodings are read, and C m says that what is left closes into m more
pub record Track (nodes rows : List ℕ) (t : ℕ) (C : ℕ → Type 0) : Type 0 where
  pub back : (m : ℕ) → C m → Built (t + m) nodes rows
  pub forth : (m : ℕ) → Built m nodes rows → (j : ℕ) × (m ≡ t + j) × C j

-- nothing is stored
abbrev pub Nothing : List ℕ → List ℕ → Type 0
Nothing nodes rows = (m : ℕ) → Built m nodes rows → ⊥

-- the open levels, the innermost first: the first d numbers of the array, backwards
unfoldable pub stack_of : List ℕ → ℕ → List ℕ
stack_of a zero = []
stack_of a (suc d) = get_or a d 0 ∷ stack_of a d

pub length_stack : (a : List ℕ) (d : ℕ) → length (stack_of a d) ≡ d
unfolding stack_of
length_stack a zero = refl
length_stack a (suc d) = ap suc (length_stack a d)

-- a store at or above d leaves the levels below it
pub stack_set : (a : List ℕ) (j v d : ℕ) → d ≤ j → stack_of (set a j v) d ≡ stack_of a d
unfolding stack_of
stack_set a j v zero h = refl
stack_set a j v (suc d) h = rw (get_or-set_other a j d v 0 (omega arith), stack_set a j v d (omega arith))

pub stack_push : (a : List ℕ) (d v : ℕ) → d < length a → stack_of (set a d v) (suc d) ≡ v ∷ stack_of a d
unfolding stack_of
stack_push a d v h = rw (get_or-set_same a d v 0 h, stack_set a d v d (omega arith))

nil_of : (X : List ℕ) → length X ≡ 0 → X ≡ []
nil_of [] e = refl
nil_of (x ∷ X) e = absurd (suc-ne-zero _ e)

module _ (nodes rows : List ℕ) (t : ℕ) where
  pub to : {C D : ℕ → Type 0} → ((m : ℕ) → C m → D m) → ((m : ℕ) → D m → C m) → Track nodes rows t C → Track nodes rows t D
  to f g k = record { back = λ m d. k.back m (g m d); forth = λ m b. ((k.forth m b).0, (k.forth m b).1, f _ (k.forth m b).2) }

  pub none_left : {C : ℕ → Type 0} → ((m : ℕ) → C m → ⊥) → Track nodes rows t C → Nothing nodes rows
  none_left f k m b = f _ (k.forth m b).2

  pub pop : (st X R : List ℕ) → Track nodes rows t (λ m. Closes m (0 ∷ st) X R) → Track nodes rows t (λ m. Closes m st X R)
  pop st X R = to (λ m. pop_forth m st X R) (λ m. pop_back m st X R)

  pub read : (st X R : List ℕ) → node_width ≤ length X → get_or X 0 0 * row_width ≤ length R → length st ≤ most_levels
      → Track nodes rows t (λ m. Next m st X R) → Track nodes rows t (λ m. Closes m (get_or X 1 0 ∷ st) (drop node_width X) (drop (get_or X 0 0 * row_width) R))
  read st X R a b l = to (λ m h. (next_forth m st X R h).left) (λ m h. next_back m st X R (record { enough = a; rows_enough = b; level = l; left = h }))

  pub no_room : (st X R : List ℕ) → (node_width ≤ length X → get_or X 0 0 * row_width ≤ length R → ⊥) → Track nodes rows t (λ m. Next m st X R) → Nothing nodes rows
  no_room st X R f = none_left (λ m h. f (next_forth m st X R h).enough (next_forth m st X R h).rows_enough)

  -- the innermost list has a node still to come
  pub inner : (k : ℕ) (st X R : List ℕ) → Track nodes rows t (λ m. Closes m (suc k ∷ st) X R) → Track nodes rows t (λ m. Next m (k ∷ st) X R)
  unfolding Next
  inner k st X R h = h

  -- at the top, with something left to read: one more encoding
  pub top : (X R : List ℕ) → 0 < length X → Track nodes rows t (λ m. Closes m [] X R) → Track nodes rows (t + 1) (λ m. Next m [] X R)
  unfolding Next Closes Built flat_nodes
  top X R p k = record {
    back = λ m d. subst (λ (n : ℕ). Built n nodes rows) (omega arith) (k.back (suc m) d);
    forth = λ m b. more m (k.forth m b).0 (k.forth m b).1 (k.forth m b).2.0 (k.forth m b).2.1;
  }
    where
      more : (m j : ℕ) → m ≡ t + j → (f : Forest) → Builds j X R f → (j : ℕ) × (m ≡ t + 1 + j) × Next j [] X R
      more m j e none s = absurd (omega (arith, ap length s.nodes_are))
      more m zero e (node r' q' w x) s = absurd (suc-ne-zero _ s.counts)
      more m (suc j) e (node r' q' w x) s = (j, omega arith, (node r' q' w x, s))

  pub at_end : (X R : List ℕ) → length X ≡ 0 → length R ≡ 0 → Track nodes rows t (λ m. Closes m [] X R) → Built t nodes rows × ((m : ℕ) → Built m nodes rows → m ≡ t)
  unfolding Closes Built flat_nodes flat_rows Good
  at_end X R x r k =
      (subst (λ (n : ℕ). Built n nodes rows) (add-zero t) (k.back 0 (none, record { counts = refl; nodes_are = sym (nil_of X x); rows_are = sym (nil_of R r); good = tt })), λ m b. only m (k.forth m b).0 (k.forth m b).1 (k.forth m b).2.0 (k.forth m b).2.1)
    where
      only : (m j : ℕ) → m ≡ t + j → (f : Forest) → Builds j X R f → m ≡ t
      only m j e none s = omega (arith, s.counts)
      only m j e (node r' q' w y) s = absurd (suc-ne-zero _ (ap length s.nodes_are ∙ x))

  -- no node is left, and rows are
  pub rows_over : (X R : List ℕ) → length X ≡ 0 → 0 < length R → Track nodes rows t (λ m. Closes m [] X R) → Nothing nodes rows
  unfolding Closes Built flat_nodes flat_rows
  rows_over X R x r = none_left (λ m h. no h.0 h.1)
    where
      no : {m : ℕ} (f : Forest) → Builds m X R f → ⊥
      no none s = omega (arith, ap length s.rows_are)
      no (node r' q' w y) s = suc-ne-zero _ (ap length s.nodes_are ∙ x)

  -- ---- the same, at places of the slices and of the array

  module _ (st : List ℕ) (d i q : ℕ) where
    abbrev pub Here : Type 0
    Here = Track nodes rows t (λ m. Closes m (stack_of st d) (drop i nodes) (drop q rows))

    pub top_at : d ≡ 0 → i < length nodes → Here → Track nodes rows (t + 1) (λ m. Next m (stack_of st d) (drop i nodes) (drop q rows))
    unfolding stack_of
    top_at e l h = rw e (top (drop i nodes) (drop q rows) (simp length-drop (omega arith)) (rw e at h))

    pub inner_at : (e k : ℕ) → d ≡ suc e → get_or st e 0 ≡ suc k → d ≤ length st → Here → Track nodes rows t (λ m. Next m (stack_of (set st e k) d) (drop i nodes) (drop q rows))
    unfolding stack_of
    inner_at e k p v l h = rw (p, stack_push st e k (omega arith)) (inner k (stack_of st e) (drop i nodes) (drop q rows) (rw v at (rw p at h)))

    pub pop_at : (e : ℕ) → d ≡ suc e → get_or st e 0 ≡ 0 → Here → Track nodes rows t (λ m. Closes m (stack_of st e) (drop i nodes) (drop q rows))
    unfolding stack_of
    pop_at e p v h = pop (stack_of st e) (drop i nodes) (drop q rows) (rw v at (rw p at h))

    pub short_at : (node_width ≤ length nodes - i → get_or nodes i 0 * row_width ≤ length rows - q → ⊥) → Track nodes rows t (λ m. Next m (stack_of st d) (drop i nodes) (drop q rows)) → Nothing nodes rows
    short_at f = no_room (stack_of st d) (drop i nodes) (drop q rows) (simp (length-drop, get_or-drop, add-zero) f)

    pub read_at : i + node_width ≤ length nodes → q + get_or nodes i 0 * row_width ≤ length rows → d ≤ most_levels → Track nodes rows t (λ m. Next m (stack_of st d) (drop i nodes) (drop q rows))
        → Track nodes rows t (λ m. Closes m (get_or nodes (i + 1) 0 ∷ stack_of st d) (drop (i + node_width) nodes) (drop (q + get_or nodes i 0 * row_width) rows))
    read_at a b l h =
        simp (get_or-drop, drop-drop, add-zero) at (read (stack_of st d) (drop i nodes) (drop q rows) (simp length-drop (omega arith)) (simp (length-drop, get_or-drop, add-zero) (omega arith)) (simp length_stack (omega arith)) h)

    pub end_at : d ≡ 0 → i ≡ length nodes → q ≡ length rows → Here → Built t nodes rows × ((m : ℕ) → Built m nodes rows → m ≡ t)
    unfolding stack_of
    end_at e a b h = at_end (drop i nodes) (drop q rows) (simp length-drop (omega arith)) (simp length-drop (omega arith)) (rw e at h)

    pub over_at : d ≡ 0 → i ≡ length nodes → q < length rows → Here → Nothing nodes rows
    unfolding stack_of
    over_at e a b h = rows_over (drop i nodes) (drop q rows) (simp length-drop (omega arith)) (simp length-drop (omega arith)) (rw e at h)

    pub deep_at : (w : ℕ) → 0 < w → most_levels ≤ d → Track nodes rows t (λ m. Closes m (w ∷ stack_of st d) (drop i nodes) (drop q rows)) → Nothing nodes rows
    deep_at zero p l h = absurd (omega arith)
    deep_at (suc w) p l h = none_left (λ m. deep m w (stack_of st d) (drop i nodes) (drop q rows) (simp length_stack (omega arith))) h

    pub push_at : (w : ℕ) → d < length st → Track nodes rows t (λ m. Closes m (w ∷ stack_of st d) (drop i nodes) (drop q rows)) → Track nodes rows t (λ m. Closes m (stack_of (set st d w) (d + 1)) (drop i nodes) (drop q rows))
    push_at w l h = simp (add-one, stack_push st d w l) h

    pub skip_at : (w : ℕ) → w ≤ 0 → Track nodes rows t (λ m. Closes m (w ∷ stack_of st d) (drop i nodes) (drop q rows)) → Here
    skip_at zero l h = pop (stack_of st d) (drop i nodes) (drop q rows) h
    skip_at (suc w) l h = absurd (omega arith)
