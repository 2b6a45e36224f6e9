-- What the functions test, number by number, is what a well-formed batch is. Assumes nothing.
use mathlib.Core.Path.{◌≡◌, refl, sym, ap, ◌∙◌}
use mathlib.Core.Logic.{inl, inr}
use Prim.Native.Nat.{ℕ, zero, suc, ◌+◌, ◌*◌, ◌≤◌, ◌<◌}
use native.Mathlib.Omega.{arith}
use mathlib.Core.List.{List, [], ◌∷◌, ◌++◌, flat_map, append_assoc, append-nil}
use lib.ListN.{length, get_or, length-append}
use lib.Seq.{get_or-append-add}
use Rattle.record.specs.Tree.{Row, Range, Forest, none, node, listed, sequences, absent}
use Rattle.lists.specs.Lists.{All}
use Rattle.record.specs.Flat.{row_width, node_width, row_numbers, range_numbers, flat_nodes}
use Rattle.record.specs.WellFormed.{RangeFine, RowFine, Fine, Stores, levels, most_levels, most_nodes, most_rows}
use Rattle.record.specs.Read.{Reading, malformed, holds, read}
use Rattle.lists.proofs.All.{all_at, all_places, all_append, all_split}
use Rattle.record.proofs.Flat.{length_numbers, several_at, row_stored, range_stored, length_nodes, length_rows}
use Rattle.record.specs.Walk.{all_rows}
use Rattle.record.proofs.Read.{found, stored}
use Rattle.record.proofs.Walk.{flat_rows_lem, row_number}
use Rattle.record_check.specs.Promises.{Good, Builds, Built, Passes}
use Rattle.record_fields.specs.Promises.{RangeOk, RangesOk, NodesFine, RowAt, RowsFine}
use Rattle.record_check.specs.Answers.{shape_of}
use Rattle.record.specs.declared.Refusal.TheVariants.{MalformedRecord}
use Rattle.std.specs.Prelude.{Option, Some, None, Ok, Err, ok_or}

-- ---- Rows

blank : Row
blank = record { id = 0; type_id = 0; pool = 0; text_start = 0; text_length = 0; word_mark = 0; word = 0; offset_start = 0; offset_end = 0; special = 0; attention = 0 }

module _ (ys : List Row) (i : ℕ) (h : i < length ys) where
  row_forth : RowAt (flat_map row_numbers ys) (i * row_width) → RowFine (get_or ys i blank)
  unfolding row_numbers
  row_forth a = rw (row_number ys i 2 blank h (omega arith), row_number ys i 5 blank h (omega arith), row_number ys i 6 blank h (omega arith)) at a

  row_back : RowFine (get_or ys i blank) → RowAt (flat_map row_numbers ys) (i * row_width)
  unfolding row_numbers
  row_back a = rw (row_number ys i 2 blank h (omega arith), row_number ys i 5 blank h (omega arith), row_number ys i 6 blank h (omega arith)) a

rows_forth : (ys : List Row) → RowsFine (flat_map row_numbers ys) → All RowFine ys
rows_forth ys h = all_places RowFine blank ys (λ i l. row_forth ys i l (h i (omega (arith, length_numbers row_stored ys))))

rows_back : (ys : List Row) → All RowFine ys → RowsFine (flat_map row_numbers ys)
rows_back ys u i l =
    let h : i < length ys = omega (arith, length_numbers row_stored ys) in
    row_back ys i h (all_at RowFine ys i blank h u)

-- ---- Ranges

range_forth : (n : ℕ) (p : Range) → RangeOk n p.present p.start p.end → RangeFine n p
range_forth n p (inl (a, b, c)) = inl (λ i. record { present = a i; start = b i; end = c i })
range_forth n p (inr h) = inr h

range_back : (n : ℕ) (p : Range) → RangeFine n p → RangeOk n p.present p.start p.end
range_back n p (inl e) = inl (ap (λ (p : Range). p.present) e, ap (λ (p : Range). p.start) e, ap (λ (p : Range). p.end) e)
range_back n p (inr h) = inr h

range_same : {a a' b b' c c' d d' : ℕ} → a ≡ a' → b ≡ b' → c ≡ c' → d ≡ d' → RangeOk a b c d → RangeOk a' b' c' d'
range_same p q r s h = rw (p, q, r, s) at h

-- a node's first two numbers, its ranges, and what is after it
module _ (n m : ℕ) (q : List Range) (T : List ℕ) (places : length q ≡ sequences) where
  abbrev X : List ℕ
  X = n ∷ m ∷ (flat_map range_numbers q ++ T)

  number : (k j i : ℕ) → k < sequences → j < 3 → i ≡ suc (suc (k * 3 + j)) → get_or X i 0 ≡ get_or (range_numbers (get_or q k absent)) j 0
  number k j i h l e = rw e (several_at range_stored q T k j absent (omega arith) l)

  ranges_forth : RangesOk X 0 → All (RangeFine n) q
  unfolding range_numbers
  ranges_forth h =
      all_places (RangeFine n) absent q
      (λ k l. let b : k < sequences = omega arith in
      range_forth n (get_or q k absent) (range_same refl (number k 0 (0 + 2 + k * 3) b (omega arith) (omega arith)) (number k 1 (0 + 2 + k * 3 + 1) b (omega arith) (omega arith)) (number k 2 (0 + 2 + k * 3 + 2) b (omega arith) (omega arith)) (h k b)))

  ranges_back : All (RangeFine n) q → RangesOk X 0
  unfolding range_numbers
  ranges_back u k b =
      range_same refl (sym (number k 0 (0 + 2 + k * 3) b (omega arith) (omega arith))) (sym (number k 1 (0 + 2 + k * 3 + 1) b (omega arith) (omega arith))) (sym (number k 2 (0 + 2 + k * 3 + 2) b (omega arith) (omega arith)))
      (range_back n (get_or q k absent) (all_at (RangeFine n) q k absent (omega arith) u))

  -- the nodes after it stand a node's width further on
  further : (i j : ℕ) → j ≡ i + node_width → get_or X j 0 ≡ get_or T i 0
  further i j e =
      let l : length (flat_map range_numbers q) ≡ sequences * 3 = length_numbers range_stored q ∙ ap (λ (k : ℕ). k * 3) places in
      let o : j ≡ suc (suc (length (flat_map range_numbers q) + i)) = omega arith in
      rw o (get_or-append-add (flat_map range_numbers q) T i 0)

  further_forth : (i j : ℕ) → j ≡ i + node_width → RangesOk X j → RangesOk T i
  further_forth i j e h k c =
      range_same (further i j e) (further (i + 2 + k * 3) (j + 2 + k * 3) (omega arith)) (further (i + 2 + k * 3 + 1) (j + 2 + k * 3 + 1) (omega arith)) (further (i + 2 + k * 3 + 2) (j + 2 + k * 3 + 2) (omega arith)) (h k c)

  further_back : (i j : ℕ) → j ≡ i + node_width → RangesOk T i → RangesOk X j
  further_back i j e h k c =
      range_same (sym (further i j e)) (sym (further (i + 2 + k * 3) (j + 2 + k * 3) (omega arith))) (sym (further (i + 2 + k * 3 + 1) (j + 2 + k * 3 + 1) (omega arith))) (sym (further (i + 2 + k * 3 + 2) (j + 2 + k * 3 + 2) (omega arith))) (h k c)

  long : length X ≡ length T + node_width
  long =
      let l : length (flat_map range_numbers q) ≡ sequences * 3 = length_numbers range_stored q ∙ ap (λ (k : ℕ). k * 3) places in
      omega (arith, length-append (flat_map range_numbers q) T)

  head_forth : NodesFine X → RangesOk X 0 × NodesFine T
  head_forth h = (h 0 (omega (arith, long)), λ i b. further_forth (i * node_width) (suc i * node_width) (omega arith) (h (suc i) (omega (arith, long))))

  head_back : RangesOk X 0 → NodesFine T → NodesFine X
  head_back a h zero b = a
  head_back a h (suc i) b = further_back (i * node_width) (suc i * node_width) (omega arith) (h i (omega (arith, long)))

-- ---- A forest's nodes

RangesFine : Forest → Type 0
RangesFine none = Unit {0}
RangesFine (node r q w x) = All (RangeFine (length r)) q × RangesFine w × RangesFine x

nodes_forth : (f : Forest) (l : ℕ) (ys : List ℕ) → Good l f → NodesFine (flat_nodes f ++ ys) → RangesFine f × NodesFine ys
unfolding Good flat_nodes RangesFine
nodes_forth none l ys g h = (tt, h)
nodes_forth (node r q w x) l ys g h =
    let T = flat_nodes w ++ (flat_nodes x ++ ys) in
    let p = head_forth (length r) (length (listed w)) q T g.1 (simp append_assoc at h) in
    let a = nodes_forth w (suc l) (flat_nodes x ++ ys) g.2 p.1 in
    let b = nodes_forth x l ys g.3 a.1 in
    ((ranges_forth (length r) (length (listed w)) q T g.1 p.0, a.0, b.0), b.1)

nodes_back : (f : Forest) (l : ℕ) (ys : List ℕ) → Good l f → RangesFine f → NodesFine ys → NodesFine (flat_nodes f ++ ys)
unfolding Good flat_nodes RangesFine
nodes_back none l ys g u h = h
nodes_back (node r q w x) l ys g u h =
    let T = flat_nodes w ++ (flat_nodes x ++ ys) in
    let t = nodes_back w (suc l) (flat_nodes x ++ ys) g.2 u.1 (nodes_back x l ys g.3 u.2 h) in
    simp append_assoc (head_back (length r) (length (listed w)) q T g.1 (ranges_back (length r) (length (listed w)) q T g.1 u.0) t)

-- ---- The parts together

fine_of : (f : Forest) (l : ℕ) → Good l f → RangesFine f → All RowFine (all_rows f) → Fine f
unfolding Good RangesFine all_rows
fine_of none l g u v = tt
fine_of (node r q w x) l g u v =
    let (a, bc) = all_split RowFine r (all_rows w ++ all_rows x) v in
    let (b, c) = all_split RowFine (all_rows w) (all_rows x) bc in
    (record { places = g.1; ranges_fine = u.0; rows_fine = a }, fine_of w (suc l) g.2 u.1 b, fine_of x l g.3 u.2 c)

ranges_of_lem : (f : Forest) → Fine f → RangesFine f
unfolding RangesFine
ranges_of_lem none h = tt
ranges_of_lem (node r q w x) (n, tw, tx) = (n.ranges_fine, ranges_of_lem w tw, ranges_of_lem x tx)

rows_of : (f : Forest) → Fine f → All RowFine (all_rows f)
unfolding all_rows
rows_of none h = tt
rows_of (node r q w x) (n, tw, tx) = all_append RowFine r (all_rows w ++ all_rows x) n.rows_fine (all_append RowFine (all_rows w) (all_rows x) (rows_of w tw) (rows_of x tx))

levels_of : (f : Forest) (l : ℕ) → Good l f → l ≤ suc most_levels → l + levels f ≤ suc most_levels
unfolding Good
levels_of none l g h = omega arith
levels_of (node r q w x) l g h = omega (arith, g.0, levels_of w (suc l) g.2 (omega (arith, g.0)), levels_of x l g.3 h)

good_of : (f : Forest) (l : ℕ) → Fine f → l + levels f ≤ suc most_levels → Good l f
unfolding Good
good_of none l t h = tt
good_of (node r q w x) l (n, tw, tx) h = (omega arith, n.places, good_of w (suc l) tw (omega arith), good_of x l tx (omega arith))

module _ (nodes rows : List ℕ) where
  -- what the tests found is a batch
  pub stores : (m : ℕ) (f : Forest) → Builds m nodes rows f → NodesFine nodes → RowsFine rows → length nodes ≤ most_nodes * node_width → length rows ≤ most_rows * row_width → Stores nodes rows f
  stores m f b h k ln lr =
      let rf = nodes_forth f 0 [] b.good (rw (append-nil, b.nodes_are) h) in
      let rw' = rows_forth (all_rows f) (rw (← flat_rows_lem f, b.rows_are) k) in
      let fine = fine_of f 0 b.good rf.0 rw' in
      record {
        nodes_are = b.nodes_are;
        rows_are = b.rows_are;
        well = record {
          fine = fine;
          fits = record {
            few_nodes = omega (arith, ap length b.nodes_are, length_nodes f fine);
            few_rows = omega (arith, ap length b.rows_are, length_rows f);
            few_levels = omega (arith, levels_of f 0 b.good (omega arith));
          };
        };
      }

  module _ (f : Forest) (s : Stores nodes rows f) where
    pub builds : Builds (length (listed f)) nodes rows f
    builds = record { counts = refl; nodes_are = s.nodes_are; rows_are = s.rows_are; good = good_of f 0 s.well.fine (omega arith) }

    pub nodes_fine : NodesFine nodes
    nodes_fine = rw (append-nil, s.nodes_are) at (nodes_back f 0 [] builds.good (ranges_of_lem f s.well.fine) (λ i l. absurd (omega arith)))

    pub rows_fine : RowsFine rows
    rows_fine = rw (← flat_rows_lem f, s.rows_are) at (rows_back (all_rows f) (rows_of f s.well.fine))

    pub few_nodes : length nodes ≤ most_nodes * node_width
    few_nodes = omega (arith, ap length s.nodes_are, length_nodes f s.well.fine)

    pub few_rows : length rows ≤ most_rows * row_width
    few_rows = omega (arith, ap length s.rows_are, length_rows f)

  -- nothing is stored
  pub refuses : ((f : Forest) → Stores nodes rows f → ⊥) → Err MalformedRecord ≡ shape_of (read nodes rows)
  refuses none_is = go (read nodes rows) refl
    where
      go : (a : Reading) → read nodes rows ≡ a → Err MalformedRecord ≡ shape_of a
      go malformed e = refl
      go (holds f) e = absurd (none_is f (stored nodes rows f e))

  pub answers : (r : Option ℕ) → Passes nodes rows r → RowsFine rows → length nodes ≤ most_nodes * node_width → length rows ≤ most_rows * row_width → ok_or r MalformedRecord ≡ shape_of (read nodes rows)
  unfolding Built
  answers None a k ln lr = refuses (λ f s. a _ (f, builds f s) (nodes_fine f s))
  answers (Some m) a k ln lr =
      let f = a.0.0 in
      let b = a.0.1 in
      rw (found nodes rows f (stores m f b a.2 k ln lr)) (ap Ok (sym b.counts))
