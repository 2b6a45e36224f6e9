-- A pass over the nodes of an encoding: what is open, what is left to read, and that what was counted and what is left
-- make up the profile.
-- Assumes nothing.
use mathlib.Core.Path.{◌≡◌, refl, ap, sym, ◌∙◌}
use mathlib.Core.List.{List, [], ◌∷◌, ◌++◌, flat_map, append_assoc, append-nil}
use Prim.Native.Nat.{ℕ, zero, suc, ◌+◌, ◌-◌, ◌*◌, ◌≤◌, ◌<◌, max}
use native.Mathlib.Omega.{arith}
use lib.ListN.{length, get_or, set, drop, replicate, length-append, length-drop, length-set}
use lib.Seq.{drop_at, drop-drop, get_or-set_same, get_or-set_other}
use Rattle.record.specs.Tree.{Row, Range, Forest, none, node, Encoding, listed, forest, tops, sequences}
use Rattle.lists.specs.Lists.{All}
use Rattle.record.specs.Flat.{node_width, range_numbers, flat_nodes, flat_rows}
use Rattle.record.specs.WellFormed.{NodeFine, Fine, levels, most_nodes, most_rows, most_levels}
use Rattle.record.specs.Standing.{At}
use Rattle.record.proofs.Flat.{length_numbers, range_stored, drop_node, length_nodes}
use Rattle.record.proofs.Standing.{at_size, at_count}
use Rattle.join_trees.proofs.Sizes.{total_nodes, total_rows}
use Rattle.join_levels.specs.Levels.{weight_at, counted_once, nodes_at, rows_at, ProfileOf}
use Rattle.join_table.specs.Table.{level_count, at}
use Rattle.join_levels_stored.specs.Promises.{EncodingAt}
use Rattle.join_table.proofs.Passes.{zeros}
use Rattle.join_levels.proofs.Profiles.{each}
use Rattle.join_levels.proofs.Limits.{level_few}

-- ---- What is left to read: the forests that are open, the innermost first; one at each level

abbrev flats : List Forest → List ℕ
flats [] = []
flats (f ∷ fs) = flat_nodes f ++ flats fs

-- how many encodings are still to come at each level
abbrev Pends : List ℕ → List Forest → Type 0
Pends pending [] = Unit {0}
Pends pending (f ∷ fs) = (get_or pending (length fs) 0 ≡ tops f) × Pends pending fs

-- none goes below the last level
abbrev Near : List Forest → Type 0
Near [] = Unit {0}
Near (f ∷ fs) = (levels f + length fs ≤ level_count) × Near fs

-- u, n levels further down
abbrev lowered : ℕ → (ℕ → ℕ) → ℕ → ℕ
lowered zero u d = u d
lowered (suc n) u zero = 0
lowered (suc n) u (suc d) = lowered n u d

-- what they have at each level
abbrev left_at : (List Row → ℕ) → List Forest → ℕ → ℕ
left_at c [] d = 0
left_at c (f ∷ fs) d = lowered (length fs) (each c (listed f)) d + left_at c fs d

-- the level that they reach, the top counted
abbrev reach : ℕ → Forest → ℕ
reach n none = 0
reach n (node r q w x) = levels (node r q w x) + n

abbrev deepest : List Forest → ℕ
deepest [] = 0
deepest (f ∷ fs) = max (reach (length fs) f) (deepest fs)

-- The stack is open at place i: what was counted and what is left are E.
pub record Open (nodes : List ℕ) (E : Encoding) (pending counted rows : List ℕ) (deep i : ℕ) (stack : List Forest) : Type 0 where
  pub pends : Pends pending stack
  pub rest : List ℕ
  pub is : drop i nodes ≡ flats stack ++ rest
  pub fine : All Fine stack
  pub near : Near stack
  pub nodes_are : (d : ℕ) → at counted d + left_at counted_once stack d ≡ nodes_at d E
  pub rows_are : (d : ℕ) → at rows d + left_at length stack d ≡ rows_at d E
  pub deep_is : max deep (deepest stack) ≡ suc (levels E.below)

pub record Left (nodes : List ℕ) (E : Encoding) (pending counted rows : List ℕ) (deep depth i : ℕ) : Type 0 where
  pub stack : List Forest
  pub depth_is : length stack ≡ depth
  pub stands_open : Open nodes E pending counted rows deep i stack
  pub pending_long : length pending ≡ suc level_count
  pub counted_long : length counted ≡ level_count
  pub rows_long : length rows ≡ level_count

-- ---- At first

pub left_start : {nodes : List ℕ} {start : ℕ} {E : Encoding} → EncodingAt nodes start E → Left nodes E (set (replicate (suc level_count) 0) 0 1) (replicate level_count 0) (replicate level_count 0) 0 1 start
left_start {nodes} {start} {E} s = record {
  stack = forest (E ∷ []) ∷ [];
  depth_is = refl;
  stands_open = record {
    pends = (refl, tt);
    rest = s.there.rest;
    is = s.there.is ∙ ap (◌++ s.there.rest) (sym (append-nil (flat_nodes (forest (E ∷ [])))));
    fine = (s.well.fine, tt);
    near = (omega (arith, s.well.fits.few_levels), tt);
    nodes_are = λ d. omega (arith, zeros level_count d);
    rows_are = λ d. omega (arith, zeros level_count d);
    deep_is = omega arith;
  };
  pending_long = refl;
  counted_long = refl;
  rows_long = refl;
}

-- never more levels open than there are, and one
pub left_depth : {nodes : List ℕ} {E : Encoding} {pending counted rows : List ℕ} {deep depth i : ℕ} → Left nodes E pending counted rows deep depth i → depth ≤ suc level_count
left_depth {nodes} {E} {pending} {counted} {rows} {deep} {depth} {i} l = go l.stack l.depth_is l.stands_open
  where
    go : (stack : List Forest) → length stack ≡ depth → Open nodes E pending counted rows deep i stack → depth ≤ suc level_count
    go [] n o = omega arith
    go (f ∷ fs) n o = omega (arith, o.near.0)

-- ---- A level that is used up

pub left_pop : {nodes : List ℕ} {E : Encoding} {pending counted rows : List ℕ} {deep depth i : ℕ} (level : ℕ) → Left nodes E pending counted rows deep depth i → depth ≡ suc level → get_or pending level 0 ≡ 0 → Left nodes E pending counted rows deep level i
unfolding flat_nodes
left_pop {nodes} {E} {pending} {counted} {rows} {deep} {depth} {i} level l e z = go l.stack (l.depth_is ∙ e) l.stands_open
  where
    go : (stack : List Forest) → length stack ≡ suc level → Open nodes E pending counted rows deep i stack → Left nodes E pending counted rows deep level i
    go [] n o = absurd (omega arith)
    go (none ∷ fs) n o =
        record {
          stack = fs;
          depth_is = omega arith;
          stands_open = record {
            pends = o.pends.1;
            rest = o.rest;
            is = o.is;
            fine = o.fine.1;
            near = o.near.1;
            nodes_are = λ d. omega (arith, o.nodes_are d, lowered_none (length fs) d);
            rows_are = λ d. omega (arith, o.rows_are d, lowered_none (length fs) d);
            deep_is = omega (arith, o.deep_is);
          };
          pending_long = l.pending_long;
          counted_long = l.counted_long;
          rows_long = l.rows_long;
        }
      where
        lowered_none : (n d : ℕ) → lowered n (λ d. 0) d ≡ 0
        lowered_none zero d = refl
        lowered_none (suc n) zero = refl
        lowered_none (suc n) (suc d) = lowered_none n d
    go (node r q w x ∷ fs) n o =
        let m : length fs ≡ level = omega arith in
        absurd (omega (arith, ap (λ (k : ℕ). get_or pending k 0) m, o.pends.0))

-- ---- A node

-- v at level n, 0 at others
abbrev only : ℕ → ℕ → ℕ → ℕ
only zero v zero = v
only zero v (suc d) = 0
only (suc n) v zero = 0
only (suc n) v (suc d) = only n v d

lowered_node : (c : List Row → ℕ) (n : ℕ) (r : List Row) (q : List Range) (w x : Forest) (d : ℕ) → lowered n (each c (listed (node r q w x))) d ≡ only n (c r) d + (lowered (suc n) (each c (listed w)) d + lowered n (each c (listed x)) d)
unfolding weight_at
lowered_node c zero r q w x zero = omega arith
lowered_node c zero r q w x (suc d) = omega arith
lowered_node c (suc n) r q w x zero = omega arith
lowered_node c (suc zero) r q w x (suc d) = lowered_node c zero r q w x d
lowered_node c (suc (suc n)) r q w x (suc d) = lowered_node c (suc n) r q w x d

added : (l : List ℕ) (n v d : ℕ) → n < length l → at (set l n (at l n + v)) d ≡ at l d + only n v d
added [] n v d h = absurd (omega arith)
added (a ∷ l) zero v zero h = refl
added (a ∷ l) zero v (suc d) h = omega arith
added (a ∷ l) (suc n) v zero h = omega arith
added (a ∷ l) (suc n) v (suc d) h = added l n v d (omega arith)

pends_above : (pending : List ℕ) (k v : ℕ) (fs : List Forest) → length fs ≤ k → Pends pending fs → Pends (set pending k v) fs
pends_above pending k v [] h p = tt
pends_above pending k v (f ∷ fs) h (e, p) = (get_or-set_other pending k (length fs) v 0 (λ z. omega arith) ∙ e, pends_above pending k v fs (omega arith) p)

drop_head : (r : List Row) (q : List Range) (w x : Forest) (l : List ℕ) → NodeFine r q → drop node_width (flat_nodes (node r q w x) ++ l) ≡ flat_nodes w ++ (flat_nodes x ++ l)
unfolding flat_nodes
drop_head r q w x l n =
    let e : length (flat_map range_numbers q) ≡ sequences * 3 = length_numbers range_stored q ∙ ap (λ (k : ℕ). k * 3) n.places in
    drop_node (length r) (tops w) ((flat_map range_numbers q ++ (flat_nodes w ++ flat_nodes x)) ++ l) ∙ simp append_assoc (drop_at (flat_map range_numbers q) (flat_nodes w ++ (flat_nodes x ++ l)) (sequences * 3) e)

-- What is known of a node that is next.
pub record Due (nodes : List ℕ) (E : Encoding) (pending counted rows : List ℕ) (deep i level : ℕ) : Type 0 where
  pub r : List Row
  pub q : List Range
  pub w : Forest
  pub x : Forest
  pub fs : List Forest
  pub level_is : length fs ≡ level
  pub stands_open : Open nodes E pending counted rows deep i (node r q w x ∷ fs)
  pub size : get_or nodes i 0 ≡ length r
  pub windows : get_or nodes (i + 1) 0 ≡ tops w
  pub room : i + node_width ≤ length nodes
  pub level_low : level ≤ most_levels
  pub pending_long : length pending ≡ suc level_count
  pub counted_long : length counted ≡ level_count
  pub rows_long : length rows ≡ level_count

pub due : {nodes : List ℕ} {E : Encoding} {pending counted rows : List ℕ} {deep depth i : ℕ} (level : ℕ) → Left nodes E pending counted rows deep depth i → depth ≡ suc level → 0 < get_or pending level 0 → Due nodes E pending counted rows deep i level
due {nodes} {E} {pending} {counted} {rows} {deep} {depth} {i} level l e z = go l.stack (l.depth_is ∙ e) l.stands_open
  where
    go : (stack : List Forest) → length stack ≡ suc level → Open nodes E pending counted rows deep i stack → Due nodes E pending counted rows deep i level
    go [] n o = absurd (omega arith)
    go (none ∷ fs) n o =
        let m : length fs ≡ level = omega arith in
        absurd (omega (arith, ap (λ (k : ℕ). get_or pending k 0) m, o.pends.0))
    go (node r q w x ∷ fs) n o =
        let f = node r q w x in
        let a : At nodes (flat_rows f) i 0 f = record { rest = flats fs ++ o.rest; is = o.is ∙ append_assoc (flat_nodes f) (flats fs) o.rest; rest_rows = []; is_rows = sym (append-nil (flat_rows f)) } in
        record {
          r = r;
          q = q;
          w = w;
          x = x;
          fs = fs;
          level_is = omega arith;
          stands_open = o;
          size = at_size a;
          windows = at_count a;
          room = omega (arith, length-drop i nodes, simp length-append at (ap length o.is), length_nodes f o.fine.0);
          level_low = omega (arith, o.near.0);
          pending_long = l.pending_long;
          counted_long = l.counted_long;
          rows_long = l.rows_long;
        }

-- So far no more was counted than an encoding within the limits has.
module _ {nodes : List ℕ} {E : Encoding} {pending counted rows : List ℕ} {deep i level start : ℕ} (s : EncodingAt nodes start E) (o : Due nodes E pending counted rows deep i level) where
  pub due_few_nodes : (d : ℕ) → at counted d ≤ most_nodes
  due_few_nodes d = omega (arith, o.stands_open.nodes_are d, level_few counted_once E most_nodes (omega (arith, total_nodes (forest (E ∷ [])), s.well.fits.few_nodes)) d)

  pub due_few_rows : (d : ℕ) → at rows d ≤ most_rows
  due_few_rows d = omega (arith, o.stands_open.rows_are d, level_few length E most_rows (omega (arith, total_rows (forest (E ∷ [])), s.well.fits.few_rows)) d)

max_assoc : (a b c : ℕ) → max (max a b) c ≡ max a (max b c)
max_assoc a b c = omega arith

-- one level, and those of windows below it and of encodings beside it
within_reach : (w x : Forest) (n : ℕ) → max (suc n) (max (reach (suc n) w) (reach n x)) ≡ max (suc (levels w)) (levels x) + n
within_reach none none n = omega arith
within_reach none (node r q w x) n = omega arith
within_reach (node r q w x) none n = omega arith
within_reach (node r q w x) (node r' q' w' x') n = omega arith

deeper : (w x : Forest) (a n b : ℕ) → max (max a (suc n)) (max (reach (suc n) w) (max (reach n x) b)) ≡ max a (max (max (suc (levels w)) (levels x) + n) b)
deeper w x a n b = turned a (suc n) (reach (suc n) w) (reach n x) b ∙ ap (λ (k : ℕ). max a (max k b)) (within_reach w x n)
  where
    turned : (a s l m b : ℕ) → max (max a s) (max l (max m b)) ≡ max a (max (max s (max l m)) b)
    turned a s l m b = max_assoc a s (max l (max m b)) ∙ ap (max a) (ap (max s) (sym (max_assoc l m b)) ∙ sym (max_assoc s (max l m) b))

-- The node counted, and its windows open: m encodings left to come at its level, v windows, n rows.
pub due_next : {nodes : List ℕ} {E : Encoding} {pending counted rows : List ℕ} {deep i level : ℕ} (depth m v n : ℕ) → Due nodes E pending counted rows deep i level → depth ≡ suc level → m ≡ get_or pending level 0 - 1 → v ≡ get_or nodes (i + 1) 0 → n ≡ get_or nodes i 0
    → Left nodes E (set (set pending level m) depth v) (set counted level (at counted level + 1)) (set rows level (at rows level + n)) (max deep depth) (depth + 1) (i + node_width)
due_next {nodes} {E} {pending} {counted} {rows} {deep} {i} {level} depth m v n u e em ev en =
    let o = u.stands_open in
    let fs = u.fs in
    let el : level ≡ length fs = sym u.level_is in
    let ed : depth ≡ suc (length fs) = omega (arith, u.level_is) in
    let long : length pending ≡ suc level_count = u.pending_long in
    let k : m ≡ tops u.x = omega (arith, ap (λ (k : ℕ). get_or pending k 0) el, o.pends.0) in
    let first : get_or (set (set pending level m) depth v) (length (u.x ∷ fs)) 0 ≡ tops u.w =
    rw (ed, el) (get_or-set_same (set pending (length fs) m) (suc (length fs)) v 0 (omega (arith, length-set pending (length fs) m, u.level_low, u.level_is)) ∙ ev ∙ u.windows) in
    let second : get_or (set (set pending level m) depth v) (length fs) 0 ≡ tops u.x =
    rw (ed, el) (get_or-set_other (set pending (length fs) m) (suc (length fs)) (length fs) v 0 (λ z. omega arith) ∙ get_or-set_same pending (length fs) m 0 (omega (arith, u.level_low, u.level_is)) ∙ k) in
    record {
      stack = u.w ∷ u.x ∷ fs;
      depth_is = omega (arith, u.level_is);
      stands_open = record {
        pends = (first, (second, pends_above (set pending level m) depth v fs (omega arith) (pends_above pending level m fs (omega arith) o.pends.1)));
        rest = o.rest;
        is = sym (drop-drop node_width i nodes) ∙ ap (drop node_width) (o.is ∙ append_assoc (flat_nodes (node u.r u.q u.w u.x)) (flats fs) o.rest) ∙ drop_head u.r u.q u.w u.x (flats fs ++ o.rest) o.fine.0.0 ∙ simp append_assoc;
        fine = (o.fine.0.1, (o.fine.0.2, o.fine.1));
        near = (omega (arith, o.near.0), (omega (arith, o.near.0), o.near.1));
        nodes_are = λ d. rw el (omega (arith, o.nodes_are d, added counted (length fs) 1 d (omega (arith, u.counted_long, u.level_low, u.level_is)), lowered_node counted_once (length fs) u.r u.q u.w u.x d));
        rows_are = λ d. rw (el, en ∙ u.size) (omega (arith, o.rows_are d, added rows (length fs) (length u.r) d (omega (arith, u.rows_long, u.level_low, u.level_is)), lowered_node length (length fs) u.r u.q u.w u.x d));
        deep_is = ap (λ (k : ℕ). max (max deep k) (deepest (u.w ∷ u.x ∷ fs))) ed ∙ deeper u.w u.x deep (length fs) (deepest fs) ∙ o.deep_is;
      };
      pending_long = length-set (set pending level m) depth v ∙ length-set pending level m ∙ u.pending_long;
      counted_long = length-set counted level (at counted level + 1) ∙ u.counted_long;
      rows_long = length-set rows level (at rows level + n) ∙ u.rows_long;
    }

-- ---- At the end

pub left_end : {nodes : List ℕ} {E : Encoding} {pending counted rows : List ℕ} {deep depth i : ℕ} → Left nodes E pending counted rows deep depth i → depth ≤ 0 → (deep ≡ suc (levels E.below)) × ProfileOf E (record { nodes = counted; rows = rows; levels = deep - 1 })
left_end {nodes} {E} {pending} {counted} {rows} {deep} {depth} {i} l z = go l.stack l.depth_is l.stands_open
  where
    go : (stack : List Forest) → length stack ≡ depth → Open nodes E pending counted rows deep i stack → (deep ≡ suc (levels E.below)) × ProfileOf E (record { nodes = counted; rows = rows; levels = deep - 1 })
    go [] n o = (omega (arith, o.deep_is), record { deep = omega (arith, o.deep_is); nodes = λ d. omega (arith, o.nodes_are d); rows = λ d. omega (arith, o.rows_are d) })
    go (f ∷ fs) n o = absurd (omega arith)

-- ---- A turn

-- What is known of numbers alone at the start of a turn: no more levels are open than there is room for; where encodings are
-- left at the innermost one, a node is due; and where none is open, a level was reached.
pub record Turn (nodes pending counted rows : List ℕ) (deep depth i : ℕ) : Type 0 where
  pub shallow : depth ≤ suc level_count
  pub low : 0 < depth → 0 < get_or pending (depth - 1) 0 → depth ≤ level_count
  pub room : 0 < depth → 0 < get_or pending (depth - 1) 0 → i + node_width ≤ length nodes
  pub few_nodes : 0 < depth → 0 < get_or pending (depth - 1) 0 → at counted (depth - 1) ≤ most_nodes
  pub few_rows : 0 < depth → 0 < get_or pending (depth - 1) 0 → at rows (depth - 1) ≤ most_rows
  pub reached : depth ≤ 0 → 0 < deep

pub record Kept (nodes : List ℕ) (start : ℕ) (pending counted rows : List ℕ) (deep depth i : ℕ) : Type 0 where
  pub turn : Turn nodes pending counted rows deep depth i
  pub left : (E : Encoding) → EncodingAt nodes start E → Left nodes E pending counted rows deep depth i

pub kept : {nodes : List ℕ} {start : ℕ} {E : Encoding} {pending counted rows : List ℕ} {deep depth i : ℕ} → EncodingAt nodes start E → ((E : Encoding) → EncodingAt nodes start E → Left nodes E pending counted rows deep depth i) → Kept nodes start pending counted rows deep depth i
kept {nodes} {start} {E} {pending} {counted} {rows} {deep} {depth} {i} s left = record { turn = turn; left = left }
  where
    l : Left nodes E pending counted rows deep depth i
    l = left E s

    next : 0 < depth → 0 < get_or pending (depth - 1) 0 → Due nodes E pending counted rows deep i (depth - 1)
    next o p = due (depth - 1) l (omega arith) p

    turn : Turn nodes pending counted rows deep depth i
    turn = record {
      shallow = left_depth l;
      low = λ o p. omega (arith, (next o p).level_low);
      room = λ o p. (next o p).room;
      few_nodes = λ o p. due_few_nodes s (next o p) (depth - 1);
      few_rows = λ o p. due_few_rows s (next o p) (depth - 1);
      reached = λ z. omega (arith, (left_end l z).0);
    }
