-- The loop that lengthens every node in its place: what is done and what is to come, lengthened, make up the whole.
-- Assumes nothing.
use mathlib.Core.Path.{◌≡◌, sym, ap, ap₂, ◌∙◌}
use Prim.Native.Nat.{ℕ, ◌+◌, ◌*◌, ◌≤◌, ◌<◌}
use native.Mathlib.Omega.{arith}
use mathlib.Core.List.{List, ◌∷◌, ◌++◌, flat_map, append_assoc, append-nil}
use lib.ListN.{length, get_or, take, drop, set, length-append}
use lib.Seq.{sets, length-sets, set_at, drop_at}
use Rattle.record.specs.Tree.{Row, Range, Forest, none, node, tops}
use Rattle.record.specs.Flat.{row_width, node_width, row_numbers, range_numbers, flat_nodes, flat_rows}
use Rattle.record.specs.WellFormed.{Fine, rows_in, most_rows}
use Rattle.record.proofs.Flat.{length_numbers, row_stored, range_stored, node_width_lem, length_rows}
use Rattle.record.proofs.Walk.{numbers_append}
use Rattle.record.specs.Passing.{followed, NodesToCome, RowsToCome}
use Rattle.record.proofs.Passing.{followed_nodes, followed_rows, followed_fine, nodes_left, coming_size, coming_fits, coming_own, coming_rows_fit, coming_rows_next}
use Rattle.lists.proofs.Writing.{two_sets}
use Rattle.process_special_rows.specs.Lengthened.{lengthened}
use Rattle.process_special_rows.specs.Promises.{Lengthens}
use Rattle.process_special_rows.proofs.Lengthened.{lengthened_tops, followed_lengthened}

module _ (new : List Row) where
  pub record Lengthening (rows out : List ℕ) (f : Forest) (nodes out₁ : List ℕ) (i from to : ℕ) : Type 0 where
    pub to_come : Forest
    pub fine : Fine to_come
    pub nodes_done : List ℕ
    pub nodes_now : nodes ≡ nodes_done ++ flat_nodes to_come
    pub nodes_all : flat_nodes (lengthened new f) ≡ nodes_done ++ flat_nodes (lengthened new to_come)
    pub nodes_long : length nodes_done ≡ i
    pub coming_rows : RowsToCome rows from to_come
    pub rows_done : List ℕ
    pub rows_all : flat_rows (lengthened new f) ≡ rows_done ++ flat_rows (lengthened new to_come)
    pub rows_long : length rows_done ≡ to
    pub rows_put : out₁ ≡ sets out 0 rows_done

  -- ---- The first node's numbers, and then the others'

  module _ (r : List Row) (q : List Range) (w x : Forest) where
    -- its own, with the new rows counted
    abbrev own_node : List ℕ
    own_node = (length r + length new) ∷ tops w ∷ flat_map range_numbers q

    first_node : flat_nodes (lengthened new (node r q w x)) ≡ own_node ++ flat_nodes (lengthened new (followed w x))
    unfolding flat_nodes
    first_node =
        let tail : flat_nodes (lengthened new w) ++ flat_nodes (lengthened new x) ≡ flat_nodes (lengthened new (followed w x)) = sym (ap flat_nodes (followed_lengthened new w x) ∙ followed_nodes (lengthened new w) (lengthened new x)) in
        ap₂ (λ (a b : ℕ). a ∷ b ∷ (flat_map range_numbers q ++ (flat_nodes (lengthened new w) ++ flat_nodes (lengthened new x)))) (length-append r new) (lengthened_tops new w)
        ∙ ap (own_node ++◌) tail

    first_rows_lem : flat_rows (lengthened new (node r q w x)) ≡ (flat_map row_numbers r ++ flat_map row_numbers new) ++ flat_rows (lengthened new (followed w x))
    unfolding flat_rows
    first_rows_lem = ap₂ ◌++◌ (numbers_append r new) (sym (ap flat_rows (followed_lengthened new w x) ∙ followed_rows (lengthened new w) (lengthened new x)))

    -- the count stored in its place
    count_stored : (done : List ℕ) (i : ℕ) → length done ≡ i → set (done ++ flat_nodes (node r q w x)) i (length r + length new) ≡ (done ++ own_node) ++ flat_nodes (followed w x)
    unfolding flat_nodes
    count_stored done i e =
        set_at done (length r) (tops w ∷ (flat_map range_numbers q ++ (flat_nodes w ++ flat_nodes x))) (length r + length new) i e
        ∙ ap (λ (l : List ℕ). done ++ (own_node ++ l)) (sym (followed_nodes w x))
        ∙ sym (append_assoc done own_node (flat_nodes (followed w x)))

  -- ---- The loop

  module _ {rows out : List ℕ} {f : Forest} {nodes out₁ : List ℕ} {i from to : ℕ} (g : Lengthening rows out f nodes out₁ i from to) where
    coming : NodesToCome nodes i g.to_come
    coming =
        record {
          is = ap (drop i) g.nodes_now ∙ drop_at g.nodes_done (flat_nodes g.to_come) i g.nodes_long;
          on = omega (arith, ap length g.nodes_now, length-append g.nodes_done (flat_nodes g.to_come), g.nodes_long);
          fine = g.fine;
        }

    -- the rows that are written, and those that are to come
    rows_come : rows_in (lengthened new f) * row_width ≡ to + rows_in (lengthened new g.to_come) * row_width
    rows_come =
        omega (arith, ap length g.rows_all, length-append g.rows_done (flat_rows (lengthened new g.to_come)), g.rows_long, length_rows (lengthened new f), length_rows (lengthened new g.to_come))

    pub lengthening_kept : length out₁ ≡ length out
    lengthening_kept = ap length g.rows_put ∙ length-sets out 0 g.rows_done

    -- what a turn reads is there, and what it writes has room
    pub record Turn (size count : ℕ) : Type 0 where
      pub stands : i + node_width ≤ length nodes
      pub rows_stand : from + size * row_width ≤ length rows
      pub few : size + count ≤ most_rows
      pub rows_fit : to + (size + count) * row_width ≤ length out

    module _ {count : ℕ} (counted : length new ≡ count) (l : i < length nodes) where
      pub lengthening_turn : rows_in (lengthened new f) ≤ most_rows → rows_in (lengthened new f) * row_width ≤ length out → Turn (get_or nodes i 0) count
      lengthening_turn few fits = go g.to_come coming g.coming_rows rows_come
        where
          go : (y : Forest) → NodesToCome nodes i y → RowsToCome rows from y → rows_in (lengthened new f) * row_width ≡ to + rows_in (lengthened new y) * row_width → Turn (get_or nodes i 0) count
          go none h k e = absurd (omega (arith, nodes_left h))
          go (node r q w x) h k e =
              let both : length (r ++ new) ≡ length r + count = omega (arith, length-append r new) in
              record {
                stands = coming_fits h;
                rows_stand = omega (arith, coming_size h, coming_rows_fit k);
                few = omega (arith, coming_size h);
                rows_fit = omega (arith, coming_size h);
              }

      -- and then there is one more node
      pub lengthening_on : {out₂ out₃ : List ℕ} {size own : ℕ} → size ≡ get_or nodes i 0 → own ≡ size * row_width → out₂ ≡ sets out₁ to (take own (drop from rows)) → out₃ ≡ sets out₂ (to + own) (flat_map row_numbers new)
          → Lengthening rows out f (set nodes i (size + count)) out₃ (i + node_width) (from + own) (to + (own + count * row_width))
      lengthening_on {out₂} {out₃} {size} {own} s o p p' = go g.to_come g.fine coming g.coming_rows g.nodes_now g.nodes_all g.rows_all
        where
          go : (y : Forest) → Fine y → NodesToCome nodes i y → RowsToCome rows from y → nodes ≡ g.nodes_done ++ flat_nodes y → flat_nodes (lengthened new f) ≡ g.nodes_done ++ flat_nodes (lengthened new y) → flat_rows (lengthened new f) ≡ g.rows_done ++ flat_rows (lengthened new y)
              → Lengthening rows out f (set nodes i (size + count)) out₃ (i + node_width) (from + own) (to + (own + count * row_width))
          go none u h k e a b = absurd (omega (arith, nodes_left h))
          go (node r q w x) (n, hw, hx) h k e a b =
              let N = own_node r q w x in
              let X = flat_map row_numbers r in
              let Y = flat_map row_numbers new in
              let z : size + count ≡ length r + length new = omega (arith, coming_size h) in
              let wide : own ≡ length r * row_width = omega (arith, coming_size h) in
              let own_put : out₂ ≡ sets out₁ to X = p ∙ ap (sets out₁ to) (ap (λ (m : ℕ). take m (drop from rows)) wide ∙ coming_own k) in
              let both_put : out₃ ≡ sets out₁ to (X ++ Y) = two_sets out₁ to X Y own_put (omega (arith, length_numbers row_stored r)) p' in
              record {
                to_come = followed w x;
                fine = followed_fine w x hw hx;
                nodes_done = g.nodes_done ++ N;
                nodes_now = ap₂ (λ (l : List ℕ) (m : ℕ). set l i m) e z ∙ count_stored r q w x g.nodes_done i g.nodes_long;
                nodes_all = a ∙ ap (g.nodes_done ++◌) (first_node r q w x) ∙ sym (append_assoc g.nodes_done N (flat_nodes (lengthened new (followed w x))));
                nodes_long = omega (arith, length-append g.nodes_done N, g.nodes_long, node_width_lem, length_numbers range_stored q, n.places);
                coming_rows = rw wide (coming_rows_next k);
                rows_done = g.rows_done ++ (X ++ Y);
                rows_all = b ∙ ap (g.rows_done ++◌) (first_rows_lem r q w x) ∙ sym (append_assoc g.rows_done (X ++ Y) (flat_rows (lengthened new (followed w x))));
                rows_long = omega (arith, length-append g.rows_done (X ++ Y), g.rows_long, length-append X Y, length_numbers row_stored r, length_numbers row_stored new);
                rows_put = two_sets out 0 g.rows_done (X ++ Y) g.rows_put (omega (arith, g.rows_long)) both_put;
              }

    pub lengthening_end : length nodes < i + node_width → Lengthens (lengthened new f) out nodes out₁ to
    unfolding flat_nodes flat_rows
    lengthening_end l = go g.to_come coming g.nodes_now g.nodes_all g.rows_all rows_come
      where
        go : (y : Forest) → NodesToCome nodes i y → nodes ≡ g.nodes_done ++ flat_nodes y → flat_nodes (lengthened new f) ≡ g.nodes_done ++ flat_nodes (lengthened new y) → flat_rows (lengthened new f) ≡ g.rows_done ++ flat_rows (lengthened new y)
            → rows_in (lengthened new f) * row_width ≡ to + rows_in (lengthened new y) * row_width → Lengthens (lengthened new f) out nodes out₁ to
        go (node r q w x) h e a b c = absurd (omega (arith, coming_fits h))
        go none h e a b c = record { nodes_made = e ∙ sym a; rows_put = g.rows_put ∙ ap (sets out 0) (sym (b ∙ append-nil g.rows_done)); ends = omega arith }
