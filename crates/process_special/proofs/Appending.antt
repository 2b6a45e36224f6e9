-- The join with special rows, in the output: what each of its two ways asks, and that it gives the join.
-- Assumes nothing.
use mathlib.Core.Path.{◌≡◌, refl, sym, ap, subst, ◌∙◌}
use mathlib.Core.Bool.{false}
use Prim.Native.Nat.{ℕ, ◌+◌, ◌*◌, ◌/◌, ◌≤◌}
use native.Mathlib.Omega.{arith}
use mathlib.Core.List.{List, [], ◌∷◌, ◌++◌, flat_map, append-nil}
use lib.ListN.{length, get_or, take, drop, set, length-append}
use lib.Seq.{sets, take_at}
use Rattle.record.specs.Tree.{Row, Forest, none, node, Encoding, forest}
use Rattle.record.specs.Flat.{row_width, node_width, row_numbers, range_numbers, flat_nodes, flat_rows}
use Rattle.record.specs.WellFormed.{Stores, rows_in, most_rows}
use Rattle.record.specs.Standing.{Here, Put}
use Rattle.record.specs.Outcome.{Room}
use Rattle.record.proofs.Flat.{length_numbers, row_stored, length_rows}
use Rattle.lists.proofs.Sets.{sets_over}
use Rattle.record.proofs.Walk.{numbers_append}
use Rattle.record.proofs.Standing.{at_count}
use Rattle.record.proofs.Here.{here_nodes, here_rows, here_nodes_fit, here_size}
use Rattle.lists.proofs.Writing.{sets_front, two_sets}
use Rattle.join_trees.specs.Join.{join}
use Rattle.record_extent.specs.Size.{size_of}
use Rattle.record_extent.specs.declared.Extent.{Extent}
use Rattle.template_entries.specs.Table.{member_width}
use Rattle.template_entries.specs.Rows.{special_encoding, members_from}
use Rattle.process_special.specs.Promises.{AskSpecial}
use Rattle.process_special_rows.specs.Lengthened.{special_rows, lengthened}
use Rattle.process_special_rows.specs.Promises.{AskLengthened, Lengthens}
use Rattle.process_special_rows.proofs.Specials.{specials_number}
use Rattle.process_special_rows.proofs.Lengthened.{join_lengthens}

-- the parts of the output that hold an encoding store it
pub front_stores : {out out' : List ℕ} {S : Encoding} {size : Extent} → size ≡ size_of (forest (S ∷ [])) → Here out out' 0 0 (forest (S ∷ [])) → Stores (take (size.nodes * node_width) out) (take (size.rows * row_width) out') (forest (S ∷ []))
front_stores {out} {out'} e h =
    record {
      nodes_are = sym (ap (λ (s : Extent). take (s.nodes * node_width) out) e ∙ here_nodes h);
      rows_are = sym (ap (λ (s : Extent). take (s.rows * row_width) out') e ∙ here_rows h);
      well = h.well;
    }

module _ (members : List ℕ) (first count t : ℕ) where
  abbrev new : List Row
  new = special_rows members first count t

  abbrev joined : Encoding → Encoding
  joined S = join false S (special_encoding t (members_from members first count))

  -- ---- What is asked

  module _ {out out' working : List ℕ} (ask : AskSpecial members first count t out out' working) where
    abbrev all : Forest
    all = lengthened new (forest (ask.S ∷ []))

    is_joined : forest (joined ask.S ∷ []) ≡ all
    is_joined = join_lengthens new ask.S ask.here_s.well.fine

    pub room : Room out out' all
    room = subst (Room out out') is_joined ask.room

    pub room_working : rows_in all * row_width ≤ length working
    room_working = omega (arith, ask.working_fits, ap rows_in is_joined)

    -- the one node, and the new rows after its own
    pub room_in_place : (get_or out 0 0 + count ≤ most_rows) × ((get_or out 0 0 + count) * row_width ≤ length out')
    room_in_place =
        let both : length (ask.S.rows ++ new) ≡ get_or out 0 0 + count = omega (arith, length-append ask.S.rows new, specials_number members first t count ask.among, here_size ask.here_s) in
        (omega (arith, room.fits.few_rows), omega (arith, room.rows_fit))

    -- the parts of the output that hold the encoding
    pub asks_lengthened : {size : Extent} → size ≡ size_of (forest (ask.S ∷ [])) → AskLengthened members first count t (take (size.nodes * node_width) out) (take (size.rows * row_width) out') working
    asks_lengthened {size} e =
        record {
          f = forest (ask.S ∷ []);
          stores = front_stores e ask.here_s;
          among = ask.among;
          few_rows = room.fits.few_rows;
          fits = room_working;
        }

  -- ---- What is given

  module _ {out out' : List ℕ} where
    -- by way of the working store
    pub put_along : {working : List ℕ} {size : Extent} {nodes₁ working₁ out₁' : List ℕ} {end : ℕ} (S : Encoding) → Here out out' 0 0 (forest (S ∷ [])) → size ≡ size_of (forest (S ∷ []))
        → Lengthens (lengthened new (forest (S ∷ []))) working nodes₁ working₁ end → length nodes₁ ≡ size.nodes * node_width → end ≤ length working → out₁' ≡ sets out' 0 (take end working₁)
        → Put (joined S ∷ []) out 0 out' 0 (nodes₁ ++ drop (size.nodes * node_width) out) out₁'
    put_along {working} {size} {nodes₁} {working₁} {out₁'} {end} S h e given long fits copied =
        let F = lengthened new (forest (S ∷ [])) in
        let is : F ≡ forest (joined S ∷ []) = sym (join_lengthens new S h.well.fine) in
        let X = flat_rows F in
        let X-long : length X ≡ end = length_rows F ∙ sym given.ends in
        let N-long : length (flat_nodes F) ≡ size.nodes * node_width = sym (ap length given.nodes_made) ∙ long in
        let rows : take end working₁ ≡ X = ap (take end) (given.rows_put ∙ sets_over working X (omega arith)) ∙ take_at X (drop (length X) working) end X-long in
        record {
          nodes_put = ap (◌++ drop (size.nodes * node_width) out) given.nodes_made ∙ ap (λ (n : ℕ). flat_nodes F ++ drop n out) (sym N-long) ∙ sym (sets_over out (flat_nodes F) (omega (arith, here_nodes_fit h, ap (λ (s : Extent). s.nodes) e))) ∙ ap (λ (f : Forest). sets out 0 (flat_nodes f)) is;
          rows_put = copied ∙ ap (sets out' 0) rows ∙ ap (λ (f : Forest). sets out' 0 (flat_rows f)) is;
        }

    -- in place, where there are no windows
    pub put_in_place : {size : ℕ} {out₁' : List ℕ} (S : Encoding) → first + count ≤ length members / member_width → Here out out' 0 0 (forest (S ∷ [])) → get_or out 1 0 ≡ 0 → size ≡ get_or out 0 0
        → out₁' ≡ sets out' (size * row_width) (flat_map row_numbers new) → Put (joined S ∷ []) out 0 out' 0 (set out 0 (get_or out 0 0 + count)) out₁'
    unfolding flat_nodes flat_rows
    put_in_place {size} {out₁'} S among h alone s put =
        let is : lengthened new (forest (S ∷ [])) ≡ forest (joined S ∷ []) = sym (join_lengthens new S h.well.fine) in
        let made = go S.below h in
        record { nodes_put = made.0 ∙ ap (λ (f : Forest). sets out 0 (flat_nodes f)) is; rows_put = made.1 ∙ ap (λ (f : Forest). sets out' 0 (flat_rows f)) is }
      where
        go : (w : Forest) → Here out out' 0 0 (node S.rows S.ranges w none)
            → (set out 0 (get_or out 0 0 + count) ≡ sets out 0 (flat_nodes (lengthened new (node S.rows S.ranges w none)))) × (out₁' ≡ sets out' 0 (flat_rows (lengthened new (node S.rows S.ranges w none))))
        go (node r q w x) k = absurd (omega (arith, at_count k.at))
        go none k =
            let r = S.rows in
            let Q = flat_map range_numbers S.ranges ++ [] in
            let X = flat_map row_numbers r in
            let Y = flat_map row_numbers new in
            let both : get_or out 0 0 + count ≡ length (r ++ new) = omega (arith, length-append r new, specials_number members first t count among, here_size k) in
            let was : out' ≡ X ++ k.at.rest_rows = k.at.is_rows ∙ ap (◌++ k.at.rest_rows) (append-nil X) in
            let stays : out' ≡ sets out' 0 X = was ∙ sym (ap (λ (l : List ℕ). sets l 0 X) was ∙ sets_front X k.at.rest_rows X refl) in (
              ap (λ (l : List ℕ). set l 0 (get_or out 0 0 + count)) k.at.is
                  ∙ ap (λ (n : ℕ). n ∷ 0 ∷ (Q ++ k.at.rest)) both
                  ∙ sym (ap (λ (l : List ℕ). sets l 0 (length (r ++ new) ∷ 0 ∷ Q)) k.at.is ∙ sets_front (length r ∷ 0 ∷ Q) k.at.rest (length (r ++ new) ∷ 0 ∷ Q) refl),
              two_sets out' 0 X Y stays (omega (arith, length_numbers row_stored r, here_size k)) put ∙ ap (sets out' 0) (sym (append-nil (flat_map row_numbers (r ++ new)) ∙ numbers_append r new)),
            )
