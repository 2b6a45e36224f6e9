-- The numbers of the node of a join: its counts written, S's ranges copied, and P's laid over them.
-- Assumes nothing.
use mathlib.Core.Path.{◌≡◌, ap, ap₂, ◌∙◌}
use mathlib.Core.List.{List, ◌∷◌, flat_map}
use Prim.Native.Nat.{ℕ, ◌+◌, ◌*◌, ◌≤◌}
use native.Mathlib.Numerals.{add-one, add-two}
use native.Mathlib.Omega.{arith}
use lib.ListN.{length, get_or, take, drop, set, length-set}
use lib.Seq.{sets, length-sets, take_at}
use Rattle.record.specs.Tree.{Encoding, sequences}
use Rattle.record.specs.Flat.{node_width, range_numbers}
use Rattle.record.proofs.Flat.{length_numbers, range_stored}
use Rattle.join_trees.specs.Join.{join_ranges, window_count}
use Rattle.join_trees.proofs.Fine.{length_join_ranges}
use Rattle.join_view.specs.declared.View.{View}
use Rattle.join_view.specs.View.{ranges_seen}
use Rattle.join_view.specs.Node.{node_numbers}
use Rattle.join_numbers.specs.Promises.{AskNumbers}
use Rattle.join_ranges.specs.Promises.{ranges_of, RangesAt, NodeAt, AskRanges, LaysRanges}
use Rattle.join_view.proofs.Seen.{length_ranges_seen}
use Rattle.lists.proofs.Written.{sets_stand, sets_again}
use Rattle.join_ranges.proofs.Nodes.{node_count_lem, node_windows, node_ranges}

-- the ranges of a node, as they are copied
ranges_taken : {nodes : List ℕ} {i : ℕ} {E : Encoding} → NodeAt nodes i E → take (sequences * 3) (drop (ranges_of i) nodes) ≡ flat_map range_numbers E.ranges
ranges_taken {nodes} {i} {E} h =
    let r = node_ranges h in
    ap (take (sequences * 3)) r.there.is ∙ take_at (flat_map range_numbers E.ranges) r.there.rest (sequences * 3) (length_numbers range_stored E.ranges ∙ ap (◌* 3) r.places)

-- a node whose first two numbers are a and b, and whose ranges are copied from the node at i
abbrev pub headed : List ℕ → ℕ → ℕ → ℕ → List ℕ → ℕ → List ℕ
headed out at a b nodes i = sets (set (set out at a) (at + 1) b) (ranges_of at) (take (sequences * 3) (drop (ranges_of i) nodes))

length_headed : (out : List ℕ) (at a b : ℕ) (nodes : List ℕ) (i : ℕ) → length (headed out at a b nodes i) ≡ length out
length_headed out at a b nodes i = length-sets (set (set out at a) (at + 1) b) (ranges_of at) (take (sequences * 3) (drop (ranges_of i) nodes)) ∙ length-set (set out at a) (at + 1) b ∙ length-set out at a

pub numbers_asks : {nodes : List ℕ} {i : ℕ} {nodes' : List ℕ} {k : ℕ} {v : View} {out : List ℕ} {at : ℕ} {copied : List ℕ} (a b : ℕ) → AskNumbers nodes i nodes' k v out at → copied ≡ headed out at a b nodes i → AskRanges copied at (get_or nodes i 0) nodes' k v
numbers_asks {nodes} {i} {nodes'} {k} {v} {out} {at} {copied} a b ask e =
    record {
      P = ask.P;
      there = ask.there_p;
      view_fine = ask.view_fine;
      few_rows = omega (arith, node_count_lem ask.there_s, ask.few_rows);
      fits = omega (arith, ap length e, length_headed out at a b nodes i, ask.fits);
    }

pub numbers_written : {nodes : List ℕ} {i : ℕ} {nodes' : List ℕ} {k : ℕ} {v : View} (out : List ℕ) {at : ℕ} {copied out₁ : List ℕ} (S P : Encoding) → NodeAt nodes i S → NodeAt nodes' k P → at + node_width ≤ length out
    → (c : ℕ) → c ≡ window_count (get_or nodes (i + 1) 0) (get_or nodes' (k + 1) 0) → copied ≡ headed out at (get_or nodes i 0 + get_or nodes' k 0) c nodes i → LaysRanges v copied at (get_or nodes i 0) nodes' k out₁ → out₁ ≡ sets out at (node_numbers v S P)
numbers_written {nodes} {i} {nodes'} {k} {v} out {at} {copied} {out₁} S P s p fits c w e laid =
    let n = get_or nodes i 0 in
    let m = get_or nodes' k 0 in
    let X = flat_map range_numbers S.ranges in
    let q = join_ranges n S.ranges (ranges_seen v (length P.rows) P.ranges) in
    let Y = flat_map range_numbers q in
    let start = set (set out at (n + m)) (at + 1) c in
    let long : length start ≡ length out = length-set (set out at (n + m)) (at + 1) c ∙ length-set out at (n + m) in
    let X-long : length X ≡ sequences * 3 = length_numbers range_stored S.ranges ∙ ap (◌* 3) s.fine.places in
    let q_long : length q ≡ sequences = length_join_ranges n sequences S.ranges _ s.fine.places (length_ranges_seen v (length P.rows) P.ranges ∙ p.fine.places) in
    let Y-long : length Y ≡ sequences * 3 = length_numbers range_stored q ∙ ap (◌* 3) q_long in
    let copied_is : copied ≡ sets start (ranges_of at) X = e ∙ ap (sets start (ranges_of at)) (ranges_taken s) in
    let stands : RangesAt copied at S.ranges = record { there = rw copied_is (sets_stand start (ranges_of at) X (omega arith)); places = s.fine.places } in
    (laid.laid P p).made S.ranges stands
    ∙ ap (λ (l : List ℕ). sets l (ranges_of at) Y) copied_is
    ∙ sets_again start (ranges_of at) X Y (omega arith) (omega arith)
    ∙ ap₂ (λ (x y : ℕ). sets (set (set out at (n + m)) x c) y Y) (add-one at) (add-two at)
    ∙ ap₂ (λ (x y : ℕ). sets out at ((x + y) ∷ c ∷ flat_map range_numbers (join_ranges x S.ranges (ranges_seen v (length P.rows) P.ranges)))) (node_count_lem s) (node_count_lem p)
    ∙ ap (λ (x : ℕ). sets out at ((length S.rows + length P.rows) ∷ x ∷ flat_map range_numbers (join_ranges (length S.rows) S.ranges (ranges_seen v (length P.rows) P.ranges)))) (w ∙ ap₂ window_count (node_windows s) (node_windows p))
