-- The ranges of a node, shifted: one, and one after another.
-- Assumes nothing.
use mathlib.Core.Path.{◌≡◌, sym, ap, ap₂, subst, ◌∙◌}
use mathlib.Core.Bool.{Bool, cond}
use Prim.Native.Nat.{ℕ, zero, suc, ◌+◌, ◌*◌, ◌≤◌, ◌<◌}
use native.Mathlib.Nat.{add-zero, pos_of_ne-zero}
use native.Mathlib.Numerals.{add-one}
use native.Mathlib.Omega.{arith}
use mathlib.Core.List.{List, [], ◌∷◌, ◌++◌, flat_map, map, map-append, append-nil}
use lib.ListN.{length, get_or, take, drop, set, length-drop, length-map}
use lib.Seq.{sets, take_at, drop-drop, get_or-drop}
use borrow.Author.Tests.{eq-eqb, ne_eqb}
use Rattle.record.specs.Tree.{Range, sequences}
use Rattle.lists.specs.Lists.{All}
use Rattle.record.specs.Flat.{node_width, range_numbers, range_at}
use Rattle.record.specs.Read.{several}
use Rattle.record.proofs.Flat.{length_numbers, several_forth, range_stored}
use Rattle.lists.proofs.Sets.{sets_append}
use Rattle.record_write.specs.Writing.{present_range}
use Rattle.record.proofs.Several.{several_more, length_several}
use Rattle.lists.proofs.FlatMap.{flat_map_append}
use Rattle.cut_plan.specs.declared.Direction.{Direction}
use Rattle.cut_plan.specs.declared.Direction.TheVariants.{Left, Right}
use Rattle.pad_nodes.specs.Shifted.{shifted_present}
use Rattle.pad_nodes.specs.Promises.{Shiftable, padded_node, AskShiftRange, AskShiftNode}
use Rattle.record.specs.Passing.{ranges_at}

-- ---- One range

-- its numbers by their places
pub mark_at : (l : List ℕ) (at : ℕ) → (range_at (drop at l)).present ≡ get_or l at 0
unfolding range_at
mark_at l at = get_or-drop at l 0 0 ∙ ap (λ (k : ℕ). get_or l k 0) (add-zero at)

pub start_at : (l : List ℕ) (at : ℕ) → (range_at (drop at l)).start ≡ get_or l (at + 1) 0
unfolding range_at
start_at l at = get_or-drop at l 1 0

pub end_at : (l : List ℕ) (at : ℕ) → (range_at (drop at l)).end ≡ get_or l (at + 2) 0
unfolding range_at
end_at l at = get_or-drop at l 2 0

-- so many ranges, copied as they are
ranges_copied : (k : ℕ) (l : List ℕ) → k * 3 ≤ length l → take (k * 3) l ≡ flat_map range_numbers (several range_at 3 k l)
ranges_copied k l h =
    let R = several range_at 3 k l in
    ap (take (k * 3)) (sym (several_forth range_stored k l h)) ∙ take_at (flat_map range_numbers R) (drop (k * 3) l) (k * 3) (length_numbers range_stored R ∙ ap (λ (n : ℕ). n * 3) (length_several range_at 3 k l))

-- an absent range is copied
pub shifted_absent : (p : Range) (n : ℕ) → p.present ≡ 0 → shifted_present n p ≡ p
shifted_absent p n e = ap (λ (b : Bool). cond b p (record { present = p.present; start = p.start + n; end = p.end + n })) (eq-eqb p.present 0 e)

pub shifted_present_lem : (p : Range) (n : ℕ) → (p.present ≡ 0 → ⊥) → shifted_present n p ≡ record { present = p.present; start = p.start + n; end = p.end + n }
shifted_present_lem p n e = ap (λ (b : Bool). cond b p (record { present = p.present; start = p.start + n; end = p.end + n })) (ne_eqb p.present 0 e)

pub absent_copied : (l : List ℕ) (at n : ℕ) → at + 3 ≤ length l → get_or l at 0 ≡ 0 → take 3 (drop at l) ≡ range_numbers (shifted_present n (range_at (drop at l)))
absent_copied l at n h e =
    let p = range_at (drop at l) in
    ap (take 3) (sym (range_stored.forth (drop at l) (omega (arith, length-drop at l)))) ∙ take_at (range_numbers p) (drop 3 (drop at l)) 3 (range_stored.long p) ∙ ap range_numbers (sym (shifted_absent p n (mark_at l at ∙ e)))

-- a present one is written anew
pub shifted_anew : (l : List ℕ) (at n : ℕ) → Shiftable (range_at (drop at l)) → (get_or l at 0 ≡ 0 → ⊥) → present_range (get_or l (at + 1) 0 + n) (get_or l (at + 2) 0 + n) ≡ shifted_present n (range_at (drop at l))
shifted_anew l at n s e =
    let p = range_at (drop at l) in
    let there : p.present ≡ 0 → ⊥ = λ z. e (sym (mark_at l at) ∙ z) in
    let one : 1 ≡ p.present = omega (arith, pos_of_ne-zero there, s.0) in
    rw (← start_at l at, ← end_at l at) (ap (λ (m : ℕ). record { present = m; start = p.start + n; end = p.end + n }) one ∙ sym (shifted_present_lem p n there))

-- ---- One after another

module _ (nodes : List ℕ) (i n : ℕ) where
  -- the first k of them, shifted
  abbrev pub shifted_first : ℕ → List Range
  shifted_first k = map (shifted_present n) (several range_at 3 k (drop (i + 2) nodes))

  first_long : (k : ℕ) → length (flat_map range_numbers (shifted_first k)) ≡ k * 3
  first_long k = length_numbers range_stored (shifted_first k) ∙ ap (λ (m : ℕ). m * 3) (length-map (several range_at 3 k (drop (i + 2) nodes)) (shifted_present n) ∙ length_several range_at 3 k (drop (i + 2) nodes))

  first_more : (k : ℕ) → flat_map range_numbers (shifted_first (k + 1)) ≡ flat_map range_numbers (shifted_first k) ++ range_numbers (shifted_present n (range_at (drop (i + 2 + k * 3) nodes)))
  unfolding flat_map
  first_more k =
      let l = drop (i + 2) nodes in
      ap (λ (m : ℕ). flat_map range_numbers (shifted_first m)) (add-one k)
      ∙ ap (λ (q : List Range). flat_map range_numbers (map (shifted_present n) q)) (several_more range_at 3 k l)
      ∙ ap (flat_map range_numbers) (map-append (shifted_present n) (several range_at 3 k l) (range_at (drop (k * 3) l) ∷ []))
      ∙ flat_map_append range_numbers (shifted_first k) (shifted_present n (range_at (drop (k * 3) l)) ∷ [])
      ∙ ap (λ (m : List ℕ). flat_map range_numbers (shifted_first k) ++ m) (append-nil (range_numbers (shifted_present n (range_at (drop (k * 3) l)))) ∙ ap (λ (m : List ℕ). range_numbers (shifted_present n (range_at m))) (drop-drop (k * 3) (i + 2) nodes))

  -- one more is written after the others
  pub shifted_turn : (k : ℕ) (was : List ℕ) {at : ℕ} {out out' : List ℕ} → at ≡ i + 2 + k * 3 → out ≡ sets was (i + 2) (flat_map range_numbers (shifted_first k)) → out' ≡ sets out at (range_numbers (shifted_present n (range_at (drop at nodes)))) → out' ≡ sets was (i + 2) (flat_map range_numbers (shifted_first (k + 1)))
  shifted_turn k was {at} {out} {out'} a o p =
      let l : i + 2 + k * 3 ≡ i + 2 + length (flat_map range_numbers (shifted_first k)) = omega (arith, first_long k) in
      let new = range_numbers (shifted_present n (range_at (drop (i + 2 + k * 3) nodes))) in
      p ∙ ap (λ (m : ℕ). sets out m (range_numbers (shifted_present n (range_at (drop m nodes))))) a ∙ ap₂ (λ (m : List ℕ) (t : ℕ). sets m t new) o l ∙ sets_append was (i + 2) (flat_map range_numbers (shifted_first k)) new ∙ ap (sets was (i + 2)) (sym (first_more k))

-- what holds of all ranges at a place holds of range k
all_at : (M : Range → Type 0) (m k : ℕ) (l : List ℕ) → All M (several range_at 3 m l) → k < m → M (range_at (drop (k * 3) l))
unfolding several
all_at M zero k l h e = absurd (omega arith)
all_at M (suc m) zero l (h, hs) e = h
all_at M (suc m) (suc k) l (h, hs) e =
    let d : 3 + k * 3 ≡ suc k * 3 = omega arith in
    subst (λ (t : List ℕ). M (range_at t)) (drop-drop (k * 3) 3 l ∙ ap (λ (t : ℕ). drop t l) d) (all_at M m k (drop 3 l) hs (omega arith))

-- range k can be shifted if the node's can
pub range_asks : {nodes : List ℕ} {i n : ℕ} {was : List ℕ} → AskShiftNode nodes i n was → (k : ℕ) {at : ℕ} (out : List ℕ) → length out ≡ length was → k < sequences → at ≡ i + 2 + k * 3 → AskShiftRange nodes at n out
range_asks {nodes} {i} {n} {was} h k {at} out l b e =
    record {
      stands = omega (arith, h.stands);
      fits = omega (arith, h.fits);
      few = h.few;
      small = subst (λ (t : List ℕ). Shiftable (range_at t)) (drop-drop (k * 3) (i + 2) nodes ∙ ap (λ (t : ℕ). drop t nodes) (sym e)) (all_at Shiftable sequences k (drop (i + 2) nodes) h.small b);
    }

-- ---- The node with them

-- its two counts, and then its ranges
node_put : (l : List ℕ) (i a b : ℕ) (X : List ℕ) → sets (set (set l i a) (i + 1) b) (i + 2) X ≡ sets l i (a ∷ b ∷ X)
node_put l i a b X =
    let two : i + 2 ≡ suc (suc i) = omega arith in
    ap₂ (λ (j k : ℕ). sets (set (set l i a) j b) k X) (add-one i) two

module _ (nodes : List ℕ) (i count n : ℕ) (was : List ℕ) where
  abbrev counted : List ℕ
  counted = set (set was i count) (i + 1) (get_or nodes (i + 1) 0)

  pub node_left : {out : List ℕ} {d : Direction} → d ≡ Left → out ≡ sets counted (i + 2) (flat_map range_numbers (map (shifted_present n) (ranges_at nodes i))) → out ≡ sets was i (padded_node nodes i count n d)
  node_left {out} {d} e p = p ∙ node_put was i count (get_or nodes (i + 1) 0) (flat_map range_numbers (map (shifted_present n) (ranges_at nodes i))) ∙ ap (λ (d : Direction). sets was i (padded_node nodes i count n d)) (sym e)

  pub node_right : {out : List ℕ} {d : Direction} → d ≡ Right → i + node_width ≤ length nodes → out ≡ sets counted (i + 2) (take (sequences * 3) (drop (i + 2) nodes)) → out ≡ sets was i (padded_node nodes i count n d)
  node_right {out} {d} e h p =
      p ∙ ap (sets counted (i + 2)) (ranges_copied sequences (drop (i + 2) nodes) (omega (arith, length-drop (i + 2) nodes)))
      ∙ node_put was i count (get_or nodes (i + 1) 0) (flat_map range_numbers (ranges_at nodes i)) ∙ ap (λ (d : Direction). sets was i (padded_node nodes i count n d)) (sym e)
