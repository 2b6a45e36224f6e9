-- `in_turn` looks at 1, asks for the lengths, and has the pair cut to them. Assumes nothing.
use mathlib.Core.Path.{◌≡◌, refl, sym, ap, ◌∙◌}
use mathlib.Core.Bool.{Bool, true}
use mathlib.Core.Option.{Option}
use Prim.Native.Nat.{ℕ, ◌*◌}
use native.Mathlib.Omega.{arith}
use mathlib.Core.List.{List, [], ◌∷◌}
use lib.Dec.{ltb}
use lib.ListN.{length, get_or}
use Rattle.std.specs.Prelude.{Result}
use Rattle.std.specs.Prelude as prelude
use Rattle.record.specs.declared.Refusal.{Refusal}
use Rattle.record.specs.Tree.{Encoding, forest}
use Rattle.record.specs.Flat.{node_width}
use Rattle.record.specs.Read.{read, is_one_or_two}
use Rattle.record.specs.Standing.{OneOrTwo}
use Rattle.record.specs.Outcome.{Outcome}
use Rattle.record.specs.declared.Refusal.TheVariants.{MalformedRecord}
use Rattle.record.proofs.Here.{here_nodes_fit, here_size}
use Rattle.record.proofs.OneOrTwo.{one_or_two_there}
use Rattle.record.proofs.Outcome.{writes_refused}
use Rattle.record_extent.specs.Size.{size_of}
use Rattle.record_extent.specs.declared.Extent.{Extent}
use Rattle.record_extent.proofs.Stands.{here_stands}
use Rattle.record_extent.proofs.Pair.{first_here, few_held}
use Rattle.pair_lengths.specs.Lengths.{pair_lengths}
use Rattle.pair_lengths.specs.declared.PairLengths.{PairLengths}
use Rattle.pair_lengths.proofs.Keeps.{pair_lengths_keep}
use Rattle.truncate_pair.specs.CutPair.{cut_pair_outcome}
use Rattle.truncate_pair.proofs.Pair.{second_at}
use Rattle.truncate_in_turn.specs.TruncatePair.{truncate_pair_outcome}
use Rattle.truncate_in_turn.specs.InTurn.{cut_to}
use Rattle.c_crossing.specs.Options.{direction_of, strategy_of}
use Rattle.c_crossing.proofs.Crossing.{writes_out}
use Rattle.c_lengths.specs.Pair.{second_of}
use Rattle.replay_pair_call.proofs.Turns.{pair_malformed, turned_down, handed_over, handed_second, pair_cut}
use Rattle.replay_pair_call.proofs.in_turn.Goals as goal

-- the lengths that the first call tells, of a first that takes so many nodes
abbrev lengths : (nodes : List ℕ) (own : Extent) (n most strategy : ℕ) → Result PairLengths Refusal
lengths nodes own n most strategy =
    pair_lengths (get_or nodes 0 0) (second_of (ltb (own.nodes * node_width) (length nodes)) n) most (strategy_of strategy)

-- past the first test there are one or two encodings
module _ (nodes rows : List ℕ) (there : is_one_or_two (read nodes rows) ≡ true) where
  those : (E : Encoding) × (second : Option Encoding) × OneOrTwo nodes rows E second
  those = one_or_two_there nodes rows there

  -- what the first holds is measured
  module _ (own : Extent) (measured : own ≡ size_of (forest (those.0 ∷ []))) where
    -- and the lengths are those of the encodings that there are
    cut : (out_nodes out_rows : List ℕ) (most stride strategy : ℕ) (left : Bool) (n : ℕ) → n ≡ get_or nodes (own.nodes * node_width) 0
        → truncate_pair_outcome out_nodes out_rows most stride (strategy_of strategy) (direction_of left) (read nodes rows)
        ≡ cut_to (λ k m. cut_pair_outcome out_nodes out_rows k m stride (direction_of left) (read nodes rows)) (lengths nodes own n most strategy)
    cut out_nodes out_rows most stride strategy left n e =
        pair_cut those.2 out_nodes out_rows most stride (strategy_of strategy) (direction_of left) (here_size (first_here those.1 those.2))
        (handed_second nodes (own.nodes * node_width) e ∙ second_at those.1 those.2 measured)

pub returns-then-not-is_one_or_two : goal.returns-then-not-is_one_or_two
returns-then-not-is_one_or_two c =
    writes_out (writes_refused MalformedRecord (pair_malformed _ _ _ _ _ _ _ (sym c.is_one_or_two.ensures ∙ c.if-not-is_one_or_two.true)) refl refl refl refl) refl refl

pub measure-own-requires : goal.measure-own-requires
measure-own-requires c =
    let t = those c.args.nodes.now c.args.rows.now (sym c.is_one_or_two.ensures ∙ c.if-not-is_one_or_two.false) in
    (forest (t.0 ∷ []), here_stands (first_here t.1 t.2))

pub overflow_mul-second : goal.overflow_mul-second
overflow_mul-second c =
    let t = those c.args.nodes.now c.args.rows.now (sym c.is_one_or_two.ensures ∙ c.if-not-is_one_or_two.false) in
    omega (arith, (few_held (first_here t.1 t.2) (c.measure-own.ensures _ (here_stands (first_here t.1 t.2)))).0)

pub bounds-nodes-0 : goal.bounds-nodes-0
bounds-nodes-0 c =
    let t = those c.args.nodes.now c.args.rows.now (sym c.is_one_or_two.ensures ∙ c.if-not-is_one_or_two.false) in
    omega (arith, here_nodes_fit (first_here t.1 t.2))

pub returns-then-refusal-ne0 : goal.returns-then-refusal-ne0
returns-then-refusal-ne0 c =
    let v = c.args in
    let there = sym c.is_one_or_two.ensures ∙ c.if-not-is_one_or_two.false in
    let t = those v.nodes.now v.rows.now there in
    let own = c.measure-own.result in
    let n = c.number_at-second_rows.result in
    let outcome : ℕ → prelude.Option ℕ → Outcome = λ (k : ℕ) (m : prelude.Option ℕ). cut_pair_outcome v.out_nodes.now v.out_rows.now k m v.stride (direction_of v.left) (read v.nodes.now v.rows.now) in
    let d = turned_down _ (get_or v.nodes.now 0 0) v.max_length (second_of (ltb (own.nodes * node_width) (length v.nodes.now)) n) (lengths v.nodes.now own n v.max_length v.strategy) (pair_lengths_keep _ _ _ _).each c.noddrefyr_pair_lengths-refusal.ensures.crosses c.if-refusal-ne0.true in
    let e = cut v.nodes.now v.rows.now there own (c.measure-own.ensures _ (here_stands (first_here t.1 t.2))) v.out_nodes.now v.out_rows.now v.max_length v.stride v.strategy v.left n c.number_at-second_rows.ensures in
    writes_out (writes_refused d.why (e ∙ ap (cut_to outcome) d.is) d.leaves refl refl refl) d.number refl

pub returns : goal.returns
returns c =
    let v = c.args in
    let there = sym c.is_one_or_two.ensures ∙ c.if-not-is_one_or_two.false in
    let t = those v.nodes.now v.rows.now there in
    let own = c.measure-own.result in
    let n = c.number_at-second_rows.result in
    let outcome : ℕ → prelude.Option ℕ → Outcome = λ (k : ℕ) (m : prelude.Option ℕ). cut_pair_outcome v.out_nodes.now v.out_rows.now k m v.stride (direction_of v.left) (read v.nodes.now v.rows.now) in
    let h = handed_over _ (get_or v.nodes.now 0 0) v.max_length (ltb (own.nodes * node_width) (length v.nodes.now)) n (lengths v.nodes.now own n v.max_length v.strategy) outcome (pair_lengths_keep _ _ _ _).each c.noddrefyr_pair_lengths-refusal.ensures.crosses c.if-refusal-ne0.false in
    let e = cut v.nodes.now v.rows.now there own (c.measure-own.ensures _ (here_stands (first_here t.1 t.2))) v.out_nodes.now v.out_rows.now v.max_length v.stride v.strategy v.left n c.number_at-second_rows.ensures in
    rw (e, h) c.noddrefyr_cut_pair.ensures
