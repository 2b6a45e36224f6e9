-- `cut_pair` checks, finds whether there is a second, and cuts what there is. Assumes nothing.
use mathlib.Core.Path.{refl, sym, ◌∙◌}
use mathlib.Core.Option.{Option}
use native.Mathlib.Omega.{arith}
use mathlib.Core.List.{[], ◌∷◌}
use Rattle.record.specs.Tree.{Encoding, forest}
use Rattle.record.specs.Standing.{OneOrTwo}
use Rattle.record.specs.declared.Refusal.TheVariants.{MalformedRecord}
use Rattle.record.proofs.OneOrTwo.{one_or_two_there}
use Rattle.record.proofs.Outcome.{writes_refused}
use Rattle.record_extent.proofs.Stands.{here_stands}
use Rattle.record_extent.proofs.Pair.{first_here, few_held}
use Rattle.truncate_pair.proofs.Pair.{second_at}
use Rattle.truncate_pair.proofs.Cutting.{outcome_malformed, cut_alone_lem, cut_both_lem}
use Rattle.truncate_pair.proofs.cut_pair.Goals as goal

-- Past the first test there are one or two encodings, by `one_or_two_there`. What the first holds is measured, and the row count
-- of the second is found, if there is one.

pub returns-then-not-is_one_or_two : goal.returns-then-not-is_one_or_two
returns-then-not-is_one_or_two c = writes_refused MalformedRecord (outcome_malformed _ _ _ _ _ _ _ (sym c.is_one_or_two.ensures ∙ c.if-not-is_one_or_two.true)) refl refl refl refl

pub measure-own-requires : goal.measure-own-requires
measure-own-requires c =
    let t : (E : Encoding) × (second : Option Encoding) × OneOrTwo c.args.nodes.now c.args.rows.now E second = one_or_two_there _ _ (sym c.is_one_or_two.ensures ∙ c.if-not-is_one_or_two.false) in
    (forest (t.0 ∷ []), here_stands (first_here t.1 t.2))

pub overflow_mul-own : goal.overflow_mul-own
overflow_mul-own c =
    let t : (E : Encoding) × (second : Option Encoding) × OneOrTwo c.args.nodes.now c.args.rows.now E second = one_or_two_there _ _ (sym c.is_one_or_two.ensures ∙ c.if-not-is_one_or_two.false) in
    let measured = c.measure-own.ensures _ (here_stands (first_here t.1 t.2)) in
    omega (arith, (few_held (first_here t.1 t.2) measured).0)

pub cut_one-requires : goal.cut_one-requires
cut_one-requires c =
    let v = c.args in
    let t : (E : Encoding) × (second : Option Encoding) × OneOrTwo c.args.nodes.now c.args.rows.now E second = one_or_two_there _ _ (sym c.is_one_or_two.ensures ∙ c.if-not-is_one_or_two.false) in
    let measured = c.measure-own.ensures _ (here_stands (first_here t.1 t.2)) in
    let found = c.second_rows-second.ensures ∙ second_at t.1 t.2 measured in
    let a = cut_alone_lem v.out_nodes.now v.out_rows.now v.first_length v.second_length v.stride v.direction t.1 t.2 (sym c.in-None.is ∙ found) in
    record { E = t.0; one = a.0; measured = measured }

pub cut_two-requires : goal.cut_two-requires
cut_two-requires c =
    let v = c.args in
    let t : (E : Encoding) × (second : Option Encoding) × OneOrTwo c.args.nodes.now c.args.rows.now E second = one_or_two_there _ _ (sym c.is_one_or_two.ensures ∙ c.if-not-is_one_or_two.false) in
    let measured = c.measure-own.ensures _ (here_stands (first_here t.1 t.2)) in
    let found = c.second_rows-second.ensures ∙ second_at t.1 t.2 measured in
    let a = cut_both_lem v.out_nodes.now v.out_rows.now v.first_length v.second_length v.stride v.direction t.1 t.2 _ (sym c.in-Some.is ∙ found) in
    (t.0, a.0, record { stored = a.1; measured = measured })

pub returns-in-None : goal.returns-in-None
returns-in-None c =
    let v = c.args in
    let t : (E : Encoding) × (second : Option Encoding) × OneOrTwo c.args.nodes.now c.args.rows.now E second = one_or_two_there _ _ (sym c.is_one_or_two.ensures ∙ c.if-not-is_one_or_two.false) in
    let measured = c.measure-own.ensures _ (here_stands (first_here t.1 t.2)) in
    let found = c.second_rows-second.ensures ∙ second_at t.1 t.2 measured in
    let a = cut_alone_lem v.out_nodes.now v.out_rows.now v.first_length v.second_length v.stride v.direction t.1 t.2 (sym c.in-None.is ∙ found) in
    rw a.1 (c.cut_one.ensures t.0 a.0 measured)

pub returns-in-Some : goal.returns-in-Some
returns-in-Some c =
    let v = c.args in
    let t : (E : Encoding) × (second : Option Encoding) × OneOrTwo c.args.nodes.now c.args.rows.now E second = one_or_two_there _ _ (sym c.is_one_or_two.ensures ∙ c.if-not-is_one_or_two.false) in
    let measured = c.measure-own.ensures _ (here_stands (first_here t.1 t.2)) in
    let found = c.second_rows-second.ensures ∙ second_at t.1 t.2 measured in
    let a = cut_both_lem v.out_nodes.now v.out_rows.now v.first_length v.second_length v.stride v.direction t.1 t.2 _ (sym c.in-Some.is ∙ found) in
    rw (a.2, ← c.unwrap_or.ensures) (c.cut_two.ensures t.0 a.0 (record { stored = a.1; measured = measured }))
