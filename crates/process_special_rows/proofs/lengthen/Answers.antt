-- `lengthen` goes through the nodes in the order in which they stand, each with its rows. Assumes nothing.
use mathlib.Core.Path.{◌≡◌, refl}
use Prim.Native.Nat.{ℕ, ◌+◌, ◌*◌, ◌<◌}
use Rattle.record.specs.Flat.{node_width}
use native.Mathlib.Omega.{arith}
use mathlib.Core.List.{List}
use lib.ListN.{length, get_or, length-set}
use Rattle.process_special_rows.specs.Lengthened.{special_rows}
use Rattle.process_special_rows.specs.Promises.{AskLengthened}
use Rattle.process_special_rows.proofs.Specials.{specials_number}
use Rattle.process_special_rows.proofs.Lengthening.{Lengthening, lengthening_kept, Turn, lengthening_turn, lengthening_on, lengthening_end}
use Rattle.process_special_rows.proofs.lengthen.Goals as goal

-- what a turn reads is there, and what it writes has room
turn_of : {members nodes rows out nodes₁ out₁ : List ℕ} {first count t i from to : ℕ} (a : AskLengthened members first count t nodes rows out) (g : Lengthening (special_rows members first count t) rows out a.f nodes₁ out₁ i from to)
    → i < length nodes₁ → Turn (special_rows members first count t) g (get_or nodes₁ i 0) count
turn_of {members} {first = first} {count = count} {t = t} a g l = lengthening_turn _ g (specials_number members first t count a.among) l a.few_rows a.fits

-- the next node stands a node's width on
next : (n : ℕ) → n * node_width + node_width ≡ (n + 1) * node_width
next n = omega arith

pub copy-requires : goal.copy-requires
copy-requires c =
    let a = c.requires in
    let g = c.loop-n.invariant.0 a.f a.stores in
    let turn = turn_of a g (omega (arith, c.loop-n-test.true, c.loop-n.invariant.1)) in
    (omega (arith, turn.rows_stand), omega (arith, turn.rows_fit, lengthening_kept _ g))

pub overflow_add-to : goal.overflow_add-to
overflow_add-to c = let a = c.requires in omega (arith, (turn_of a (c.loop-n.invariant.0 a.f a.stores) (omega (arith, c.loop-n-test.true, c.loop-n.invariant.1))).rows_fit)

pub write_specials-requires : goal.write_specials-requires
write_specials-requires c =
    let a = c.requires in
    let g = c.loop-n.invariant.0 a.f a.stores in
    (a.among, omega (arith, (turn_of a g (omega (arith, c.loop-n-test.true, c.loop-n.invariant.1))).rows_fit, c.copy.auto.dst, lengthening_kept _ g))

pub overflow_cast-nodes : goal.overflow_cast-nodes
overflow_cast-nodes c = let a = c.requires in omega (arith, (turn_of a (c.loop-n.invariant.0 a.f a.stores) (omega (arith, c.loop-n-test.true, c.loop-n.invariant.1))).few)

pub overflow_add-nodes : goal.overflow_add-nodes
overflow_add-nodes c = let a = c.requires in omega (arith, (turn_of a (c.loop-n.invariant.0 a.f a.stores) (omega (arith, c.loop-n-test.true, c.loop-n.invariant.1))).few)

pub overflow_add-to-in-loop-n-2 : goal.overflow_add-to-in-loop-n-2
overflow_add-to-in-loop-n-2 c = let a = c.requires in omega (arith, (turn_of a (c.loop-n.invariant.0 a.f a.stores) (omega (arith, c.loop-n-test.true, c.loop-n.invariant.1))).rows_fit)

pub loop-n-preserved : goal.loop-n-preserved
loop-n-preserved c =
    let counted = specials_number c.args.members.now c.args.first c.args.type_id c.args.count c.requires.among in
    (λ f h. rw (← next c.loop-n.n) (lengthening_on _ (c.loop-n.invariant.0 f h) counted (omega (arith, c.loop-n-test.true, c.loop-n.invariant.1)) refl refl c.copy.ensures c.write_specials.ensures), simp length-set c.loop-n.invariant.1)

pub returns : goal.returns
returns c = λ f h. lengthening_end _ (c.loop-n.invariant.0 f h) (omega (arith, c.loop-n-test.false, c.loop-n.invariant.1))
