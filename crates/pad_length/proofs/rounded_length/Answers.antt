-- `rounded_length` rounds by the remainder, which it works out once, and stops at the largest number. Assumes nothing.
use mathlib.Core.Path.{◌≡◌, ap, ◌∙◌}
use Prim.Native.Nat.{min}
use native.Mathlib.Nat.{mod-lt, pos_of_ne-zero}
use native.Mathlib.Omega.{arith}
use Rattle.pad_length.specs.Rounding.{rounded_up, largest_u64}
use Rattle.pad_length.proofs.Rounding.{rounded_none, rounded_whole, rounded_over, rounded_length}
use Rattle.pad_length.proofs.rounded_length.Goals as goal

-- The second promise follows from the first.

pub returns-then-multiple-eq0 : goal.returns-then-multiple-eq0
returns-then-multiple-eq0 c =
    let v = c.args in
    let e : v.length ≡ min (rounded_up v.length v.multiple) largest_u64 = omega (arith, ap (rounded_up v.length) c.if-multiple-eq0.true ∙ rounded_none v.length) in
    record { value = e; least = rounded_length (omega arith) e }

pub returns-then-over-eq0 : goal.returns-then-over-eq0
returns-then-over-eq0 c =
    let v = c.args in
    let e : v.length ≡ min (rounded_up v.length v.multiple) largest_u64 = omega (arith, rounded_whole v.length v.multiple (pos_of_ne-zero c.if-multiple-eq0.false) c.if-over-eq0.true) in
    record { value = e; least = rounded_length (omega arith) e }

pub overflow_sub-missing : goal.overflow_sub-missing
overflow_sub-missing c = omega (arith, mod-lt c.args.length (pos_of_ne-zero c.if-multiple-eq0.false))

pub returns : goal.returns
returns c =
    let v = c.args in
    let over = rounded_over v.length v.multiple (pos_of_ne-zero c.if-multiple-eq0.false) c.if-over-eq0.false in
    let e : c.saturating_add.result ≡ min (rounded_up v.length v.multiple) largest_u64 = omega (arith, c.saturating_add.ensures, over) in
    record { value = e; least = rounded_length (omega arith) e }
