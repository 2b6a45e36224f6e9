-- `write_number` writes the digits of the tenth part and then the last. Assumes nothing.
use mathlib.Core.Path.{◌≡◌, sym, ap, ◌∙◌}
use mathlib.Core.List.{[], ◌∷◌}
use Prim.Native.Nat.{ℕ, ◌≤◌, ◌<◌}
use native.Mathlib.Omega.{arith}
use lib.ListN.{length}
use Rattle.listing_text.specs.Text.{largest_long}
use Rattle.listing_text.proofs.Text.{last_of, long_one, long_more, long_longer}
use Rattle.listing_text.proofs.Wrote.{wrote_then, wrote_as, wrote_long}
use Rattle.listing_text.proofs.+write_number.Goals as goal

pub write_number-last-requires : goal.write_number-last-requires
write_number-last-requires t c =
    let more : 9 < c.args.value = omega arith in
    let largest : c.args.value ≤ largest_long = omega arith in
    (omega arith, omega (arith, long_longer c.args.value more largest))

pub write_byte-requires : goal.write_byte-requires
write_byte-requires t c =
    let more : 9 < c.args.value = omega arith in
    let largest : c.args.value ≤ largest_long = omega arith in
    omega (arith, c.write_number-last.ensures.ends, wrote_long c.write_number-last.ensures, long_longer c.args.value more largest)

pub returns-then-value-gt9 : goal.returns-then-value-gt9
returns-then-value-gt9 t c =
    let more : 9 < c.args.value = omega arith in
    let largest : c.args.value ≤ largest_long = omega arith in
    let last : (c.digit.result ∷ []) ≡ last_of c.args.value = ap (λ (x : ℕ). x ∷ []) c.digit.ensures in
    wrote_as (sym (long_more c.args.value more largest)) (wrote_then c.write_number-last.ensures (wrote_as last c.write_byte.ensures))

pub write_byte-requires-2 : goal.write_byte-requires-2
write_byte-requires-2 t c = omega (arith, ap length (long_one c.args.value (omega arith)))

pub returns : goal.returns
returns t c =
    let one = long_one c.args.value (omega arith) in
    wrote_as (ap (λ (x : ℕ). x ∷ []) c.digit-2.ensures ∙ sym one) c.write_byte-2.ensures
