-- The place after a number lies behind the place where it starts: what a caller's loop over numbers ends by. Assumes nothing.
use Prim.Native.Nat.{ℕ, ◌+◌, ◌<◌}
use mathlib.Core.Path.{◌≡◌, refl, ap}
use mathlib.Core.Bool.{Bool, true, false}
use mathlib.Core.List.{List}
use lib.ListN.{length, drop}
use lib.Dec.{leb}
use borrow.Author.Tests.{leb-true}
use native.Mathlib.Omega.{arith}
use Rattle.std.specs.Prelude.{Some, None}
use Rattle.lines.specs.declared.Number.{Number}
use Rattle.lines.specs.Decimal.{both, digits_fit, pick_number, number_at, digits_of, decimal}

both_first : (a b : Bool) → both a b ≡ true → a ≡ true
both_first true b e = refl
both_first false b e = e

moves_by : (at count value v next : ℕ) (b : Bool) → digits_fit count value ≡ b
    → pick_number b (Some (record { value = value; next = at + count })) None ≡ Some (record { value = v; next = next }) → at < next
moves_by at count value v next true some e =
    let same : ◌≡◌ {A = Number} (record { value = value; next = at + count }) (record { value = v; next = next }) = cc in
    let place : at + count ≡ next = ap (λ (n : Number). n.next) same in
    omega (arith, leb-true 1 count (both_first (leb 1 count) _ some))
moves_by at count value v next false some e = let z : ◌≡◌ {A = ℕ} 0 1 = cc in absurd (omega arith)

pub number_moves : (bytes : List ℕ) (at v next : ℕ) → number_at bytes at ≡ Some (record { value = v; next = next }) → at < next
number_moves bytes at v next e =
    moves_by at (length (digits_of (drop at bytes))) (decimal (digits_of (drop at bytes))) v next _ refl e
