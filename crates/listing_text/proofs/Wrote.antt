-- Texts written one after another.
-- Assumes nothing.
use mathlib.Core.Path.{◌≡◌, ap, ap₂, ◌∙◌, subst}
use Prim.Native.Nat.{ℕ, ◌≤◌}
use native.Mathlib.Omega.{arith}
use mathlib.Core.List.{List, ◌++◌}
use lib.ListN.{length, take, length-append}
use lib.Seq.{sets, length-sets}
use Rattle.lists.proofs.Sets.{sets_append}
use Rattle.lists.proofs.Written.{taken_back}
use Rattle.listing_text.specs.Promises.{WroteText}

pub wrote_then : {xs ys out₀ out₁ out₂ : List ℕ} {at next last : ℕ} → WroteText xs out₀ at next out₁ → WroteText ys out₁ next last out₂ → WroteText (xs ++ ys) out₀ at last out₂
wrote_then {xs} {ys} {out₀} {out₁} {out₂} {at} {next} {last} v w =
    record {
      put = w.put ∙ ap₂ (λ (l : List ℕ) (i : ℕ). sets l i ys) v.put v.ends ∙ sets_append out₀ at xs ys;
      ends = omega (arith, w.ends, v.ends, length-append xs ys);
    }

pub wrote_as : {xs ys out out' : List ℕ} {at next : ℕ} → xs ≡ ys → WroteText xs out at next out' → WroteText ys out at next out'
wrote_as {xs} {ys} {out} {out'} {at} {next} e w = subst (λ (t : List ℕ). WroteText t out at next out') e w

-- what is written leaves the length
pub wrote_long : {xs out out' : List ℕ} {at next : ℕ} → WroteText xs out at next out' → length out' ≡ length out
wrote_long {xs} {out} {out'} {at} {next} w = ap length w.put ∙ length-sets out at xs

-- what was written at the front is read there
pub wrote_front : {xs out out' : List ℕ} {next : ℕ} → WroteText xs out 0 next out' → length xs ≤ length out → take next out' ≡ xs
wrote_front {xs} {out} {out'} {next} w h =
    let long : length xs ≡ next = omega (arith, w.ends) in
    ap (take next) w.put ∙ taken_back out xs next h long
