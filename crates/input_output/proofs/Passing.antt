-- The two errors that pass, and that no other does. A signed number is held by its bits. Assumes nothing.
use mathlib.Core.Path.{◌≡◌, refl, sym, ap, ◌∙◌}
use mathlib.Core.Bool.{false}
use Prim.Native.Nat.{ℕ}
use lib.IntN.{ℤ, pos, negsuc}
use borrow.Author.Tests.{ne_eqb}
use mir.Facts.{to_z-of_z}
use mir.Syntax.{w32}
use mir.Val.{SFits, of_z, to_z}
use Rattle.input_output.specs.Passing.{passes}

pub passes_bits : {error : ℤ} (bits : ℕ) → SFits w32 error → of_z w32 error ≡ bits → passes (to_z w32 bits) ≡ passes error
passes_bits bits fits e = ap passes (ap (to_z w32) (sym e) ∙ to_z-of_z fits)

pub passes_not : (error : ℤ) → (of_z w32 error ≡ 4 → ⊥) → (of_z w32 error ≡ 11 → ⊥) → false ≡ passes error
passes_not (pos n) not_4 not_11 =
    rw (ne_eqb n 4 (λ e. not_4 (ap (λ k. of_z w32 (pos k)) e)), ne_eqb n 11 (λ e. not_11 (ap (λ k. of_z w32 (pos k)) e)))
passes_not (negsuc n) not_4 not_11 = refl
