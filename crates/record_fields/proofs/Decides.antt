-- What a test's answer shows of the fact that it decides. Assumes nothing.
use Rattle.std.proofs.Common.{◌≡◌, Bool, true, false, subst}
use Rattle.lists.specs.Lists.{Decides}

pub decided : (b : Bool) (P : Type 0) → b ≡ true → Decides b P → P
decided b P e h = subst (λ (b : Bool). Decides b P) e h

pub refuted : (b : Bool) (P : Type 0) → b ≡ false → Decides b P → P → ⊥
refuted b P e h = subst (λ (b : Bool). Decides b P) e h

-- what decides P decides Q too, where they say the same
pub decides_also : {P Q : Type 0} (b : Bool) → (P → Q) → (Q → P) → Decides b P → Decides b Q
decides_also true f g h = f h
decides_also false f g h = λ q. h (g q)
