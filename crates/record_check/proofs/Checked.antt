-- What the check of a batch shows.
-- Assumes nothing.
use mathlib.Core.Path.{◌≡◌, refl}
use Prim.Native.Nat.{ℕ}
use native.Mathlib.Omega.{arith}
use mathlib.Core.List.{List}
use Rattle.record.specs.Tree.{Forest, tops}
use Rattle.record.specs.WellFormed.{Stores}
use Rattle.record.specs.Read.{Reading, malformed, holds, read, of_any}
use Rattle.record.proofs.Read.{found, stored}
use Rattle.record_check.specs.Answers.{shape_of}
use Rattle.record.specs.declared.Refusal.{Refusal}
use Rattle.record.specs.declared.Refusal.TheVariants.{MalformedRecord}
use Rattle.std.specs.Prelude.{Ok, Err}

-- refused, it is with 1
pub refused_as : (r : Reading) {why : Refusal} → shape_of r ≡ Err why → why ≡ MalformedRecord
refused_as malformed e = cc
refused_as (holds f) e = cc

-- refused, any operation on any batch answers its refusal
pub none_of : {A : Type 0} (otherwise : A) (k : Forest → A) (r : Reading) {why : Refusal} → shape_of r ≡ Err why → of_any otherwise k r ≡ otherwise
unfolding of_any
none_of otherwise k malformed e = refl
none_of otherwise k (holds f) e = absurd (let z : ◌≡◌ {A = ℕ} 0 1 = cc in omega arith)

-- passed, the two lists store encodings, as many as are told
pub batch_there : (nodes rows : List ℕ) (n : ℕ) → shape_of (read nodes rows) ≡ Ok n → (f : Forest) × Stores nodes rows f × (n ≡ tops f)
batch_there nodes rows n e = go (read nodes rows) refl e
  where
    go : (r : Reading) → read nodes rows ≡ r → shape_of r ≡ Ok n → (f : Forest) × Stores nodes rows f × (n ≡ tops f)
    go malformed s e = absurd (let z : ◌≡◌ {A = ℕ} 0 1 = cc in omega arith)
    go (holds f) s e = (f, stored nodes rows f s, (cc))

pub any_there : (nodes rows : List ℕ) (n : ℕ) → shape_of (read nodes rows) ≡ Ok n → (f : Forest) × Stores nodes rows f
any_there nodes rows n e = let there = batch_there nodes rows n e in (there.0, there.1)

-- and an operation answers what it says of those
pub any_of : {A : Type 0} {nodes rows : List ℕ} {f : Forest} (otherwise : A) (k : Forest → A) → Stores nodes rows f → of_any otherwise k (read nodes rows) ≡ k f
unfolding of_any
any_of {A} {nodes} {rows} {f} otherwise k s = rw (found nodes rows f s)
