-- Counting byte by byte within a block, and block by block within a text. Assumes nothing.
use mathlib.Core.Path.{◌≡◌}
use mathlib.Core.Bool.{Bool, true, false, cond}
use Prim.Native.Nat.{ℕ, suc, ◌+◌, ◌-◌, ◌≤◌, ◌<◌}
use native.Mathlib.Numerals.{add-one}
use native.Mathlib.Omega.{arith}
use mathlib.Core.List.{List, ◌∷◌}
use lib.ListN.{length, get_or, take, drop, drop_of_length-le, length-take}
use lib.Seq.{drop-cons}
use Rattle.chars_text.specs.Utf8.{tail}
use Rattle.chars_text.specs.Characters.{starts}
use Rattle.chars_text.proofs.Starts.{starts_between, starts_few}
use Rattle.chars_count.specs.Promises.{start_of}

starts_first : (byte : ℕ) (text : List ℕ) → starts (byte ∷ text) ≡ start_of byte + starts text
unfolding starts
starts_first byte text = go (tail byte)
  where
    go : (t : Bool) → cond t (starts text) (suc (starts text)) ≡ cond t 0 1 + starts text
    go true = omega arith
    go false = omega arith

pub start_few : (byte : ℕ) → start_of byte ≤ 1
start_few byte = go (tail byte)
  where
    go : (t : Bool) → cond t 0 1 ≤ 1
    go true = omega arith
    go false = omega arith

-- ---- Within a block

-- The count of the bytes passed and of the rest is that of all.
pub record Counting (block : List ℕ) (i count : ℕ) : Type 0 where
  pub inside : i ≤ length block
  pub few : count ≤ i
  pub all : count + starts (drop i block) ≡ starts block

pub counting_start : (block : List ℕ) → Counting block 0 0
counting_start block = record { inside = omega arith; few = omega arith; all = omega arith }

module _ {block : List ℕ} {i count : ℕ} (k : Counting block i count) where
  pub counting_next : (one : ℕ) → one ≡ start_of (get_or block i 0) → i < length block → Counting block (i + 1) (count + one)
  counting_next one e h =
      let step : starts (drop i block) ≡ start_of (get_or block i 0) + starts (drop (i + 1) block) = rw (add-one, drop-cons block i 0 h) (starts_first (get_or block i 0) (drop (suc i) block)) in
      record { inside = omega arith; few = omega (arith, k.few, start_few (get_or block i 0), e); all = omega (arith, k.all, step, e) }

  pub counting_end : length block ≤ i → count ≡ starts block
  unfolding starts
  counting_end h =
      let rest : starts (drop i block) ≡ 0 = rw (drop_of_length-le block h) in
      omega (arith, k.all, rest)

-- ---- Within a text

-- The count is that from the first place up to here.
pub record Adding (text : List ℕ) (from to at count : ℕ) : Type 0 where
  pub onward : from ≤ at
  pub inside : at ≤ to
  pub all : count ≡ starts (take (at - from) (drop from text))

pub adding_start : (text : List ℕ) (from to : ℕ) → from ≤ to → Adding text from to from 0
unfolding starts
adding_start text from to h =
    let none : from - from ≡ 0 = omega arith in
    record { onward = omega arith; inside = h; all = rw none }

module _ {text : List ℕ} {from to at count : ℕ} (a : Adding text from to at count) where
  -- what is counted so far is no more than the bytes passed
  pub adding_few : count ≤ at
  adding_few = omega (arith, a.all, starts_few (take (at - from) (drop from text)), length-take (at - from) (drop from text), a.onward)

  pub adding_more : (end more : ℕ) → at ≤ end → end ≤ to → more ≡ starts (take (end - at) (drop at text)) → Adding text from to end (count + more)
  adding_more end more onward inside e =
      record {
        onward = omega (arith, a.onward);
        inside = inside;
        all = omega (arith, a.all, e, starts_between text from at end a.onward onward);
      }

  -- and of what is left
  pub adding_end : (more : ℕ) → more ≡ starts (take (to - at) (drop at text)) → count + more ≡ starts (take (to - from) (drop from text))
  adding_end more e = (adding_more to more a.inside (omega arith) e).all
