-- Both templates, by the answer of each. Assumes nothing.
use mathlib.Core.Path.{◌≡◌, sym, ◌∙◌}
use mathlib.Core.Bool.{Bool, true, false, ◌&&◌}
use Prim.Native.Nat.{ℕ}
use native.Mathlib.Omega.{arith}
use mathlib.Core.List.{List}
use Rattle.record.specs.Read.{all_ok}
use Rattle.record.specs.declared.Refusal.{Refusal}
use Rattle.template_known.specs.Known.{known, known_answer}
use Rattle.template_known.specs.Promises.{KnownIn, KnownBoth}
use Rattle.std.specs.Prelude.{Result, Ok, Err}

module _ {single pair entries added : List ℕ} {answer : Result (Unit {0}) Refusal} (first : KnownIn single entries added answer) where
  pub both_first : {why : Refusal} → answer ≡ Err why → KnownBoth single pair entries added (Err why)
  unfolding known_answer
  both_first {why} e = record { says = λ members table s p t rs rp. go (all_ok (known table) s) (all_ok (known table) p) (sym e ∙ first.says members table s t rs) }
    where
      go : (a b : Bool) → Err why ≡ known_answer a → Err why ≡ known_answer (a && b)
      go true b is = let z : ◌≡◌ {A = ℕ} 0 1 = cc in absurd (omega arith)
      go false b is = is

  pub both_second : {u : Unit {0}} → answer ≡ Ok u → {answer' : Result (Unit {0}) Refusal} → KnownIn pair entries added answer' → KnownBoth single pair entries added answer'
  unfolding known_answer
  both_second {u} e {answer'} second = record { says = λ members table s p t rs rp. go (all_ok (known table) s) (all_ok (known table) p) (first.says members table s t rs) (second.says members table p t rp) }
    where
      go : (a b : Bool) → answer ≡ known_answer a → answer' ≡ known_answer b → answer' ≡ known_answer (a && b)
      go true b is more = more
      go false b is more = let z : ◌≡◌ {A = ℕ} 0 1 = cc in absurd (omega arith)
