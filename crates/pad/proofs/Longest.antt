-- A batch padded to its longest encoding: every encoding at the top then has the same length.
-- Assumes nothing.
use mathlib.Core.Path.{◌≡◌, sym, subst}
use mathlib.Core.Logic.{⊎_elim}
use Prim.Native.Nat.{ℕ, suc, ◌≤◌, ◌<◌}
use native.Mathlib.Omega.{arith}
use lib.ListN.{length, get_or}
use Rattle.record.specs.Tree.{Forest, none, node, Encoding, listed, empty, tops}
use Rattle.lists.specs.Lists.{All}
use Rattle.lists.proofs.All.{all_imp, all_map}
use Rattle.cut_plan.specs.declared.Direction.{Direction}
use Rattle.lists.proofs.Numbers.{either}
use Rattle.pad_rows.specs.declared.PadToken.{PadToken}
use Rattle.pad_write.specs.Padded.{padded}
use Rattle.pad_write.proofs.Laws.{padded_length, padded_encoding, padded_listed}
use Rattle.pad_length.specs.declared.PaddingStrategy.TheVariants.{BatchLongest}
use Rattle.pad_length.specs.Target.{longest, target_of}
use Rattle.pad_length.proofs.Rounding.{rounded_not_below}

-- no encoding at the top is longer
pub longest_above : (f : Forest) → All (λ E. length E.rows ≤ longest f) (listed f)
longest_above none = tt
longest_above (node r q w x) = (omega arith, all_imp (listed x) (λ (E : Encoding) (h : length E.rows ≤ longest x). omega arith) (longest_above x))

-- and one is as long, if any has rows
pub record Reached (f : Forest) : Type 0 where
  pub number : ℕ
  pub within : number < tops f
  pub as_long : length (get_or (listed f) number empty).rows ≡ longest f

pub longest_reached : (f : Forest) → 0 < longest f → Reached f
longest_reached none h = absurd (omega arith)
longest_reached (node r q w x) h =
    ⊎_elim (λ l. record { number = 0; within = omega arith; as_long = omega arith })
    (λ l. let t = longest_reached x (omega arith) in record { number = suc t.number; within = omega (arith, t.within); as_long = omega (arith, t.as_long) })
    (either (longest x) (length r))

-- so padded to the longest, rounded up, they all have that length
pub longest_level : (multiple : ℕ) (token : PadToken) (d : Direction) (f : Forest) → All (λ E. length E.rows ≡ target_of BatchLongest multiple f) (listed (padded (target_of BatchLongest multiple f) token d f))
longest_level multiple token d f =
    let t = target_of BatchLongest multiple f in
    subst (All (λ E. length E.rows ≡ t)) (sym (padded_listed t token d f))
    (all_map (λ E. length E.rows ≤ longest f) (λ E. length E.rows ≡ t) (padded_encoding t token d) (listed f)
    (λ (E : Encoding) (h : length E.rows ≤ longest f). omega (arith, padded_length t token d E.rows, rounded_not_below (longest f) multiple))
    (longest_above f))
