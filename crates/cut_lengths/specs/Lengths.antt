-- How many rows each of a pair keeps (document 01, "Truncate pair": "the three strategies as written").
-- Assumes nothing: these are definitions.
use Rattle.std.specs.Prelude.{◌≡◌, cond, ◌⊎◌, ℕ, ◌+◌, ◌-◌, ◌/◌, ◌%◌, ◌<◌, max, leb, ltb, eqb, length, Option, Some, None, Result, Ok, Err}
use Rattle.std.proofs.Math.Option as maybe
use Rattle.record.specs.Tree.{Encoding}
use Rattle.record.specs.declared.Refusal.{Refusal}
use Rattle.record.specs.declared.Refusal.TheVariants.{SecondMissing, TooShort}
use Rattle.cut_lengths.specs.declared.Strategy.{Strategy}
use Rattle.cut_lengths.specs.declared.Strategy.TheVariants.{LongestFirst, OnlyFirst, OnlySecond}
use Rattle.cut_lengths.specs.declared.Kept.{Kept}

-- ---- The longest first

-- "n2 = max(n1, max_length − n1)", or n1 where that is above max_length: what is left beside n1 rows
abbrev pub left_beside : ℕ → ℕ → ℕ
left_beside n most = cond (ltb most n) n (max n (most - n))

-- "if n1 + n2 > max_length then n1 = max_length / 2, n2 = n1 + max_length % 2": n1 the shorter of the two
abbrev pub shorter_share : ℕ → ℕ → ℕ
shorter_share n most = cond (ltb most (n + left_beside n most)) (most / 2) n

abbrev pub longer_share : ℕ → ℕ → ℕ
longer_share n most = cond (ltb most (n + left_beside n most)) (most / 2 + most % 2) (left_beside n most)

-- ---- One encoding, and two

-- the rows kept of the only encoding, or of both
abbrev pub alone : ℕ → Kept
alone n = record { first = n; second = None }

abbrev pub pair_kept : ℕ → ℕ → Kept
pair_kept n m = record { first = n; second = Some m }

-- "5 if the target is no longer than what must go"; else it keeps the rest
abbrev pub shortened : ℕ → ℕ → (ℕ → Kept) → Result Kept Refusal
shortened target remove keep = cond (ltb remove target) (Ok (keep (target - remove))) (Err TooShort)

-- "Max length 0 truncates both to 0; a total within it changes nothing; then the three strategies as written."
-- "4 and 5 only if something must be removed and the max length is not 0"
abbrev pub cut_alone : Strategy → ℕ → ℕ → Result Kept Refusal
cut_alone LongestFirst first remove = Ok (alone (first - remove))
cut_alone OnlyFirst first remove = shortened first remove alone
cut_alone OnlySecond first remove = Err SecondMissing

unfoldable pub kept_alone : ℕ → ℕ → Strategy → Result Kept Refusal
kept_alone first most strategy = cond (eqb most 0) (Ok (alone 0)) (cond (leb first most) (Ok (alone first)) (cut_alone strategy first (first - most)))

abbrev pub cut_both : Strategy → ℕ → ℕ → ℕ → ℕ → Result Kept Refusal
cut_both LongestFirst first second most remove =
    cond (ltb second first) (Ok (pair_kept (longer_share second most) (shorter_share second most))) (Ok (pair_kept (shorter_share first most) (longer_share first most)))
cut_both OnlyFirst first second most remove = shortened first remove (λ n. pair_kept n second)
cut_both OnlySecond first second most remove = shortened second remove (pair_kept first)

unfoldable pub kept_both : ℕ → ℕ → ℕ → Strategy → Result Kept Refusal
kept_both first second most strategy =
    cond (eqb most 0) (Ok (pair_kept 0 0))
    (cond (leb (first + second) most) (Ok (pair_kept first second))
    (cut_both strategy first second most (first + second - most)))

abbrev pub kept_lengths : ℕ → Option ℕ → ℕ → Strategy → Result Kept Refusal
kept_lengths first None most strategy = kept_alone first most strategy
kept_lengths first (Some second) most strategy = kept_both first second most strategy

-- the row count of the second encoding, if there is one
abbrev pub rows_of_second : maybe.Option Encoding → Option ℕ
rows_of_second maybe.none = None
rows_of_second (maybe.some F) = Some (length F.rows)

-- ---- When they are refused

-- "4 and 5 only if something must be removed and the max length is not 0"
pub record TurnedAway (rows most : ℕ) (why : Refusal) : Type 0 where
  pub number : (why ≡ SecondMissing) ⊎ (why ≡ TooShort)
  pub removed : most < rows
  pub not_zero : 0 < most
