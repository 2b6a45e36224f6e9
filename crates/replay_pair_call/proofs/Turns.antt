-- From the numbers of the first call to what the second is to be handed. Assumes nothing.
use mathlib.Core.Path.{◌≡◌, refl, sym, ap, ◌∙◌}
use mathlib.Core.Bool.{Bool, true, false, cond}
use mathlib.Core.Option as maybe
use Prim.Native.Nat.{ℕ}
use mathlib.Core.List.{List}
use lib.Dec.{ltb, eqb}
use lib.ListN.{length, get_or}
use Rattle.std.specs.Prelude.{Option, Some, None, Result, Ok, Err, option_map}
use Rattle.record.specs.Tree.{Encoding}
use Rattle.record.specs.Read.{Reading, read, is_one_or_two}
use Rattle.record.specs.Refusals.{number_of}
use Rattle.record.specs.Standing.{OneOrTwo}
use Rattle.record.specs.Outcome.{Outcome, refused}
use Rattle.record.specs.declared.Refusal.{Refusal}
use Rattle.record.specs.declared.Refusal.TheVariants.{MalformedRecord}
use Rattle.record.proofs.OneOrTwo.{one_or_two_of, not_one_or_two}
use Rattle.cut_plan.specs.declared.Direction.{Direction}
use Rattle.cut_lengths.specs.Lengths.{rows_of_second}
use Rattle.cut_lengths.proofs.Sum.{not_zero, not_six}
use Rattle.cut_lengths.specs.declared.Strategy.{Strategy}
use Rattle.pair_lengths.specs.Lengths.{pair_lengths, length_numbers}
use Rattle.pair_lengths.specs.Keeps.{SecondKeeps, EachKeeps}
use Rattle.pair_lengths.specs.declared.Length.{Length}
use Rattle.pair_lengths.specs.declared.PairLengths.{PairLengths}
use Rattle.truncate_pair.specs.CutPair.{cut_pair_outcome}
use Rattle.truncate_pair.specs.Promises.{second_rows_at}
use Rattle.truncate_in_turn.specs.TruncatePair.{truncate_pair_outcome}
use Rattle.truncate_in_turn.specs.InTurn.{cut_to, both_in_turn}
use Rattle.truncate_in_turn.proofs.InTurn.{in_turn}
use Rattle.c_crossing.specs.Crossing.{Crosses}
use Rattle.c_lengths.specs.Pair.{second_of, lengths_crossed}
use Rattle.c_cut.specs.Options.{second_length_of}

-- ---- Numbers that crossed

-- lengths that are refused
pub record TurnedDown (l : Result PairLengths Refusal) (r : ℕ) : Type 0 where
  pub why : Refusal
  pub is : l ≡ Err why
  pub number : r ≡ number_of why
  pub leaves : eqb (number_of why) 6 ≡ false

module _ (was : List ℕ) {numbers : List ℕ} {r : ℕ} (first most : ℕ) where
  pub turned_down : (second : Option ℕ) (l : Result PairLengths Refusal) → EachKeeps first second most l → Crosses (lengths_crossed was l) r numbers → (r ≡ 0 → ⊥) → TurnedDown l r
  turned_down second (Err k) h x z = record { why = k; is = refl; number = x.refusal_is; leaves = not_six h }
  turned_down second (Ok l) h x z = absurd (z x.refusal_is)

  -- lengths that are given: a second that there is has the second of them, one that is missing none
  pub handed_over : (has : Bool) (n : ℕ) (l : Result PairLengths Refusal) (cut : ℕ → Option ℕ → Outcome) → EachKeeps first (second_of has n) most l → Crosses (lengths_crossed was l) r numbers → r ≡ 0 → cut_to cut l ≡ cut (get_or numbers 1 0) (second_length_of has (get_or numbers 3 0))
  handed_over has n (Err k) cut h x z = absurd (not_zero h (sym x.refusal_is ∙ z))
  handed_over has n (Ok l) cut h x z = rw x.numbers_are (go has l.second h.1)
    where
      go : (has : Bool) (other : Option Length) → SecondKeeps (second_of has n) other →
          cut l.first.kept (option_map (λ m. m.kept) other) ≡ cut l.first.kept (second_length_of has (get_or (length_numbers other) 1 0))
      go true None k = absurd k
      go true (Some m) k = refl
      go false None k = refl
      go false (Some m) k = absurd k

-- ---- Of a batch

pub pair_malformed : (out out' : List ℕ) (most stride : ℕ) (s : Strategy) (d : Direction) (r : Reading) → is_one_or_two r ≡ false → truncate_pair_outcome out out' most stride s d r ≡ refused MalformedRecord
unfolding truncate_pair_outcome
pair_malformed out out' most stride s d r e = not_one_or_two (refused MalformedRecord) _ r e

-- the second as it is handed over: whether there is a node at place i, and the number there
pub handed_second : (nodes : List ℕ) (i : ℕ) {n : ℕ} → n ≡ get_or nodes i 0 → second_of (ltb i (length nodes)) n ≡ second_rows_at nodes i
handed_second nodes i {n} e = go (ltb i (length nodes))
  where
    go : (b : Bool) → second_of b n ≡ cond b (Some (get_or nodes i 0)) None
    go true = ap Some e
    go false = refl

-- document 01's pair cut is the cut to the lengths of the encodings that there are
pub pair_cut : {nodes rows : List ℕ} {E : Encoding} {second : maybe.Option Encoding} → OneOrTwo nodes rows E second → (out out' : List ℕ) (most stride : ℕ) (s : Strategy) (d : Direction) {first : ℕ} {other : Option ℕ} → first ≡ length E.rows → other ≡ rows_of_second second →
    truncate_pair_outcome out out' most stride s d (read nodes rows) ≡ cut_to (λ n m. cut_pair_outcome out out' n m stride d (read nodes rows)) (pair_lengths first other most s)
unfolding both_in_turn
pair_cut {nodes} {rows} h out out' most stride s d e f = rw (e, f) (sym (in_turn out out' most stride s d (read nodes rows)) ∙ one_or_two_of (refused MalformedRecord) _ h)
