-- What `char_to_token` finds: a row of the range asked that holds the place, and none before it in the range does; and that
-- it finds nothing only if no row of the range holds the place.
-- Assumes nothing.
use mathlib.Core.Path.{◌≡◌, sym, ap, ◌∙◌}
use Prim.Native.Nat.{ℕ, ◌+◌, ◌-◌, ◌≤◌, ◌<◌}
use native.Mathlib.Omega.{arith}
use mathlib.Core.Bool.{true, false}
use mathlib.Core.Option.{none as nothing, some}
use mathlib.Core.List.{List}
use lib.ListN.{get_or}
use Rattle.record.specs.Tree.{Encoding}
use Rattle.record.specs.Standing.{One}
use Rattle.lookup_ranges.specs.Ranges.{sequence_range}
use Rattle.lookup_ranges.proofs.First.{first_found, first_is, first_nothing}
use Rattle.lookup_search.proofs.Stored.{no_row}
use Rattle.lookup_search.specs.Searches.{in_range, holds_place}
use Rattle.lookup_chars.specs.Chars.{char_to_token}
use Rattle.lookup_search.proofs.InRange.{the_row, length_in_range, at}

-- Row k is in the range of the sequence and holds the place, and none before it in the range does.
pub record TokenFound (E : Encoding) (place id k : ℕ) : Type 0 where
  pub from : (sequence_range E id).start ≤ k
  pub to : k < (sequence_range E id).end
  pub holds : holds_place place (the_row E k) ≡ true
  pub none_before : (j : ℕ) → (sequence_range E id).start ≤ j → j < k → holds_place place (the_row E j) ≡ false

module _ {nodes rows : List ℕ} {E : Encoding} (one : One nodes rows E) (id : ℕ) where
  pub char_found : (place k : ℕ) → char_to_token E place id ≡ some k → TokenFound E place id k
  unfolding char_to_token
  char_found place k e =
      let f = first_found (holds_place place) no_row _ (in_range E id) k e in
      let to : k < (sequence_range E id).end = omega (arith, f.from, f.inside, length_in_range one id) in
      record {
        from = f.from;
        to = to;
        holds = ap (holds_place place) (sym (at one id k f.from to)) ∙ f.holds;
        none_before = λ j a b. ap (holds_place place) (sym (at one id j a (omega arith))) ∙ f.none_before (j - (sequence_range E id).start) (omega (arith, f.from));
      }

  pub char_is : (place k : ℕ) → TokenFound E place id k → char_to_token E place id ≡ some k
  unfolding char_to_token
  char_is place k f =
      first_is (holds_place place) no_row _ (in_range E id) k
      (record {
        from = f.from;
        inside = omega (arith, f.from, f.to, length_in_range one id);
        holds = ap (holds_place place) (at one id k f.from f.to) ∙ f.holds;
        none_before = λ j h.
            let z : (sequence_range E id).start + j - (sequence_range E id).start ≡ j = omega arith in
            ap (λ (m : ℕ). holds_place place (get_or (in_range E id) m no_row)) (sym z)
            ∙ ap (holds_place place) (at one id ((sequence_range E id).start + j) (omega arith) (omega (arith, f.from, f.to)))
            ∙ f.none_before ((sequence_range E id).start + j) (omega arith) (omega (arith, f.from));
      })

  -- nothing is found only if no row of the range holds the place
  pub char_nothing : (place : ℕ) → char_to_token E place id ≡ nothing → (j : ℕ) → (sequence_range E id).start ≤ j → j < (sequence_range E id).end → holds_place place (the_row E j) ≡ false
  unfolding char_to_token
  char_nothing place e j a b = ap (holds_place place) (sym (at one id j a b)) ∙ first_nothing (holds_place place) no_row _ (in_range E id) e (j - (sequence_range E id).start) (omega (arith, length_in_range one id))
