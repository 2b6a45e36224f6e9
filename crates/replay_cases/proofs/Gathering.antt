-- A line's numbers that are being gathered: what holds after each, and the answer at each way out. Assumes nothing.
use Prim.Native.Nat.{ℕ, zero, suc, ◌+◌, ◌-◌, ◌≤◌, ◌<◌}
use mathlib.Core.Path.{◌≡◌, refl, ap, sym, ◌∙◌}
use mathlib.Core.List.{List, [], ◌∷◌, ◌++◌, append-nil}
use lib.ListN.{length, get_or, take, set, length-append, length-set}
use lib.Seq.{append_snoc, take-suc-set, length-take-le}
use borrow.Author.Tests.{le-leb, lt-leb, eq-eqb, ne_eqb}
use native.Mathlib.Numerals.{add-one}
use native.Mathlib.Omega.{arith}
use Rattle.lines.specs.Decimal.{number_at}
use Rattle.std.specs.Prelude.{Some, None}
use Rattle.lines.proofs.Moves.{number_moves}
use Rattle.replay_cases.specs.Case.{Case, unreadable, numbers, separator, led_case, rest, case_from, case_of, fitted}
use Rattle.replay_cases.specs.Promises.{GatheredCase}

-- the numbers so far, and then those of a case
abbrev pub joined : List ℕ → Case → Case
joined ns unreadable = unreadable
joined ns (numbers ms) = numbers (ns ++ ms)

joined_none : (c : Case) → c ≡ joined [] c
joined_none unreadable = refl
joined_none (numbers ms) = refl

joined_led : (ns : List ℕ) (v : ℕ) (c : Case) → joined ns (led_case v c) ≡ joined (ns ++ (v ∷ [])) c
joined_led ns v unreadable = refl
joined_led ns v (numbers ms) = ap numbers (sym (append_snoc ns v ms))

-- `count` numbers are stored, and the line is these and then the case from `at` on.
pub record Gathering (line : List ℕ) (room : ℕ) (stored : List ℕ) (at count : ℕ) : Type 0 where
  pub same : length stored ≡ room
  pub place : at ≤ length line
  pub held : count ≤ length stored
  pub most : ℕ
  pub enough : length line + 1 ≤ most + at
  pub whole : case_of line ≡ joined (take count stored) (case_from most line at)

pub start : (line stored : List ℕ) → Gathering line (length stored) stored 0 0
start line stored =
    record {
      same = refl;
      place = omega arith;
      held = omega arith;
      most = length line + 1;
      enough = omega arith;
      whole = joined_none (case_of line);
    }

pub refused : (line : List ℕ) (room : ℕ) (stored : List ℕ) → unreadable ≡ fitted room (case_of line)
    → GatheredCase line room None stored
refused line room stored none = record { exact = none; counts = tt; whole = tt }

from_bad : (line : List ℕ) (at most : ℕ) → number_at line at ≡ None → case_from most line at ≡ unreadable
unfolding case_from
from_bad line at zero e = refl
from_bad line at (suc most) e = rw e

from_some : (line : List ℕ) (at most v next : ℕ) → number_at line at ≡ Some (record { value = v; next = next })
    → case_from (suc most) line at ≡ led_case v (rest line next (case_from most line))
unfolding case_from
from_some line at most v next e = rw e

from_read : (line : List ℕ) (at most v next : ℕ) → 0 < most → number_at line at ≡ Some (record { value = v; next = next })
    → case_from most line at ≡ led_case v (rest line next (case_from (most - 1) line))
from_read line at most v next some e =
    let z : most ≡ suc (most - 1) = omega arith in
    ap (λ (k : ℕ). case_from k line at) z ∙ from_some line at (most - 1) v next e

too_full : (ns : List ℕ) (v : ℕ) (c : Case) → unreadable ≡ fitted (length ns) (joined ns (led_case v c))
too_full ns v unreadable = refl
too_full ns v (numbers ms) =
    let longer : length ns < length (ns ++ (v ∷ ms)) = simp length-append (omega arith) in
    rw (lt-leb (length (ns ++ (v ∷ ms))) (length ns) longer)

module _ (line : List ℕ) (room : ℕ) (stored : List ℕ) (at count : ℕ) (g : Gathering line room stored at count) where
  pub ends_bad : number_at line at ≡ None → unreadable ≡ fitted room (case_of line)
  ends_bad e = sym (ap (fitted room) (g.whole ∙ ap (joined (take count stored)) (from_bad line at g.most e)))

  -- A number was read.
  module _ (v next : ℕ) (e : number_at line at ≡ Some (record { value = v; next = next })) where
    read : case_of line ≡ joined (take count stored) (led_case v (rest line next (case_from (g.most - 1) line)))
    read = g.whole ∙ ap (joined (take count stored)) (from_read line at g.most v next (omega (arith, g.enough, g.place)) e)

    pub ends_full : count ≡ length stored → unreadable ≡ fitted room (case_of line)
    ends_full full =
        let all : length (take count stored) ≡ room = length-take-le count stored g.held ∙ full ∙ g.same in
        rw (read, ← all) (too_full (take count stored) v (rest line next (case_from (g.most - 1) line)))

    -- There was room for it.
    module _ (free : count < length stored) where
      kept : take (count + 1) (set stored count v) ≡ take count stored ++ (v ∷ [])
      kept = rw (add-one, take-suc-set stored count v free)

      length_kept : length (take (count + 1) (set stored count v)) ≡ count + 1
      length_kept = length-take-le (count + 1) (set stored count v) (simp length-set (omega arith))

      with_it : case_of line ≡ joined (take (count + 1) (set stored count v)) (rest line next (case_from (g.most - 1) line))
      with_it = read ∙ joined_led (take count stored) v (rest line next (case_from (g.most - 1) line)) ∙ rw kept

      pub ends_good : length line ≤ next → GatheredCase line room (Some (count + 1)) (set stored count v)
      ends_good end =
          let fits : length (take (count + 1) (set stored count v)) ≤ room = omega (arith, length_kept, g.same) in
          record {
            exact = rw (with_it, le-leb (length line) next end, append-nil, le-leb (length (take (count + 1) (set stored count v))) room fits);
            counts = simp length-set (omega arith);
            whole = sym length_kept;
          }

      pub ends_other : next < length line → (get_or line next 0 ≡ separator → ⊥) → unreadable ≡ fitted room (case_of line)
      ends_other more other = rw (with_it, lt-leb (length line) next more, ne_eqb (get_or line next 0) separator other)

      pub goes_on : next < length line → get_or line next 0 ≡ separator → Gathering line room (set stored count v) (next + 1) (count + 1)
      goes_on more blank =
          record {
            same = simp length-set g.same;
            place = omega arith;
            held = simp length-set (omega arith);
            most = g.most - 1;
            enough = omega (arith, g.enough, number_moves line at v next e);
            whole = with_it ∙ rw (lt-leb (length line) next more, eq-eqb (get_or line next 0) separator blank);
          }
