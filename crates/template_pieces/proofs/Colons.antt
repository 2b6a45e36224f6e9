-- What a part is, by its colons: the name before the first, the type after it, and why there is none.
-- Assumes nothing.
use mathlib.Core.Path.{◌≡◌, refl, ap, sym, ◌∙◌}
use mathlib.Core.Bool.{Bool, true, false, cond}
use mathlib.Core.Option.{Option, none as nothing, some, map}
use Prim.Native.Nat.{ℕ, suc, ◌+◌, ◌-◌, ◌≤◌, ◌<◌}
use native.Mathlib.Numerals.{add-one}
use native.Mathlib.Omega.{arith}
use mathlib.Core.List.{List, ◌∷◌}
use lib.Dec.{leb}
use lib.ListN.{length, take, drop, drop_of_length-le}
use lib.Seq.{drop-cons, take_all, take-length, drop-length}
use borrow.Author.Tests.{leb-true, leb-false, le-leb, lt-leb}
use Rattle.record.specs.declared.Why.{Why}
use Rattle.record.specs.declared.Why.TheVariants.{MoreThanOneColon, BadTypeNumber}
use Rattle.template_parts.specs.Split.{split}
use Rattle.template_parts.specs.Parts.{length_to}
use Rattle.template_parts.specs.Promises.{FoundFrom}
use Rattle.template_parts.proofs.Finding.{length_to_byte}
use Rattle.template_parts.proofs.Split.{after, split_first}
use Rattle.template_numbers.specs.Number.{read_number, number_answer}
use Rattle.template_numbers.proofs.Number.{above_none}
use Rattle.template_pieces.specs.Piece.{Piece, sequence_a, sequence_b, special, colon, named, typed, by_name, unreadable, piece_typed, of_colons, read_part, piece_answer}
use Rattle.template_pieces.specs.Promises.{without_number}
use Rattle.std.specs.Prelude.{Some, None, Ok, Err}
use Rattle.template_pieces.specs.declared.Piece.{Piece as PieceRead}
use Rattle.template_pieces.proofs.ByName.{take_rest}

module _ (start : ℕ) (part : List ℕ) {end : ℕ} (first : FoundFrom part 0 colon end) where
  pub no_colon : end ≡ length part → read_part start part ≡ by_name (named start part)
  unfolding read_part
  no_colon h =
      let whole : length_to colon part ≡ length part = omega (arith, first.place) in
      rw (split_first colon part, whole, take-length, drop-length)

  module _ (h : end < length part) where
    -- what stands before the first colon, and what its other colons part
    at_colon : split colon part ≡ take end part ∷ split colon (drop (end + 1) part)
    at_colon =
        let reach : length_to colon part ≡ end = omega (arith, first.place) in
        split_first colon part ∙ rw (reach, add-one, drop-cons part end 0 h)

    abbrev rest : List ℕ
    rest = drop (end + 1) part

    -- where the next colon would stand, and what comes after it
    abbrev second : ℕ
    second = length_to colon rest

    at_second : split colon part ≡ take end part ∷ take second rest ∷ after colon (drop second rest)
    at_second = at_colon ∙ ap (◌∷◌ (take end part)) (split_first colon rest)

    -- a second colon leaves no number
    no_number : second < length rest → read_number rest ≡ nothing
    no_number more = above_none rest second more (omega (arith, length_to_byte colon rest more))

    module _ {type : ℕ} (is : read_number (take (length part - (end + 1)) rest) ≡ some type) where
      -- a number was read, so there is no second colon
      pub typed_part : read_part start part ≡ by_name (map (typed type) (named start (take end part)))
      unfolding read_part piece_typed
      typed_part = rw at_second (go (leb (length rest) second) refl)
        where
          number : read_number rest ≡ some type
          number = ap read_number (sym (take_rest (end + 1) part)) ∙ is

          go : (all : Bool) → leb (length rest) second ≡ all → of_colons start (take end part ∷ take second rest ∷ after colon (drop second rest)) ≡ by_name (map (typed type) (named start (take end part)))
          go true e =
              let whole : length rest ≤ second = leb-true (length rest) second e in
              rw (take_all second rest whole, drop_of_length-le rest whole, number)
          go false e = let none : ◌≡◌ {A = Option ℕ} nothing (some type) = sym (no_number (leb-false (length rest) second e)) ∙ number in cc

    -- none was
    pub untyped_part : read_number (take (length part - (end + 1)) rest) ≡ nothing → read_part start part ≡ unreadable (without_number (take (length part - (end + 1)) rest))
    unfolding read_part piece_typed without_number
    untyped_part is = rw (at_second, take_rest) (go (leb (length rest) second) refl)
      where
        number : read_number rest ≡ nothing
        number = ap read_number (sym (take_rest (end + 1) part)) ∙ is

        go : (all : Bool) → leb (length rest) second ≡ all → of_colons start (take end part ∷ take second rest ∷ after colon (drop second rest)) ≡ unreadable (cond all BadTypeNumber MoreThanOneColon)
        go true e =
            let whole : length rest ≤ second = leb-true (length rest) second e in
            rw (take_all second rest whole, drop_of_length-le rest whole, number)
        go false e =
            let more : second < length rest = leb-false (length rest) second e in
            rw (drop-cons rest second 0 more, split_first colon (drop (suc second) rest))

module _ (rest : List ℕ) {end : ℕ} (next : FoundFrom rest 0 colon end) where
  pub why_number_lem : end ≡ length rest → BadTypeNumber ≡ without_number rest
  unfolding without_number
  why_number_lem e = rw (le-leb (length rest) (length_to colon rest) (omega (arith, next.place)))

  pub why_colons : (end ≡ length rest → ⊥) → MoreThanOneColon ≡ without_number rest
  unfolding without_number
  why_colons ne = let less : end < length rest = omega (arith, next.inside, ne) in rw (lt-leb (length rest) (length_to colon rest) (omega (arith, next.place)))

-- ---- Answers

pub number_none : (number : Option ℕ) → number_answer number ≡ None → number ≡ nothing
unfolding number_answer
number_none nothing e = refl
number_none (some n) e = cc

pub number_some : (number : Option ℕ) {type : ℕ} → number_answer number ≡ Some type → number ≡ some type
unfolding number_answer
number_some nothing e = cc
number_some (some n) e = cc

module _ (type : ℕ) where
  -- a type changes nothing of what cannot be read
  pub typed_bad : (piece : Option Piece) {why : Why} → piece_answer (by_name piece) ≡ Err why → Err why ≡ piece_answer (by_name (map (typed type) piece))
  unfolding piece_answer
  typed_bad nothing e = sym e
  typed_bad (some p) e = cc

  pub typed_some : (piece : Option Piece) {p : PieceRead} → piece_answer (by_name piece) ≡ Ok p → Ok (record { name = p.name; type_id = type }) ≡ piece_answer (by_name (map (typed type) piece))
  unfolding piece_answer
  typed_some nothing e = cc
  typed_some (some (sequence_a u)) e = cc
  typed_some (some (sequence_b u)) e = cc
  typed_some (some (special s id u)) e = cc
