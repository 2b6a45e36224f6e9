-- The one encoding that the lists store: the rows of a sequence in it, and what is answered of it.
-- Assumes nothing.
use mathlib.Core.Path.{◌≡◌, sym, ap, ◌∙◌}
use Prim.Native.Nat.{ℕ, ◌+◌, ◌-◌, ◌*◌, ◌≤◌, ◌<◌}
use native.Mathlib.Omega.{arith}
use mathlib.Core.Bool.{true}
use mathlib.Core.List.{List}
use lib.ListN.{length, get_or}
use Rattle.record.specs.Tree.{Row, Encoding}
use Rattle.record.specs.Flat.{row_width}
use Rattle.record.specs.Read.{read, is_one, of_one}
use Rattle.record.specs.Standing.{One}
use Rattle.record.proofs.One.{one_there, one_rows_long, one_of}
use Rattle.lookup_ranges.specs.Promises.{OfTop}
use Rattle.lookup_ranges.specs.Ranges.{sequence_range}
use Rattle.record.specs.declared.Bounds.{Bounds}
use Rattle.lookup_ranges.proofs.Ranges.{range_within}
use Rattle.lookup_search.proofs.Stored.{no_row}
use Rattle.lookup_search.specs.Promises.{OfOne}
use Rattle.lookup_search.specs.Searches.{in_range}
use Rattle.lookup_search.proofs.Parts.{length_part, part_at}

-- what is right of the one encoding is the answer
pub told : {A : Type 0} (otherwise : A) (k : Encoding → A) (nodes rows : List ℕ) (r : A) → is_one (read nodes rows) ≡ true → OfOne nodes rows (λ E. r ≡ k E) → r ≡ of_one otherwise k (read nodes rows)
told otherwise k nodes rows r e f = let (E, h) = one_there nodes rows e in f E h ∙ sym (one_of otherwise k h)

-- ---- The range of a sequence

pub end_within : {nodes rows : List ℕ} {E : Encoding} → One nodes rows E → (id : ℕ) (b : Bounds) → b ≡ sequence_range E id → b.end ≤ length E.rows
end_within one id b e = omega (arith, ap (λ (b : Bounds). b.end) e, (range_within one id).1)

pub range_inside : (nodes rows : List ℕ) (id : ℕ) (b : Bounds) → is_one (read nodes rows) ≡ true → OfTop nodes (λ E. b ≡ sequence_range E id) → b.end * row_width ≤ length rows
range_inside nodes rows id b e f =
    let (E, one) = one_there nodes rows e in
    omega (arith, end_within one id b (f rows E one), one_rows_long one)

-- ---- Its rows

-- Row k of an encoding.
abbrev pub the_row : Encoding → ℕ → Row
the_row E k = get_or E.rows k no_row

module _ {nodes rows : List ℕ} {E : Encoding} (one : One nodes rows E) (id : ℕ) where
  pub length_in_range : length (in_range E id) ≡ (sequence_range E id).end - (sequence_range E id).start
  length_in_range = length_part _ _ E.rows (range_within one id).1

  -- row j of the encoding, by its place in the range
  pub at : (k : ℕ) → (sequence_range E id).start ≤ k → k < (sequence_range E id).end → get_or (in_range E id) (k - (sequence_range E id).start) no_row ≡ the_row E k
  at k a b =
      let z : (sequence_range E id).start + (k - (sequence_range E id).start) ≡ k = omega arith in
      part_at _ _ E.rows (k - (sequence_range E id).start) no_row (omega arith) ∙ ap (the_row E) z
