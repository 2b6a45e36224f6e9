-- What an encoding says of its sequences (document 01, "Record and lookups").
-- Assumes nothing: these are definitions.
use Rattle.std.specs.Prelude.{ℕ, zero, suc, ◌+◌, Bool, ◌&&◌, cond, List, [], ◌∷◌, ◌++◌, leb, ltb, eqb, length, get_or}
use Rattle.std.proofs.Math.Option.{Option, none as nothing, some}
use Rattle.record.specs.Tree.{Range, Encoding, absent}
use Rattle.record.specs.declared.Bounds.{Bounds}

-- "sequence_range of an absent id is all rows"; an id past the last place is absent too
unfoldable pub sequence_range : Encoding → ℕ → Bounds
sequence_range E id =
    let p = get_or E.ranges id absent in
    cond (eqb p.present 1) (record { start = p.start; end = p.end }) (record { start = 0; end = length E.rows })

-- the number of ranges: marks are 0 or 1
unfoldable pub present : List Range → ℕ
present [] = 0
present (p ∷ ps) = p.present + present ps

-- "n the number of ranges or 1"
unfoldable pub n_sequences : Encoding → ℕ
n_sequences E = cond (eqb (present E.ranges) 0) 1 (present E.ranges)

-- ---- The sequence column

abbrev pub row_inside : Bounds → ℕ → Bool
row_inside b row = leb b.start row && ltb row b.end

-- "goes through ids 0 to n−1, later ids overwriting": of the ids below k the last whose range holds the row
unfoldable pub sequence_at : Encoding → ℕ → ℕ → Option ℕ
sequence_at E row zero = nothing
sequence_at E row (suc k) = cond (row_inside (sequence_range E k) row) (some k) (sequence_at E row k)

-- "mark and id": zeros where there is none
abbrev pub mark_and_id : Option ℕ → List ℕ
mark_and_id nothing = 0 ∷ 0 ∷ []
mark_and_id (some k) = 1 ∷ k ∷ []

-- "mark and id per row": those that f gives to n rows from row i on
unfoldable pub column : (ℕ → Option ℕ) → ℕ → ℕ → List ℕ
column f i zero = []
column f i (suc n) = mark_and_id (f i) ++ column f (suc i) n

unfoldable pub get_sequence_ids : Encoding → List ℕ
get_sequence_ids E = column (λ row. sequence_at E row (n_sequences E)) 0 (length E.rows)
