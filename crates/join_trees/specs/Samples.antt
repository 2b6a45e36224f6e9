-- What document 01's two samples of joins speak of: encodings of one row, whose id stands for their letter.
-- Assumes nothing: these are definitions. What is claimed of them is proved in proofs/Samples.
use Rattle.std.specs.Prelude.{List, [], ◌∷◌, map, ℕ, replicate}
use Rattle.record.specs.Tree.{Row, Encoding, windows, encoding, absent, sequences}

-- The row with this id, offsets 2 to 5.
unfoldable pub lettered : ℕ → Row
lettered n = record { id = n; type_id = 0; pool = 0; text_start = 0; text_length = 0; word_mark = 0; word = 0; offset_start = 2; offset_end = 5; special = 0; attention = 1 }

-- An encoding of one row, no ranges.
unfoldable pub letter : ℕ → List Encoding → Encoding
letter n ws = encoding (lettered n ∷ []) (replicate sequences absent) ws

-- "S with window s, P with window p", and Q with window q: 1 with 11, 2 with 12, 3 with 13. The second sample calls the
-- windows c, d, e.
unfoldable pub sample_s : Encoding
sample_s = letter 1 (letter 11 [] ∷ [])

unfoldable pub sample_p : Encoding
sample_p = letter 2 (letter 12 [] ∷ [])

unfoldable pub sample_q : Encoding
sample_q = letter 3 (letter 13 [] ∷ [])

-- The letters of an encoding, and of each of its direct windows.
unfoldable pub spelled : Encoding → List ℕ
spelled E = map (λ (r : Row). r.id) E.rows

unfoldable pub spelled_windows : Encoding → List (List ℕ)
spelled_windows E = map spelled (windows E)
