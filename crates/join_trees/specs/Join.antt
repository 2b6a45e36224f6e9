-- Join (`merge_with`) and fold (`merge`), document 01's module 5, on trees.
-- `AsWritten` is the document's own equation; `join` is its one solution (`join_as_written`, `join_only` of proofs/Join).
-- Assumes nothing: these are definitions.
use Rattle.std.specs.Prelude.{◌≡◌, Bool, true, false, ℕ, zero, suc, ◌+◌, ◌*◌, length}
use mathlib.Core.List.{List, [], ◌∷◌, ◌++◌, map, flat_map}
use Rattle.record.specs.Tree.{Row, Range, Forest, none, node, Encoding, encoding, windows, empty, shifted}

-- ---- Rows

-- A row whose offsets stand n further on.
abbrev pub moved : ℕ → Row → Row
moved n r = record { id = r.id; type_id = r.type_id; pool = r.pool; text_start = r.text_start; text_length = r.text_length; word_mark = r.word_mark; word = r.word; offset_start = r.offset_start + n; offset_end = r.offset_end + n; special = r.special; attention = r.attention }

-- The last row's offset end; n if there is no row.
abbrev pub last_end : ℕ → List Row → ℕ
last_end n [] = n
last_end n (r ∷ rs) = last_end r.offset_end rs

-- "P's offsets plus S's last offset end if growing (0 if S is empty)": by how much P's offsets move, from S's rows.
abbrev pub base : Bool → List Row → ℕ
base true rs = last_end 0 rs
base false rs = 0

-- "Rows of S, then of P"
abbrev pub join_rows : Bool → List Row → List Row → List Row
join_rows growing rs ps = rs ++ map (moved (base growing rs)) ps

-- ---- Ranges

-- P's range, shifted, if its mark says that it is present; else S's.
abbrev pub choose : ℕ → ℕ → Range → Range → Range
choose zero n s p = s
choose (suc m) n s p = shifted n p

-- "P's ranges shifted by S's row count, replacing S's under the same id"
abbrev pub join_ranges : ℕ → List Range → List Range → List Range
join_ranges n [] ps = []
join_ranges n (s ∷ ss) [] = []
join_ranges n (s ∷ ss) (p ∷ ps) = choose p.present n s p ∷ join_ranges n ss ps

-- ---- The document's own equation

-- "Windows: for each s of S, s with P, then s with each p of P; after these S with each p."
abbrev pub AsWritten : Bool → (Encoding → Encoding → Encoding) → Type 0
AsWritten growing with =
    (S P : Encoding) → with S P ≡ encoding (join_rows growing S.rows P.rows) (join_ranges (length S.rows) S.ranges P.ranges)
    (flat_map (λ s. with s P ∷ map (with s) (windows P)) (windows S) ++ map (with S) (windows P))

-- ---- The same, computed

-- The join of an encoding that has rows r and ranges q with P, the windows given.
abbrev pub join_over : Bool → List Row → List Range → Encoding → List Encoding → Encoding
join_over growing r q P ws = encoding (join_rows growing r P.rows) (join_ranges (length r) q P.ranges) ws

-- "S with each p": an encoding S that has rows r and ranges q, with each of a forest. `below p` is the joins of S's
-- windows with p and with p's windows.
unfoldable pub with_each : Bool → List Row → List Range → (Encoding → List Encoding) → Forest → List Encoding
with_each growing r q below none = []
with_each growing r q below (node rp qp wp x) =
    let p : Encoding = record { rows = rp; ranges = qp; below = wp } in
    join_over growing r q p (below p ++ with_each growing r q below wp) ∷ with_each growing r q below x

-- "for each s of S, s with P, then s with each p of P"
unfoldable pub each_with : Bool → Forest → Encoding → List Encoding
each_with growing none P = []
each_with growing (node r q w x) P =
    let each : List Encoding = with_each growing r q (each_with growing w) P.below in
    join_over growing r q P (each_with growing w P ++ each) ∷ each ++ each_with growing x P

-- "Operands carry their own windows, so joining a window goes back to joining lists of windows."
unfoldable pub join : Bool → Encoding → Encoding → Encoding
join growing S P = join_over growing S.rows S.ranges P (each_with growing S.below P ++ with_each growing S.rows S.ranges (each_with growing S.below) P.below)

-- The number of direct windows of a join, from those of S and of P.
abbrev pub window_count : ℕ → ℕ → ℕ
window_count s p = s * suc p + p

-- ---- Fold

abbrev pub fold_from : Bool → Encoding → List Encoding → Encoding
fold_from growing S [] = S
fold_from growing S (P ∷ Ps) = fold_from growing (join growing S P) Ps

-- "`merge` folds from the empty encoding."
abbrev pub fold : Bool → List Encoding → Encoding
fold growing Ps = fold_from growing empty Ps
