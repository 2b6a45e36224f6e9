-- Whether the offsets of a join, or of each step of a fold, stay within 32 bits.
-- Assumes nothing: these are definitions.
use Rattle.std.specs.Prelude.{Bool, true, ◌&&◌, List, [], ◌∷◌, ℕ, ◌+◌, ◌≤◌, leb}
use Rattle.lists.specs.Lists.{All}
use Rattle.record.specs.Tree.{Row, Forest, none, node, Encoding, forest, empty}
use Rattle.record.specs.Read.{all_ok}
use Rattle.join_trees.specs.Join.{join}

abbrev pub most_offset : ℕ
most_offset = 4294967295

abbrev pub row_fits : Row → Bool
row_fits r = leb r.offset_start most_offset && leb r.offset_end most_offset

-- Rows stay within 32 bits when their offsets are moved on by n.
abbrev pub MovedWithin : ℕ → List Row → Type 0
MovedWithin n ps = All (λ r. (r.offset_start + n ≤ most_offset) × (r.offset_end + n ≤ most_offset)) ps

-- no offset passes it, in any row of any encoding, windows included
unfoldable pub offsets_fit : Forest → Bool
offsets_fit none = true
offsets_fit (node r q w x) = all_ok row_fits r && (offsets_fit w && offsets_fit x)

-- "6 if any offset at any step would pass 4,294,967,295". Each join of two encodings that a join is made of writes one
-- node of its result, so the steps of a join are the nodes of its result.
abbrev pub join_fits : Bool → Encoding → Encoding → Bool
join_fits growing S P = offsets_fit (forest (join growing S P ∷ []))

-- A fold's are those of each of its joins. (`steps_fit_lem` of proofs/Offsets: the last one tells.)
unfoldable pub steps_fit : Bool → Encoding → List Encoding → Bool
steps_fit growing S [] = true
steps_fit growing S (P ∷ Ps) = join_fits growing S P && steps_fit growing (join growing S P) Ps

abbrev pub fold_fits : Bool → List Encoding → Bool
fold_fits growing Ps = steps_fit growing empty Ps
