-- The encodings that two lists of numbers store, as a computed reading: so a public promise is an equation.
-- That it reads exactly the well-formed batches, each as the one forest that it stores, is `found` and `stored` of proofs/Read.
-- Assumes nothing: these are definitions.
use Rattle.std.specs.Prelude.{ℕ, zero, suc, ◌*◌, Bool, true, false, ◌&&◌, ◌||◌, cond, List, [], ◌∷◌, leb, eqb, length, get_or, drop}
use Rattle.std.proofs.Math.Option.{Option, none as nothing, some}
use Rattle.record.specs.Tree.{Row, Range, Forest, none, node, Encoding, listed, sequences}
use Rattle.record.specs.Flat.{row_width, node_width, row_at, range_at}
use Rattle.record.specs.WellFormed.{nodes_in, rows_in, levels, most_nodes, most_rows, most_levels}

-- ---- Whether a forest is well-formed, computed

abbrev pub range_ok : ℕ → Range → Bool
range_ok n p = (eqb p.present 0 && (eqb p.start 0 && eqb p.end 0)) || (eqb p.present 1 && (leb p.start p.end && leb p.end n))

abbrev pub row_ok : Row → Bool
row_ok r = leb r.pool 1 && ((eqb r.word_mark 0 && eqb r.word 0) || eqb r.word_mark 1)

abbrev pub all_ok : {A : Type 0} → (A → Bool) → List A → Bool
all_ok t [] = true
all_ok t (x ∷ xs) = t x && all_ok t xs

unfoldable pub fine_ok : Forest → Bool
fine_ok none = true
fine_ok (node r q w x) = (eqb (length q) sequences && (all_ok (range_ok (length r)) q && all_ok row_ok r)) && (fine_ok w && fine_ok x)

unfoldable pub fits_ok : Forest → Bool
fits_ok f = leb (nodes_in f) most_nodes && (leb (rows_in f) most_rows && leb (levels f) (suc most_levels))

unfoldable pub well_ok : Forest → Bool
well_ok f = fine_ok f && fits_ok f

-- ---- The tree

-- n of them, `width` numbers each
unfoldable pub several : {A : Type 0} → (List ℕ → A) → ℕ → ℕ → List ℕ → List A
several at width zero l = []
several at width (suc n) l = at l ∷ several at width n (drop width l)

-- the node at the front of the two lists, before the forests w and x
abbrev pub node_at : List ℕ → List ℕ → Forest → Forest → Forest
node_at xs rs w x = node (several row_at row_width (get_or xs 0 0) rs) (several range_at 3 sequences (drop 2 xs)) w x

-- nothing; or a forest, and the nodes and rows after it
pub data Parsed : Type 0 where
  bad : Parsed
  good : Forest → List ℕ → List ℕ → Parsed

unfoldable pub test : Bool → Parsed → Parsed
test true p = p
test false p = bad

unfoldable pub then_parsed : Parsed → (Forest → List ℕ → List ℕ → Parsed) → Parsed
then_parsed bad k = bad
then_parsed (good f ys zs) k = k f ys zs

-- one node, its windows by the first reading, then what comes after it by the second
unfoldable pub parsed_node : List ℕ → List ℕ → (ℕ → List ℕ → List ℕ → Parsed) → (List ℕ → List ℕ → Parsed) → Parsed
parsed_node xs rs windows after =
    test (leb node_width (length xs))
    (test (leb (get_or xs 0 0 * row_width) (length rs))
    (then_parsed (windows (get_or xs 1 0) (drop node_width xs) (drop (get_or xs 0 0 * row_width) rs))
    (λ w ys zs. then_parsed (after ys zs) (λ x ys' zs'. good (node_at xs rs w x) ys' zs'))))

-- k encodings, in at most d steps
unfoldable pub parse : ℕ → ℕ → List ℕ → List ℕ → Parsed
parse zero k xs rs = bad
parse (suc d) zero xs rs = good none xs rs
parse (suc d) (suc k) xs rs = parsed_node xs rs (parse d) (parse d k)

-- encodings to the end of both lists
unfoldable pub parse_all : ℕ → List ℕ → List ℕ → Parsed
parse_all zero xs rs = bad
parse_all (suc d) [] [] = good none [] []
parse_all (suc d) [] (r ∷ rs) = bad
parse_all (suc d) (a ∷ xs) rs = parsed_node (a ∷ xs) rs (parse d) (parse_all d)

-- ---- What two lists store

pub data Reading : Type 0 where
  malformed : Reading
  holds : Forest → Reading

unfoldable pub checked : Parsed → Reading
checked bad = malformed
checked (good f ys zs) = cond (well_ok f) (holds f) malformed

-- a node takes a step, and there is one more at the end
unfoldable pub read : List ℕ → List ℕ → Reading
read nodes rows = checked (parse_all (suc (length nodes)) nodes rows)

-- ---- How many encodings an operation takes

-- "all others one. Any other number is refused with 1.": what k says of the one encoding, else otherwise
abbrev pub sole : {A : Type 0} → A → (Encoding → A) → List Encoding → A
sole otherwise k [] = otherwise
sole otherwise k (E ∷ []) = k E
sole otherwise k (E ∷ F ∷ Es) = otherwise

unfoldable pub of_one : {A : Type 0} → A → (Encoding → A) → Reading → A
of_one otherwise k malformed = otherwise
of_one otherwise k (holds f) = sole otherwise k (listed f)

-- whether there is just one
unfoldable pub is_one : Reading → Bool
is_one r = of_one false (λ E. true) r

-- "truncate pair and process a batch of one or two. Any other number is refused with 1.": what k says of the first and
-- of the second, if there is one
abbrev pub one_or_two : {A : Type 0} → A → (Encoding → Option Encoding → A) → List Encoding → A
one_or_two otherwise k [] = otherwise
one_or_two otherwise k (E ∷ []) = k E nothing
one_or_two otherwise k (E ∷ F ∷ []) = k E (some F)
one_or_two otherwise k (E ∷ F ∷ G ∷ Es) = otherwise

unfoldable pub of_one_or_two : {A : Type 0} → A → (Encoding → Option Encoding → A) → Reading → A
of_one_or_two otherwise k malformed = otherwise
of_one_or_two otherwise k (holds f) = one_or_two otherwise k (listed f)

-- whether there are one or two
unfoldable pub is_one_or_two : Reading → Bool
is_one_or_two r = of_one_or_two false (λ E second. true) r

-- "text, span, pad batch and fold any batch"
unfoldable pub of_any : {A : Type 0} → A → (Forest → A) → Reading → A
of_any otherwise k malformed = otherwise
of_any otherwise k (holds f) = k f
