-- Alike save for order is an equivalence, and how lists of windows pair off.
-- Assumes nothing.
use mathlib.Core.Path.{◌≡◌, refl, ap, sym, ◌∙◌}
use mathlib.Core.Logic.{◌⊎◌, inl, inr}
use mathlib.Core.List.{List, [], ◌∷◌, ◌++◌, append_assoc, append-nil}
use Prim.Native.Nat.{suc}
use lib.ListN.{length}
use Rattle.record.specs.Tree.{Row, Range, Forest, none, node, Encoding, listed, forest, windows, encoding}
use Rattle.record.proofs.Tree.{listed_forest, forest_listed}
use Rattle.join_trees.specs.Alike.{Alike, PairOff}

-- Two lists of encodings pair off.
abbrev pub Pairs : List Encoding → List Encoding → Type 0
Pairs xs ys = PairOff (forest xs) ys

-- ---- Alike encodings have equally many direct windows

length_middle : (b : List Encoding) (v : Encoding) (a : List Encoding) → length (b ++ v ∷ a) ≡ suc (length (b ++ a))
length_middle [] v a = refl
length_middle (x ∷ b) v a = ap suc (length_middle b v a)

pub pairs_length : (xs ys : List Encoding) → Pairs xs ys → length xs ≡ length ys
pairs_length [] ys e = rw e
pairs_length (x ∷ xs) ys (b, v, a, e, al, rest) = rw (e, length_middle) (ap suc (pairs_length xs (b ++ a) rest))

pub alike_length : (E F : Encoding) → Alike E F → length (windows E) ≡ length (windows F)
alike_length E F (p, p', al) = pairs_length (windows E) (windows F) (rw forest_listed al)

-- ---- How lists pair off

pub pairs_cons : (x y : Encoding) (xs ys : List Encoding) → Alike x y → Pairs xs ys → Pairs (x ∷ xs) (y ∷ ys)
pairs_cons x y xs ys a p = ([], y, ys, refl, a, p)

pub pairs_append : (xs ys us vs : List Encoding) → Pairs xs ys → Pairs us vs → Pairs (xs ++ us) (ys ++ vs)
pairs_append [] ys us vs p q = rw p q
pairs_append (x ∷ xs) ys us vs (b, v, a, e, al, rest) q = (b, v, a ++ vs, rw (e, append_assoc), al, rw append_assoc at (pairs_append xs (b ++ a) us vs rest q))

pub pairs_turned : (xs ys us vs : List Encoding) → Pairs xs ys → Pairs us vs → Pairs (xs ++ us) (vs ++ ys)
pairs_turned [] ys us vs p q = rw (p, append-nil) q
pairs_turned (x ∷ xs) ys us vs (b, v, a, e, al, rest) q = (vs ++ b, v, a, rw (e, append_assoc), al, rw append_assoc (pairs_turned xs (b ++ a) us vs rest q))

pub alike_node : (r : List Row) (q : List Range) (ws vs : List Encoding) → Pairs ws vs → Alike (encoding r q ws) (encoding r q vs)
alike_node r q ws vs p = (refl, refl, rw listed_forest p)

pairs_refl : (f : Forest) → PairOff f (listed f)
pairs_refl none = refl
pairs_refl (node r q w x) = ([], record { rows = r; ranges = q; below = w }, listed x, refl, (refl, refl, pairs_refl w), pairs_refl x)

pub alike_refl : (E : Encoding) → Alike E E
alike_refl E = (refl, refl, pairs_refl E.below)

-- ---- Symmetric

pairs_insert : (b : List Encoding) (v : Encoding) (a : List Encoding) (u : Encoding) (us : List Encoding) → Alike v u → Pairs (b ++ a) us → Pairs (b ++ v ∷ a) (u ∷ us)
pairs_insert [] v a u us al p = ([], u, us, refl, al, p)
pairs_insert (x ∷ b) v a u us al (c, y, d, e, al', rest) = (u ∷ c, y, d, ap (u ∷◌) e, al', pairs_insert b v a u (c ++ d) al rest)

pairs_sym : (f : Forest) (ys : List Encoding) → PairOff f ys → Pairs ys (listed f)
pairs_sym none ys e = rw e
pairs_sym (node r q w x) ys (b, v, a, e, (p, p', al), rest) =
    rw e (pairs_insert b v a (record { rows = r; ranges = q; below = w }) (listed x) (sym p, sym p', rw forest_listed at (pairs_sym w (windows v) al)) (pairs_sym x (b ++ a) rest))

pub alike_sym : (E F : Encoding) → Alike E F → Alike F E
alike_sym E F (p, p', al) = (sym p, sym p', rw forest_listed at (pairs_sym E.below (windows F) al))

-- ---- Transitive

-- An element of a list that is split in two places.
abbrev Overlap : List Encoding → List Encoding → List Encoding → Encoding → List Encoding → Type 0
Overlap c d c' z d' =
    ((k : List Encoding) × (c ≡ c' ++ z ∷ k) × (d' ≡ k ++ d)) ⊎ ((k : List Encoding) × (c' ≡ c ++ k) × (d ≡ k ++ z ∷ d'))

overlap : (c d c' : List Encoding) (z : Encoding) (d' : List Encoding) → c ++ d ≡ c' ++ z ∷ d' → Overlap c d c' z d'
overlap [] d c' z d' e = inr (c', refl, e)
overlap (x ∷ c) d [] z d' e = inl (c, (cc), (cc))
overlap (x ∷ c) d (x' ∷ c') z d' e = next (overlap c d c' z d' (cc))
  where
    next : Overlap c d c' z d' → Overlap (x ∷ c) d (x' ∷ c') z d'
    next (inl (k, p, q)) = inl (k, (cc), q)
    next (inr (k, p, q)) = inr (k, (cc), q)

-- What a given element of the first list is paired with can be taken out of the second.
pairs_take : (b : List Encoding) (v : Encoding) (a zs : List Encoding) → Pairs (b ++ v ∷ a) zs
    → (c : List Encoding) × (z : Encoding) × (d : List Encoding) × (zs ≡ c ++ z ∷ d) × Alike v z × Pairs (b ++ a) (c ++ d)
pairs_take [] v a zs p = p
pairs_take (x ∷ b) v a zs (c, z, d, e, al, rest) = next (pairs_take b v a (c ++ d) rest)
  where
    next : (c' : List Encoding) × (z' : Encoding) × (d' : List Encoding) × (c ++ d ≡ c' ++ z' ∷ d') × Alike v z' × Pairs (b ++ a) (c' ++ d')
        → (c' : List Encoding) × (z' : Encoding) × (d' : List Encoding) × (zs ≡ c' ++ z' ∷ d') × Alike v z' × Pairs (x ∷ (b ++ a)) (c' ++ d')
    next (c', z', d', e', al', rest') = place (overlap c d c' z' d' e')
      where
        place : Overlap c d c' z' d' → (f : List Encoding) × (y : Encoding) × (h : List Encoding) × (zs ≡ f ++ y ∷ h) × Alike v y × Pairs (x ∷ (b ++ a)) (f ++ h)
        place (inl (k, p, q)) = (c', z', k ++ z ∷ d, rw (e, p, append_assoc), al', (c' ++ k, z, d, rw append_assoc, al, rw (append_assoc, ← q) rest'))
        place (inr (k, p, q)) = (c ++ z ∷ k, z', d', rw (e, q, append_assoc), al', (c, z, k ++ d', rw append_assoc, al, rw (p, append_assoc) at rest'))

pairs_trans : (f : Forest) (ys zs : List Encoding) → PairOff f ys → Pairs ys zs → PairOff f zs
pairs_trans none ys zs e p = rw e at p
pairs_trans (node r q w x) ys zs (b, v, a, e, (o, o', al), rest) p =
    let (c, z, d, e', (i, i', al'), rest') = pairs_take b v a zs (rw e at p) in
    (c, z, d, e', (o ∙ i, o' ∙ i', pairs_trans w (windows v) (windows z) al (rw forest_listed al')), pairs_trans x (b ++ a) (c ++ d) rest rest')

pub alike_trans : (E F G : Encoding) → Alike E F → Alike F G → Alike E G
alike_trans E F G (o, o', al) (i, i', al') = (o ∙ i, o' ∙ i', pairs_trans E.below (windows F) (windows G) al (rw forest_listed al'))
