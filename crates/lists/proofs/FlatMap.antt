-- Lists: flat_map and map.
-- Assumes nothing.
use mathlib.Core.Path.{◌≡◌, refl, ap}
use mathlib.Core.List.{List, [], ◌∷◌, ◌++◌, map, flat_map, append_assoc}

pub flat_map_map : {A B C : Type 0} (f : B → List C) (h : A → B) (l : List A) → flat_map f (map h l) ≡ flat_map (λ x. f (h x)) l
unfolding flat_map
flat_map_map f h [] = refl
flat_map_map f h (x ∷ xs) = ap (f (h x) ++◌) (flat_map_map f h xs)

pub map_append : {A B : Type 0} (f : A → B) (s t : List A) → map f (s ++ t) ≡ map f s ++ map f t
map_append f [] t = refl
map_append f (x ∷ s) t = ap (f x ∷◌) (map_append f s t)

pub flat_map_append : {A B : Type 0} (f : A → List B) (s t : List A) → flat_map f (s ++ t) ≡ flat_map f s ++ flat_map f t
unfolding flat_map
flat_map_append f [] t = refl
flat_map_append f (x ∷ s) t = rw (flat_map_append f s t, append_assoc)

pub flat_map_flat_map : {A B C : Type 0} (f : B → List C) (h : A → List B) (l : List A) → flat_map f (flat_map h l) ≡ flat_map (λ x. flat_map f (h x)) l
unfolding flat_map
flat_map_flat_map f h [] = refl
flat_map_flat_map f h (x ∷ xs) = rw flat_map_append (ap (flat_map f (h x) ++◌) (flat_map_flat_map f h xs))

pub map_flat_map : {A B C : Type 0} (f : B → C) (h : A → List B) (l : List A) → map f (flat_map h l) ≡ flat_map (λ x. map f (h x)) l
unfolding flat_map
map_flat_map f h [] = refl
map_flat_map f h (x ∷ xs) = rw map_append (ap (map f (h x) ++◌) (map_flat_map f h xs))
