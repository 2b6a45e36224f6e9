-- The special id that the search for an entry finds, of a table that is not refused.
-- Assumes nothing.
use mathlib.Core.Path.{◌≡◌, refl, ap, ◌∙◌}
use mathlib.Core.Bool.{Bool, true, false, cond}
use mathlib.Core.Option.{Option, none as nothing, some}
use Prim.Native.Nat.{ℕ, zero, suc, ◌+◌, ◌/◌, ◌≤◌, ◌<◌}
use native.Mathlib.Omega.{arith}
use mathlib.Core.List.{List, [], ◌∷◌, map}
use lib.ListN.{length, get_or}
use Rattle.lists.specs.Lists.{All}
use Rattle.lookup_ranges.specs.First.{last_from, or_else}
use Rattle.lookup_ranges.proofs.First.{last_found, last_nothing}
use Rattle.template_entries.specs.Table.{Entry, Special, entry_width, member_width, no_entry, entries_in, members_in, special_of}
use Rattle.template_find.specs.Promises.{entry_has_id, entry_answer, IdsInside}
use Rattle.template_find.specs.Last.{no_special, at_place, has_id, last_with}
use Rattle.std.specs.Prelude.{Some, None}
use Rattle.template_entries.proofs.Entries.{entries_number}
use Rattle.template_entries.proofs.Sound.{EntryFits, TableHolds}

-- what is found in a list of images is found in the list
last_map : {A : Type 0} {B : Type 0} (t : B → Bool) (f : A → B) (n : ℕ) (xs : List A) → last_from t n (map f xs) ≡ last_from (λ (x : A). t (f x)) n xs
unfolding last_from
last_map t f n [] = refl
last_map t f n (x ∷ xs) = ap (λ (o : Option ℕ). or_else o (cond (t (f x)) (some n) nothing)) (last_map t f (suc n) xs)

map_nth : {A : Type 0} {B : Type 0} (f : A → B) (xs : List A) (k : ℕ) (d : A) (e : B) → k < length xs → get_or (map f xs) k e ≡ f (get_or xs k d)
map_nth f [] k d e h = absurd (omega arith)
map_nth f (x ∷ xs) zero d e h = refl
map_nth f (x ∷ xs) (suc k) d e h = map_nth f xs k d e (omega arith)

found_place : (o : Option ℕ) {k : ℕ} → entry_answer o ≡ Some k → o ≡ some k
unfolding entry_answer
found_place nothing e = cc
found_place (some n) e = cc

found_none : (o : Option ℕ) → entry_answer o ≡ None → o ≡ nothing
unfolding entry_answer
found_none nothing e = refl
found_none (some n) e = cc

module _ (entries added id : List ℕ) {k : ℕ} (e : entry_answer (last_from (entry_has_id added id) 0 (entries_in entries)) ≡ Some k) where
  found_at : last_from (entry_has_id added id) 0 (entries_in entries) ≡ some k
  found_at = found_place (last_from (entry_has_id added id) 0 (entries_in entries)) e

  -- what is found is one of the entries
  pub found_among : k < length entries / entry_width
  found_among = omega (arith, (last_found (entry_has_id added id) no_entry 0 (entries_in entries) k found_at).inside, entries_number entries)

module _ {entries members added : List ℕ} {table : List Special} (h : TableHolds entries members added table) where
  pub ids_inside : IdsInside entries added
  ids_inside = record { inside = firsts (entries_in entries) h.entries_fit }
    where
      firsts : (es : List Entry) → All (EntryFits (length members / member_width) (length added)) es → All (λ (e : Entry). e.id_start + e.id_length ≤ length added) es
      firsts [] all = tt
      firsts (e ∷ es) all = (all.0.0, firsts es all.1)

  -- the search among the entries is the search among the special ids
  search_is : (id : List ℕ) → last_from (has_id id) 0 table ≡ last_from (entry_has_id added id) 0 (entries_in entries)
  search_is id = ap (last_from (has_id id) 0) h.table_is ∙ last_map (has_id id) (special_of (members_in members) added) 0 (entries_in entries)

  -- no entry has the id
  pub missing : (id : List ℕ) → last_from (entry_has_id added id) 0 (entries_in entries) ≡ nothing → last_with id table ≡ nothing
  unfolding last_with
  missing id e = ap (at_place table) (search_is id ∙ e)

  pub unknown_is : (id : List ℕ) → entry_answer (last_from (entry_has_id added id) 0 (entries_in entries)) ≡ None → last_with id table ≡ nothing
  unknown_is id e = missing id (found_none (last_from (entry_has_id added id) 0 (entries_in entries)) e)

  -- some entry has the id
  pub present : (id : List ℕ) (k : ℕ) → k < length entries / entry_width → entry_has_id added id (get_or (entries_in entries) k no_entry) ≡ true → (s : Special) × (last_with id table ≡ some s)
  unfolding last_with
  present id k among has = go (last_from (entry_has_id added id) 0 (entries_in entries)) refl
    where
      go : (o : Option ℕ) → last_from (entry_has_id added id) 0 (entries_in entries) ≡ o → (s : Special) × (at_place table (last_from (has_id id) 0 table) ≡ some s)
      go nothing e =
          let none : entry_has_id added id (get_or (entries_in entries) k no_entry) ≡ false = last_nothing (entry_has_id added id) no_entry 0 (entries_in entries) e k (omega (arith, entries_number entries)) in
          let z : ◌≡◌ {A = ℕ} 0 1 = cc in
          absurd (omega arith)
      go (some j) e = (get_or table j no_special, ap (at_place table) (search_is id ∙ e))

  -- the special id of the entry at a place
  abbrev pub special_at : ℕ → Special
  special_at k = special_of (members_in members) added (get_or (entries_in entries) k no_entry)

  module _ (id : List ℕ) {k : ℕ} (e : entry_answer (last_from (entry_has_id added id) 0 (entries_in entries)) ≡ Some k) where
    pub found_is : last_with id table ≡ some (special_at k)
    unfolding last_with
    found_is =
        ap (at_place table) (search_is id ∙ found_at entries added id e)
        ∙ ap some (ap (λ (l : List Special). get_or l k no_special) h.table_is ∙ map_nth (special_of (members_in members) added) (entries_in entries) k no_entry no_special (omega (arith, found_among entries added id e, entries_number entries)))
