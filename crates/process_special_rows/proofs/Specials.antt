-- The rows of members of the special table: one more after the others.
-- Assumes nothing.
use mathlib.Core.Path.{◌≡◌, sym, ap, ◌∙◌}
use Prim.Native.Nat.{ℕ, ◌+◌, ◌*◌, ◌/◌, ◌≤◌, ◌<◌}
use native.Mathlib.Numerals.{add-one}
use native.Mathlib.Omega.{arith}
use mathlib.Core.List.{List, [], ◌∷◌, ◌++◌, flat_map, map, map-append, append-nil}
use lib.ListN.{length, get_or, take, drop, length-map, length-drop}
use lib.Seq.{sets, take-suc, length-take-le, get_or-drop}
use Rattle.record.specs.Tree.{Row}
use Rattle.record.specs.Flat.{row_width, row_numbers}
use Rattle.record.proofs.Flat.{length_numbers, row_stored}
use Rattle.record.proofs.Walk.{numbers_append}
use Rattle.template_entries.specs.Table.{Member, no_member, member_width, members_in}
use Rattle.template_entries.specs.Rows.{special_row, members_from}
use Rattle.template_entries.proofs.Entries.{members_number}
use Rattle.lists.proofs.Writing.{two_sets}
use Rattle.process_special_rows.specs.Lengthened.{special_rows}

module _ (members : List ℕ) (first t : ℕ) where
  -- a row for each member
  pub specials_number : (count : ℕ) → first + count ≤ length members / member_width → length (special_rows members first count t) ≡ count
  specials_number count h =
      length-map (members_from members first count) (special_row t)
      ∙ length-take-le count (drop first (members_in members)) (omega (arith, length-drop first (members_in members), members_number members))

  pub specials_long : (count : ℕ) → first + count ≤ length members / member_width → length (flat_map row_numbers (special_rows members first count t)) ≡ count * row_width
  specials_long count h = length_numbers row_stored (special_rows members first count t) ∙ ap (λ (n : ℕ). n * row_width) (specials_number count h)

  -- the row of the next one
  specials_more : (k : ℕ) → first + k < length members / member_width
      → flat_map row_numbers (special_rows members first k t) ++ row_numbers (special_row t (get_or (members_in members) (first + k) no_member)) ≡ flat_map row_numbers (special_rows members first (k + 1) t)
  unfolding flat_map
  specials_more k h =
      let from = drop first (members_in members) in
      let m = get_or (members_in members) (first + k) no_member in
      let last : get_or from k no_member ≡ m = get_or-drop first (members_in members) k no_member in
      let more : take (k + 1) from ≡ take k from ++ (m ∷ []) =
      ap (λ (n : ℕ). take n from) (add-one k) ∙ take-suc from k no_member (omega (arith, length-drop first (members_in members), members_number members)) ∙ ap (λ (m : Member). take k from ++ (m ∷ [])) last in
      ap (flat_map row_numbers (special_rows members first k t) ++◌) (sym (append-nil (row_numbers (special_row t m))))
      ∙ sym (ap (λ (ms : List Member). flat_map row_numbers (map (special_row t) ms)) more ∙ ap (flat_map row_numbers) (map-append (special_row t) (take k from) (m ∷ [])) ∙ numbers_append (map (special_row t) (take k from)) (special_row t m ∷ []))

  -- a turn that writes it
  pub specials_turn : (k to : ℕ) (was : List ℕ) {at : ℕ} {out out' : List ℕ} {r : Row} → first + k < length members / member_width → at ≡ to + k * row_width → out ≡ sets was to (flat_map row_numbers (special_rows members first k t))
      → r ≡ special_row t (get_or (members_in members) (first + k) no_member) → out' ≡ sets out at (row_numbers r) → out' ≡ sets was to (flat_map row_numbers (special_rows members first (k + 1) t))
  specials_turn k to was {at} {out} {out'} {r} h a o e p =
      two_sets was to (flat_map row_numbers (special_rows members first k t)) (row_numbers r) o (omega (arith, specials_long k (omega arith))) p
      ∙ ap (sets was to) (ap (λ (r : Row). flat_map row_numbers (special_rows members first k t) ++ row_numbers r) e ∙ specials_more k h)
