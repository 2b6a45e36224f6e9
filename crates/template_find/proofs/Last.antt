-- What the special id of a text is: it has that id, byte by byte, and no later one has; and there is none only if none has it.
-- Assumes nothing.
use mathlib.Core.Path.{◌≡◌, refl, ap, ◌∙◌}
use mathlib.Core.Bool.{Bool, true, false}
use mathlib.Core.Option.{Option, none as nothing, some}
use Prim.Native.Nat.{ℕ, ◌<◌}
use native.Mathlib.Nat.{sub-zero}
use native.Mathlib.Omega.{arith}
use mathlib.Core.List.{List}
use lib.ListN.{length, get_or}
use Rattle.lookup_ranges.specs.First.{last_from}
use Rattle.lookup_ranges.proofs.First.{last_found, last_nothing}
use Rattle.template_entries.specs.Table.{Special}
use Rattle.template_find.specs.Last.{no_special, at_place, has_id, last_with}
use Rattle.template_find.proofs.Bytes.{same_tells}

-- Of the special ids of a table that are this id, s is the last.
pub record LastOf (id : List ℕ) (table : List Special) (s : Special) : Type 0 where
  pub place : ℕ
  pub among : place < length table
  pub there : s ≡ get_or table place no_special
  pub same_id : s.id ≡ id
  pub none_after : (j : ℕ) → place < j → j < length table → (get_or table j no_special).id ≡ id → ⊥

true_false : {b : Bool} → b ≡ true → b ≡ false → ⊥
true_false p q = let z : ◌≡◌ {A = ℕ} 0 1 = cc in omega arith

module _ (id : List ℕ) (table : List Special) where
  pub last_with_lem : {s : Special} → last_with id table ≡ some s → LastOf id table s
  unfolding last_with
  last_with_lem {s} e = go (last_from (has_id id) 0 table) refl e
    where
      go : (o : Option ℕ) → last_from (has_id id) 0 table ≡ o → at_place table o ≡ some s → LastOf id table s
      go nothing f e = let z : ◌≡◌ {A = ℕ} 0 1 = cc in absurd (omega arith)
      go (some k) f e =
          let last = last_found (has_id id) no_special 0 table k f in
          let is : s ≡ get_or table k no_special = cc in
          record {
            place = k;
            among = omega (arith, last.inside);
            there = is;
            same_id = ap (λ (t : Special). t.id) is ∙ (same_tells (get_or table k no_special).id id).so (rw sub-zero at last.holds);
            none_after = λ j after h b. true_false ((same_tells (get_or table j no_special).id id).back b) (last.none_after j (omega arith) h);
          }

  pub last_none : last_with id table ≡ nothing → (j : ℕ) → j < length table → (get_or table j no_special).id ≡ id → ⊥
  unfolding last_with
  last_none e j h b = go (last_from (has_id id) 0 table) refl e
    where
      go : (o : Option ℕ) → last_from (has_id id) 0 table ≡ o → at_place table o ≡ nothing → ⊥
      go nothing f e = true_false ((same_tells (get_or table j no_special).id id).back b) (last_nothing (has_id id) no_special 0 table f j h)
      go (some k) f e = let z : ◌≡◌ {A = ℕ} 0 1 = cc in omega arith
