-- The steps of all pieces: how many they are, that each can be taken, and that they join what the pieces become.
-- Assumes nothing.
use mathlib.Core.Path.{◌≡◌, refl, ap, ap₂, ◌∙◌}
use mathlib.Core.Bool.{Bool, true, false}
use mathlib.Core.Option.{Option, none as nothing, some}
use mathlib.Core.List.{List, [], ◌∷◌, ◌++◌, map, flat_map}
use Prim.Native.Nat.{ℕ, ◌≤◌}
use native.Mathlib.Omega.{arith}
use lib.ListN.{length, length-append}
use Rattle.record.specs.Tree.{Encoding}
use Rattle.lists.specs.Lists.{All}
use Rattle.lists.proofs.All.{all_append}
use Rattle.lookup_ranges.specs.First.{last_from}
use Rattle.lists.proofs.FlatMap.{map_append}
use Rattle.template_pieces.specs.Piece.{Piece, sequence_a, sequence_b, special}
use Rattle.template_entries.specs.Table.{Special, entries_in}
use Rattle.template_find.specs.Last.{last_with}
use Rattle.template_find.specs.Promises.{entry_has_id, entry_answer}
use Rattle.template_entries.proofs.EntryMembers.{members_there, members_special}
use Rattle.template_entries.proofs.Sound.{TableHolds}
use Rattle.template_find.proofs.Found.{missing, found_among, found_is}
use Rattle.process_steps.specs.declared.Step.{Step}
use Rattle.process_steps.specs.Applied.{of_special, applied, lacks_second}
use Rattle.process_steps.specs.Steps.{step_encoding}
use Rattle.process_steps.specs.Promises.{StepFine}
use Rattle.process_steps.proofs.Seen.{seen_piece}
use Rattle.process_plan.specs.Promises.{special_step}
use Rattle.process_plan.proofs.Piece.{listed, steps_of}

-- ---- A second encoding that no piece lacks

lacks_first : (second : Option Encoding) (p : Piece) (ps : List Piece) → lacks_second second (p ∷ ps) ≡ false → lacks_second second (p ∷ []) ≡ false
lacks_first nothing (sequence_a t) ps e = refl
lacks_first nothing (sequence_b t) ps e = e
lacks_first nothing (special s id t) ps e = refl
lacks_first (some F) p ps e = refl

lacks_rest : (second : Option Encoding) (p : Piece) (ps : List Piece) → lacks_second second (p ∷ ps) ≡ false → lacks_second second ps ≡ false
lacks_rest nothing (sequence_a t) ps e = e
lacks_rest nothing (sequence_b t) ps e = cc
lacks_rest nothing (special s id t) ps e = e
lacks_rest (some F) p ps e = refl

-- ---- How many

module _ (entries added : List ℕ) (add : Bool) where
  listed_few : (o : Option Step) → length (listed o) ≤ 1
  listed_few nothing = omega arith
  listed_few (some s) = omega arith

  piece_few : (b : Bool) (p : Piece) → length (steps_of entries added b p) ≤ 1
  piece_few b (sequence_a t) = omega arith
  piece_few b (sequence_b t) = omega arith
  piece_few true (special s id t) = listed_few (special_step entries added t id)
  piece_few false (special s id t) = omega arith

  pub steps_few : (ps : List Piece) → length (flat_map (steps_of entries added add) ps) ≤ length ps
  unfolding flat_map
  steps_few [] = omega arith
  steps_few (p ∷ ps) = omega (arith, length-append (steps_of entries added add p) (flat_map (steps_of entries added add) ps), piece_few add p, steps_few ps)

-- ---- What they join

module _ {entries members added : List ℕ} {table : List Special} (h : TableHolds entries members added table) (second : Option Encoding) where
  module _ (t : ℕ) (id : List ℕ) where
    -- the entry and its members are those of the table
    special_fine : All (StepFine entries members second) (listed (special_step entries added t id))
    unfolding special_step entry_answer
    special_fine = go (last_from (entry_has_id added id) 0 (entries_in entries)) refl
      where
        go : (o : Option ℕ) → last_from (entry_has_id added id) 0 (entries_in entries) ≡ o → All (StepFine entries members second) (listed (special_step entries added t id))
        go nothing e = rw e tt
        go (some k) e =
            rw e (members_there h k (found_among entries added id (ap entry_answer e)), tt)

    -- and they are the members of the special id
    special_made : (E : Encoding) → map (step_encoding entries members E second) (listed (special_step entries added t id)) ≡ of_special t (last_with id table)
    unfolding special_step entry_answer
    special_made E = go (last_from (entry_has_id added id) 0 (entries_in entries)) refl
      where
        go : (o : Option ℕ) → last_from (entry_has_id added id) 0 (entries_in entries) ≡ o → map (step_encoding entries members E second) (listed (special_step entries added t id)) ≡ of_special t (last_with id table)
        go nothing e = rw (e, missing h id e)
        go (some k) e =
            rw (found_is h id (ap entry_answer e), e, members_special h k)

  piece_fine : (add : Bool) (p : Piece) → lacks_second second (p ∷ []) ≡ false → All (StepFine entries members second) (steps_of entries added add p)
  piece_fine add (sequence_a t) e = (tt, tt)
  piece_fine add (sequence_b t) e = go second e
    where
      go : (o : Option Encoding) → lacks_second o (sequence_b t ∷ []) ≡ false → All (StepFine entries members o) (steps_of entries added add (sequence_b t))
      go nothing e = let z : ◌≡◌ {A = ℕ} 0 1 = cc in absurd (omega arith)
      go (some F) e = (tt, tt)
  piece_fine true (special s id t) e = special_fine t id
  piece_fine false (special s id t) e = tt

  pub steps_fine : (add : Bool) (ps : List Piece) → lacks_second second ps ≡ false → All (StepFine entries members second) (flat_map (steps_of entries added add) ps)
  unfolding flat_map
  steps_fine add [] e = tt
  steps_fine add (p ∷ ps) e =
      all_append (StepFine entries members second) (steps_of entries added add p) (flat_map (steps_of entries added add) ps) (piece_fine add p (lacks_first second p ps e)) (steps_fine add ps (lacks_rest second p ps e))

  module _ (E : Encoding) where
    piece_made : (add : Bool) (p : Piece) → lacks_second second (p ∷ []) ≡ false → map (step_encoding entries members E second) (steps_of entries added add p) ≡ applied table add E second p
    piece_made add (sequence_a t) e = ap (◌∷ []) (seen_piece 0 t E)
    piece_made add (sequence_b t) e = go second e
      where
        go : (o : Option Encoding) → lacks_second o (sequence_b t ∷ []) ≡ false → map (step_encoding entries members E o) (steps_of entries added add (sequence_b t)) ≡ applied table add E o (sequence_b t)
        go nothing e = cc
        go (some F) e = ap (◌∷ []) (seen_piece 1 t F)
    piece_made true (special s id t) e = special_made t id E
    piece_made false (special s id t) e = refl

    pub steps_made : (add : Bool) (ps : List Piece) → lacks_second second ps ≡ false → map (step_encoding entries members E second) (flat_map (steps_of entries added add) ps) ≡ flat_map (applied table add E second) ps
    unfolding flat_map
    steps_made add [] e = refl
    steps_made add (p ∷ ps) e =
        map_append (step_encoding entries members E second) (steps_of entries added add p) (flat_map (steps_of entries added add) ps)
        ∙ ap₂ ◌++◌ (piece_made add p (lacks_first second p ps e)) (steps_made add ps (lacks_rest second p ps e))
