-- The steps of a piece that was read: one, or none for a special piece that is left out.
-- Assumes nothing.
use mathlib.Core.Path.{◌≡◌, refl, ap, sym, subst, ◌∙◌}
use mathlib.Core.Bool.{Bool, true, false, cond}
use mathlib.Core.Option.{Option, none as nothing, some, map}
use mathlib.Core.List.{List, [], ◌∷◌}
use Prim.Native.Nat.{ℕ, ◌+◌, ◌-◌, ◌≤◌}
use native.Mathlib.Nat.{add-sub_cancel_left}
use lib.ListN.{length, take, drop}
use Rattle.std.specs.Prelude.{Option as Answer, Some, None, Result, Ok, Err}
use Rattle.record.specs.declared.Refusal.{Refusal}
use Rattle.record.specs.declared.Refusal.TheVariants.{SpecialIdUnknown}
use Rattle.lookup_ranges.specs.First.{last_from}
use Rattle.template_pieces.specs.Piece.{Piece, sequence_a, sequence_b, special, piece_told}
use Rattle.template_pieces.specs.declared.Piece.{Piece as PieceRead}
use Rattle.template_pieces.specs.declared.Name.{Name}
use Rattle.template_pieces.specs.declared.Name.TheVariants.{A, B, Special as SpecialName}
use Rattle.template_pieces.proofs.Lies.{Lies, PieceIs}
use Rattle.template_entries.specs.Table.{Special as SpecialId, entries_in}
use Rattle.template_entries.proofs.Sound.{TableHolds}
use Rattle.template_find.specs.Last.{last_with}
use Rattle.template_find.proofs.Found.{missing}
use Rattle.template_find.specs.Promises.{entry_has_id, entry_answer}
use Rattle.process_steps.specs.declared.Step.{Step}
use Rattle.process_steps.specs.declared.Step.TheVariants.{First, Second, Special}
use Rattle.process_plan.specs.Promises.{special_step, known_step, step_of, IdInside}

-- an id lies in the text, where that is known of a special piece
pub id_inside : (text : List ℕ) (name : Name) → ((start size : ℕ) → name ≡ SpecialName start size → start + size ≤ length text) → IdInside text name
id_inside text A h = tt
id_inside text B h = tt
id_inside text (SpecialName start size) h = h start size refl

-- ---- The step of a special id, by the entry that was found

module _ (entries added : List ℕ) (t : ℕ) (id : List ℕ) where
  found_none : (o : Option ℕ) → entry_answer o ≡ None → known_step (map (Special t) o) ≡ Err SpecialIdUnknown
  unfolding entry_answer
  found_none nothing e = refl
  found_none (some j) e = cc

  found_some : (o : Option ℕ) {k : ℕ} → entry_answer o ≡ Some k → known_step (map (Special t) o) ≡ Ok (Some (Special t k))
  unfolding entry_answer
  found_some nothing e = cc
  found_some (some j) {k} e = let here : j ≡ k = cc in rw here refl

  pub step_unknown : entry_answer (last_from (entry_has_id added id) 0 (entries_in entries)) ≡ None → known_step (special_step entries added t id) ≡ Err SpecialIdUnknown
  unfolding special_step
  step_unknown e = found_none (last_from (entry_has_id added id) 0 (entries_in entries)) e

  pub step_found : {k : ℕ} → entry_answer (last_from (entry_has_id added id) 0 (entries_in entries)) ≡ Some k → known_step (special_step entries added t id) ≡ Ok (Some (Special t k))
  unfolding special_step
  step_found e = found_some (last_from (entry_has_id added id) 0 (entries_in entries)) e

-- an id without a step is in no table with these entries
pub not_there : {entries members added : List ℕ} {table : List SpecialId} → TableHolds entries members added table → (t : ℕ) (id : List ℕ) → special_step entries added t id ≡ nothing → last_with id table ≡ nothing
unfolding special_step
not_there {entries} {members} {added} {table} h t id e = missing h id (go (last_from (entry_has_id added id) 0 (entries_in entries)) e)
  where
    go : (o : Option ℕ) → map (Special t) o ≡ nothing → o ≡ nothing
    go nothing e = refl
    go (some k) e = cc

-- ---- The steps of a piece

-- the step, if there is one
abbrev pub listed : Option Step → List Step
listed nothing = []
listed (some s) = s ∷ []

abbrev pub listed_answer : Answer Step → List Step
listed_answer None = []
listed_answer (Some s) = s ∷ []

module _ (entries added : List ℕ) where
  -- a special piece is a step only if special tokens are added
  abbrev pub steps_of : Bool → Piece → List Step
  steps_of add (sequence_a t) = First t ∷ []
  steps_of add (sequence_b t) = Second t ∷ []
  steps_of add (special start id t) = cond add (listed (special_step entries added t id)) []

  -- A special piece whose id is unknown, though it is needed.
  pub record Unknown (add : Bool) (p : Piece) : Type 0 where
    pub place : ℕ
    pub id : List ℕ
    pub type : ℕ
    pub is : p ≡ special place id type
    pub adds : add ≡ true
    pub missing : special_step entries added type id ≡ nothing

  -- what a step says of the piece
  abbrev pub Gives : Bool → Piece → Result (Answer Step) Refusal → Type 0
  Gives add p (Err why) = Unknown add p
  Gives add p (Ok None) = steps_of add p ≡ []
  Gives add p (Ok (Some s)) = steps_of add p ≡ s ∷ []

  special_gives : (add : Bool) (start : ℕ) (id : List ℕ) (t : ℕ) → Gives add (special start id t) (cond add (known_step (special_step entries added t id)) (Ok None))
  special_gives false start id t = refl
  special_gives true start id t = go (special_step entries added t id) refl
    where
      go : (o : Option Step) → special_step entries added t id ≡ o → Gives true (special start id t) (known_step o)
      go nothing e = record { place = start; id = id; type = t; is = refl; adds = refl; missing = e }
      go (some s) e = ap listed e

  pub piece_gives : (add : Bool) {text : List ℕ} {told : PieceRead} (p : Piece) → PieceIs text told p → Gives add p (step_of entries added add text told)
  unfolding step_of
  piece_gives add {text} {told} p is = subst (λ (q : PieceRead). Gives add p (step_of entries added add text q)) is.same (go p is.lies_there)
    where
      go : (p : Piece) → Lies text p → Gives add p (step_of entries added add text (piece_told p))
      go (sequence_a t) l = refl
      go (sequence_b t) l = refl
      go (special start id t) l =
          let lies : take (start + length id - start) (drop start text) ≡ id = ap (λ (n : ℕ). take n (drop start text)) (add-sub_cancel_left start (length id)) ∙ l.1 in
          subst (λ (xs : List ℕ). Gives add (special start id t) (cond add (known_step (special_step entries added t xs)) (Ok None))) (sym lies) (special_gives add start id t)
