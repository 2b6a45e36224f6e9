-- What becomes of encodings that are to be padded: each refusal, and the result.
-- Assumes nothing.
use Rattle.record.specs.declared.Refusal.{Refusal}
use Rattle.std.specs.Prelude.{Result, Err}
use mathlib.Core.Path.{◌≡◌, refl, sym, ap, subst, ◌∙◌}
use mathlib.Core.Bool.{Bool, true, false, cond}
use mathlib.Core.Logic.{⊎_elim}
use Prim.Native.Nat.{ℕ, ◌≤◌, ◌<◌, min}
use native.Mathlib.Omega.{arith}
use mathlib.Core.List.{List, [], ◌∷◌}
use Rattle.record.specs.Tree.{Forest, none, node, tops, Encoding, forest}
use Rattle.record.specs.WellFormed.{Stores, most_rows}
use Rattle.record.specs.Read.{Reading, read, is_one}
use Rattle.record.specs.Standing.{One}
use Rattle.record.specs.Outcome.{Outcome, refused, done, in_room, Writes}
use Rattle.record.specs.declared.Refusal.TheVariants.{MalformedRecord, NoRoom, TextOutsidePool}
use Rattle.record.specs.declared.Written.{Written}
use Rattle.record.proofs.One.{one_of, not_one}
use Rattle.record_check.specs.Answers.{shape_of}
use Rattle.record_check.proofs.Checked.{none_of, any_of}
use Rattle.cut_plan.specs.declared.Direction.{Direction}
use Rattle.lists.proofs.Numbers.{either}
use Rattle.pad_rows.specs.declared.PadToken.{PadToken}
use Rattle.pad_length.specs.declared.PaddingStrategy.{PaddingStrategy}
use Rattle.pad_length.specs.declared.PaddingStrategy.TheVariants.{Fixed}
use Rattle.pad_write.specs.Padded.{padded}
use Rattle.pad_length.specs.Rounding.{largest_u64}
use Rattle.pad_length.specs.Target.{target_of, text_inside}
use Rattle.pad_length.proofs.Rounding.{rounded_not_below}
use Rattle.pad.specs.Padding.{unless_outside, pad_outcome, pad_encodings_outcome}
use Rattle.pad_room.proofs.Limits.{long_refused, none_done}

-- the promise by an outcome that is the same
pub writes_as : {o o' : Outcome} {answer : Result Written Refusal} {nodes rows nodes' rows' : List ℕ} → o ≡ o' → Writes o answer nodes rows nodes' rows' → Writes o' answer nodes rows nodes' rows'
writes_as {o} {o'} {answer} {nodes} {rows} {nodes'} {rows'} e w = subst (λ (t : Outcome). Writes t answer nodes rows nodes' rows') e w

-- ---- The outcome of `pad`

pub pad_malformed : (out out' : List ℕ) (pool target : ℕ) (token : PadToken) (d : Direction) (r : Reading) → is_one r ≡ false → pad_outcome out out' pool target token d r ≡ refused MalformedRecord
unfolding pad_outcome
pad_malformed out out' pool target token d r e = not_one (refused MalformedRecord) _ r e

module _ {nodes rows : List ℕ} {E : Encoding} (h : One nodes rows E) (out out' : List ℕ) (pool target : ℕ) (token : PadToken) (d : Direction) where
  pad_one : pad_outcome out out' pool target token d (read nodes rows) ≡ unless_outside out out' token pool (padded target token d (forest (E ∷ [])))
  unfolding pad_outcome
  pad_one = one_of (refused MalformedRecord) (λ (E : Encoding). unless_outside out out' token pool (padded target token d (forest (E ∷ [])))) h

  pub pad_outside : text_inside token pool ≡ false → pad_outcome out out' pool target token d (read nodes rows) ≡ refused TextOutsidePool
  pad_outside t = pad_one ∙ ap (λ (b : Bool). cond b (in_room out out' (padded target token d (forest (E ∷ [])))) (refused TextOutsidePool)) t

  pub pad_inside : text_inside token pool ≡ true → pad_outcome out out' pool target token d (read nodes rows) ≡ in_room out out' (padded target token d (forest (E ∷ [])))
  pad_inside t = pad_one ∙ ap (λ (b : Bool). cond b (in_room out out' (padded target token d (forest (E ∷ [])))) (refused TextOutsidePool)) t

-- ---- The outcome of `pad_encodings`

-- the target may stop at any number above the limits
pub capped : (most target : ℕ) → most_rows < most → (token : PadToken) (d : Direction) (out out' : List ℕ) (f : Forest) → in_room out out' (padded (min target most) token d f) ≡ in_room out out' (padded target token d f)
capped most target h token d out out' none = refl
capped most target h token d out out' (node r q w x) = ⊎_elim same above (either target most)
  where
    same : target ≤ most → in_room out out' (padded (min target most) token d (node r q w x)) ≡ in_room out out' (padded target token d (node r q w x))
    same l = let e : min target most ≡ target = omega arith in ap (λ (t : ℕ). in_room out out' (padded t token d (node r q w x))) e

    refuses : (t : ℕ) → most_rows < t → in_room out out' (padded t token d (node r q w x)) ≡ refused NoRoom
    refuses t l = long_refused t token d out out' l (node r q w x) (omega arith)

    above : most < target → in_room out out' (padded (min target most) token d (node r q w x)) ≡ in_room out out' (padded target token d (node r q w x))
    above l = refuses (min target most) (omega arith) ∙ sym (refuses target (omega arith))

pub encodings_malformed : (out out' : List ℕ) (pool : ℕ) (strategy : PaddingStrategy) (multiple : ℕ) (token : PadToken) (d : Direction) (r : Reading) {why : Refusal} → shape_of r ≡ Err why → pad_encodings_outcome out out' pool strategy multiple token d r ≡ refused MalformedRecord
unfolding pad_encodings_outcome
encodings_malformed out out' pool strategy multiple token d r {why} e = none_of (refused MalformedRecord) (λ (f : Forest). unless_outside out out' token pool (padded (target_of strategy multiple f) token d f)) r e

module _ {nodes rows : List ℕ} {f : Forest} (s : Stores nodes rows f) (out out' : List ℕ) (pool : ℕ) (strategy : PaddingStrategy) (multiple : ℕ) (token : PadToken) (d : Direction) where
  encodings_any : pad_encodings_outcome out out' pool strategy multiple token d (read nodes rows) ≡ unless_outside out out' token pool (padded (target_of strategy multiple f) token d f)
  unfolding pad_encodings_outcome
  encodings_any = any_of (refused MalformedRecord) (λ (f : Forest). unless_outside out out' token pool (padded (target_of strategy multiple f) token d f)) s

  pub encodings_outside : text_inside token pool ≡ false → pad_encodings_outcome out out' pool strategy multiple token d (read nodes rows) ≡ refused TextOutsidePool
  encodings_outside t = encodings_any ∙ ap (λ (b : Bool). cond b (in_room out out' (padded (target_of strategy multiple f) token d f)) (refused TextOutsidePool)) t

  pub encodings_inside : text_inside token pool ≡ true → pad_encodings_outcome out out' pool strategy multiple token d (read nodes rows) ≡ in_room out out' (padded (target_of strategy multiple f) token d f)
  encodings_inside t = encodings_any ∙ ap (λ (b : Bool). cond b (in_room out out' (padded (target_of strategy multiple f) token d f)) (refused TextOutsidePool)) t

  -- a length above the limits is refused with 2, whether 64 bits hold it or not
  pub encodings_long : text_inside token pool ≡ true → 0 < tops f → most_rows < target_of strategy multiple f → pad_encodings_outcome out out' pool strategy multiple token d (read nodes rows) ≡ refused NoRoom
  encodings_long t some l = encodings_inside t ∙ long_refused (target_of strategy multiple f) token d out out' l f some

-- and an empty batch has nothing to pad, whatever the length
pub encodings_none : {nodes rows : List ℕ} → Stores nodes rows none → (out out' : List ℕ) (pool : ℕ) (strategy : PaddingStrategy) (multiple : ℕ) (token : PadToken) (d : Direction) → text_inside token pool ≡ true → pad_encodings_outcome out out' pool strategy multiple token d (read nodes rows) ≡ done none
encodings_none s out out' pool strategy multiple token d t = encodings_inside s out out' pool strategy multiple token d t ∙ none_done (target_of strategy multiple none) token d out out'

-- so at length 2^64 - 1 and multiple 2, where no number of 64 bits is the rounded length (`corner` of pad_length)
pub encodings_corner : {nodes rows : List ℕ} {f : Forest} → Stores nodes rows f → (out out' : List ℕ) (pool : ℕ) (token : PadToken) (d : Direction) → text_inside token pool ≡ true → 0 < tops f → pad_encodings_outcome out out' pool (Fixed largest_u64) 2 token d (read nodes rows) ≡ refused NoRoom
encodings_corner s out out' pool token d t some = encodings_long s out out' pool (Fixed largest_u64) 2 token d t some (omega (arith, rounded_not_below largest_u64 2))
