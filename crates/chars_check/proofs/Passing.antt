-- Passing over a text: over one character, over bytes that are characters by themselves, over a block.
-- Assumes nothing.
use mathlib.Core.Path.{◌≡◌, refl, ap, sym, ◌∙◌}
use mathlib.Core.Bool.{Bool, true, false}
use Prim.Native.Nat.{ℕ, zero, suc, ◌+◌, ◌-◌, ◌≤◌, ◌<◌}
use native.Mathlib.Omega.{arith}
use mathlib.Core.List.{List, flatten}
use lib.Dec.{eqb}
use lib.ListN.{length, get_or, take, drop, length-drop, drop_of_length-le}
use lib.Seq.{drop-cons, drop-drop}
use borrow.Author.Tests.{eqb-true, eqb-false}
use Rattle.chars_text.specs.Utf8.{character}
use Rattle.chars_text.specs.Characters.{characters_in, well_formed}
use Rattle.chars_text.proofs.Rows.{one}
use Rattle.chars_text.proofs.Led.{character_inside}
use Rattle.chars_text.proofs.Reading.{well_formed_step, well_formed_none}
use Rattle.chars_check.specs.Promises.{longs, Walked, PlainSkipped, Passed}
use Rattle.chars_check.proofs.Longs.{longs_none}

-- ---- One character after another

-- The text was passed up to here.
pub record Walking (text : List ℕ) (from at : ℕ) : Type 0 where
  pub onward : from ≤ at
  pub inside : at ≤ length text
  pub same : well_formed (drop from text) ≡ well_formed (drop at text)

pub walking_start : (text : List ℕ) (from : ℕ) → from ≤ length text → Walking text from from
walking_start text from h = record { onward = omega arith; inside = h; same = refl }

module _ {text : List ℕ} {from at : ℕ} (w : Walking text from at) where
  pub walking_size : (size : ℕ) → size ≡ character (drop at text) → at + size ≤ length text
  walking_size size e = omega (arith, e, character_inside (drop at text), length-drop at text, w.inside)

  pub walking_more : (size : ℕ) → size ≡ character (drop at text) → (size ≡ 0 → ⊥) → Walking text from (at + size)
  walking_more zero e some = absurd (some refl)
  walking_more (suc n) e some =
      record {
        onward = omega (arith, w.onward);
        inside = walking_size (suc n) e;
        same = w.same ∙ well_formed_step (drop at text) n (sym e) ∙ ap well_formed (drop-drop (suc n) at text);
      }

  pub walking_stop : (to size : ℕ) → size ≡ character (drop at text) → size ≡ 0 → Walked text from to at
  walking_stop to size e none = record { onward = w.onward; inside = w.inside; same = w.same; stopped = λ h. sym e ∙ none }

  pub walking_there : (to : ℕ) → to ≤ at → Walked text from to at
  walking_there to h = record { onward = w.onward; inside = w.inside; same = w.same; stopped = λ under. absurd (omega arith) }

  pub walking_on : (next : ℕ) → Passed text at next → Walking text from next
  walking_on next p = record { onward = omega (arith, w.onward, p.onward); inside = p.inside; same = w.same ∙ p.same }

-- ---- Bytes that are characters by themselves, one after another

pub plain_start : (text : List ℕ) (from to : ℕ) → from ≤ to → PlainSkipped text from to from
plain_start text from to h = record { onward = omega arith; few = h; same = refl }

pub plain_more : {text : List ℕ} {from to at : ℕ} → PlainSkipped text from to at → at < to → to ≤ length text → get_or text at 0 < 0x80 → PlainSkipped text from to (at + 1)
plain_more {text} {from} {to} {at} p h inside e =
    let w : Walking text from at = record { onward = p.onward; inside = omega arith; same = p.same } in
    let here : 1 ≡ character (drop at text) = rw (drop-cons text at 0 (omega arith)) (sym (one (get_or text at 0) (drop (suc at) text) e)) in
    record { onward = omega (arith, p.onward); few = omega arith; same = (walking_more w 1 here (λ none. absurd (omega (arith, none)))).same }

-- ---- A block

module _ {text : List ℕ} {at to : ℕ} (b : (at < to) × (to ≤ length text)) where
  pub block_plain : (count : ℕ) → count ≡ longs (take (to - at) (drop at text)) → count ≡ 0 → Passed text at to
  block_plain count e none =
      let there : at + (to - at) ≡ to = omega (arith, b.0) in
      record {
        onward = omega (arith, b.0);
        inside = b.1;
        same = longs_none (to - at) (drop at text) (omega (arith, length-drop at text, b.1)) (sym e ∙ none)
            ∙ ap well_formed (drop-drop (to - at) at text ∙ ap (λ (n : ℕ). drop n text) there);
        stopped = λ h. absurd (omega (arith, h, b.0));
      }

  pub block_broken : {next : ℕ} → Walked text at to next → next < to → Passed text at at
  block_broken {next} w h =
      record {
        onward = omega arith;
        inside = omega (arith, b.0, b.1);
        same = refl;
        stopped = λ e. w.same ∙ well_formed_none (drop next text) (w.stopped h) (omega (arith, length-drop next text, b.1));
      }

  pub block_walked : {next : ℕ} → Walked text at to next → to ≤ next → Passed text at next
  block_walked {next} w h =
      record { onward = w.onward; inside = w.inside; same = w.same; stopped = λ e. absurd (omega (arith, e, b.0)) }

  -- up to the first byte that is no character by itself
  module _ {first : ℕ} (p : PlainSkipped text at to first) where
    pub skipped_walking : Walking text at first
    skipped_walking = record { onward = p.onward; inside = omega (arith, p.few, b.1); same = p.same }

    pub block_all_plain : first ≡ to → Passed text at to
    block_all_plain e = rw (← e) (record { onward = p.onward; inside = skipped_walking.inside; same = p.same; stopped = λ same. absurd (omega (arith, same, e, b.0)) })

    pub block_first : (size : ℕ) → size ≡ character (drop first text) → (size ≡ 0 → ⊥) → Passed text at (first + size)
    block_first size e some =
        let w = walking_more skipped_walking size e some in
        record { onward = w.onward; inside = w.inside; same = w.same; stopped = λ same. absurd (some (omega (arith, same, p.onward))) }

-- ---- The whole text

module _ {text : List ℕ} {at : ℕ} (w : Walking text 0 at) where
  pub text_broken : {next : ℕ} → Passed text at next → next ≡ at → false ≡ well_formed text
  text_broken p e = sym (w.same ∙ p.stopped e)

  -- what is left is walked over to its end, or it is not well-formed
  pub text_rest : {rest : ℕ} → Walked text at (length text) rest → eqb rest (length text) ≡ well_formed text
  unfolding characters_in flatten
  text_rest {rest} walked = go (eqb rest (length text)) refl ∙ sym (w.same ∙ walked.same)
    where
      go : (t : Bool) → eqb rest (length text) ≡ t → t ≡ well_formed (drop rest text)
      go true t =
          let past : length text ≤ rest = omega (arith, eqb-true rest (length text) t) in
          sym (ap well_formed (drop_of_length-le text past))
      go false t =
          let under : rest < length text = omega (arith, walked.inside, eqb-false rest (length text) t) in
          sym (well_formed_none (drop rest text) (walked.stopped under) (omega (arith, length-drop rest text)))
