-- An input taken piece by piece: what is held after a step, and after a piece. Assumes nothing.
use mathlib.Core.Path.{◌≡◌, refl, sym, ap, ap₂, subst, ◌∙◌}
use mathlib.Core.Logic.{inl, inr, ⊎_elim}
use Prim.Native.Nat.{ℕ, ◌+◌, ◌-◌, ◌≤◌, ◌<◌}
use native.Mathlib.Omega.{arith}
use mathlib.Core.List.{List, ◌++◌, append_assoc}
use lib.ListN.{length, take, drop, length-append, length-drop, take-append-drop}
use lib.Seq.{sets-eq, length-take-le, take_at, drop-drop, drop-length, length-sets}
use Rattle.lists.proofs.Numbers.{either}
use Rattle.record.specs.declared.Refusal.{Refusal}
use Rattle.listing_text.specs.Promises.{WroteText}
use Rattle.report_trees.specs.declared.Report.{Report}
use Rattle.std.specs.Prelude.{Ok, Err}
use Rattle.report_stored.specs.Stored.{head_bytes, stored_size}
use Rattle.report_held.specs.Input.{report_from}
use Rattle.report_held.specs.Promises.{resumed, Partial, TakesNext, Arrived, Settles}
use Rattle.report_held.specs.declared.Held.{Held}
use Rattle.report_held.proofs.Settling.{resumed_is, front_size, partial_whole}
use Rattle.report_input.specs.Promises.{Moves, Feeds}
use Rattle.report_input.specs.declared.Step.{Step}

-- ---- One step

-- what was held, and after it what was put there
module _ {batch batch' text : List ℕ} {n next : ℕ} (w : WroteText text batch n next batch') (inside : n + length text ≤ length batch) where
  written_all : batch' ≡ (take n batch ++ text) ++ drop (n + length text) batch
  written_all = w.put ∙ sets-eq text batch n inside

  written_first : take n batch' ≡ take n batch
  written_first = ap (take n) (written_all ∙ append_assoc (take n batch) text (drop (n + length text) batch)) ∙ take_at (take n batch) (text ++ drop (n + length text) batch) n (length-take-le n batch (omega arith))

  pub written_front : take next batch' ≡ take n batch ++ text
  written_front =
      let long : length (take n batch ++ text) ≡ next = omega (arith, length-append (take n batch) text, length-take-le n batch (omega arith), w.ends) in
      ap (take next) written_all
      ∙ take_at (take n batch ++ text) (drop (n + length text) batch) next long

  -- the counts are as they were if they had come
  pub written_size : head_bytes ≤ n → stored_size batch' ≡ stored_size batch
  written_size counts =
      let long : length batch' ≡ length batch = ap length w.put ∙ length-sets batch n text in
      sym (front_size batch' n counts (omega arith)) ∙ ap stored_size written_first ∙ front_size batch n counts (omega arith)

  -- and no more has come than was wanted
  pub written_arrived : {left r : ℕ} → TakesNext batch n left r → length text ≡ r → Partial batch n → Arrived batch' next
  written_arrived t long partial = ⊎_elim batch_comes counts_come (either head_bytes n)
    where
      counts_come : n < head_bytes → Arrived batch' next
      counts_come few = inl (omega (arith, t.counts few, w.ends))

      batch_comes : head_bytes ≤ n → Arrived batch' next
      batch_comes counts =
          let p = partial_whole batch n partial counts in
          inr (omega (arith, w.ends), omega (arith, t.whole counts, w.ends, written_size counts), omega (arith, p.1, written_size counts))

-- what is taken of a piece, and what is left of it
taken_left : (piece : List ℕ) (at end : ℕ) → at ≤ end → take (end - at) (drop at piece) ++ drop end piece ≡ drop at piece
taken_left piece at end h =
    let there : at + (end - at) ≡ end = omega arith in
    ap (take (end - at) (drop at piece) ++◌) (ap (λ (k : ℕ). drop k piece) (sym there) ∙ sym (drop-drop (end - at) at piece)) ∙ take-append-drop (end - at) (drop at piece)

pub taken_long : (piece : List ℕ) (at r : ℕ) → at + r ≤ length piece → length (take (at + r - at) (drop at piece)) ≡ r
taken_long piece at r h =
    let some : at + r - at ≡ r = omega arith in
    length-take-le (at + r - at) (drop at piece) (omega (arith, length-drop at piece)) ∙ some

-- the bytes were put behind those held, and settled
pub moved : {piece : List ℕ} {from r : Step} {batch batch' text : List ℕ} {report : Report} {n next : ℕ}
    → from.held.bytes ≡ n → from.held.report ≡ Ok report
    → WroteText text batch n next batch' → n + length text ≤ length batch
    → text ≡ take (r.at - from.at) (drop from.at piece)
    → from.at < r.at → r.at ≤ length piece
    → Settles batch' next report r.held
    → Moves piece from batch r batch'
moved {piece} {from} {r} {batch} {batch'} {text} {report} {n} {next} p q w inside is goes within s =
    record { goes = goes; inside = within; partial = s.partial; same = λ more. s.same (drop r.at piece ++ more) ∙ ap (report_from report) (front more) ∙ sym (resumed_is p q batch (drop from.at piece ++ more)) }
  where
    left : text ++ drop r.at piece ≡ drop from.at piece
    left = ap (λ (l : List ℕ). l ++ drop r.at piece) is ∙ taken_left piece from.at r.at (omega arith)

    front : (more : List ℕ) → take next batch' ++ (drop r.at piece ++ more) ≡ take n batch ++ (drop from.at piece ++ more)
    front more =
        ap (λ (l : List ℕ). l ++ (drop r.at piece ++ more)) (written_front w inside)
        ∙ append_assoc (take n batch) text (drop r.at piece ++ more)
        ∙ ap (λ (l : List ℕ). take n batch ++ l) (sym (append_assoc text (drop r.at piece) more) ∙ ap (λ (l : List ℕ). l ++ more) left)

-- after a refusal what follows plays no part
pub passed_over : {piece : List ℕ} {from r : Step} {batch : List ℕ} {why : Refusal} → from.held.report ≡ Err why → from.at < length piece → Partial batch from.held.bytes
    → r.at ≡ length piece → r.held ≡ from.held → Moves piece from batch r batch
passed_over {piece} {from} {r} {batch} {why} q h partial e f =
    record {
      goes = omega arith;
      inside = omega arith;
      partial = subst (λ (held : Held). Partial batch held.bytes) (sym f) partial;
      same = λ more. ap (λ (held : Held). resumed held batch (drop r.at piece ++ more)) f
          ∙ resumed_is refl q batch (drop r.at piece ++ more)
          ∙ sym (resumed_is refl q batch (drop from.at piece ++ more));
    }

-- ---- A whole piece

-- the piece was taken up to a place
pub record Taking (piece : List ℕ) (before : Held) (batch : List ℕ) (step : Step) (batch' : List ℕ) : Type 0 where
  pub inside : step.at ≤ length piece
  pub partial : Partial batch' step.held.bytes
  pub same : (more : List ℕ) → resumed step.held batch' (drop step.at piece ++ more) ≡ resumed before batch (piece ++ more)

pub taking_start : {piece : List ℕ} {before : Held} {batch : List ℕ} {step : Step} → step.at ≡ 0 → step.held ≡ before → Partial batch before.bytes → Taking piece before batch step batch
taking_start {piece} {before} {batch} {step} e f partial =
    record {
      inside = omega arith;
      partial = subst (λ (held : Held). Partial batch held.bytes) (sym f) partial;
      same = λ more. ap₂ (λ (k : ℕ) (held : Held). resumed held batch (drop k piece ++ more)) e f;
    }

pub taking_more : {piece : List ℕ} {before : Held} {batch batch' batch'' : List ℕ} {step r : Step} → Taking piece before batch step batch' → Moves piece step batch' r batch'' → Taking piece before batch r batch''
taking_more t m = record { inside = m.inside; partial = m.partial; same = λ more. m.same more ∙ t.same more }

pub taking_end : {piece : List ℕ} {before : Held} {batch batch' : List ℕ} {step : Step} {held : Held} → Taking piece before batch step batch' → length piece ≤ step.at → held ≡ step.held → Feeds piece before batch held batch'
taking_end {piece} {before} {batch} {batch'} {step} {held} t all f =
    let end : step.at ≡ length piece = omega (arith, t.inside) in
    record {
      partial = subst (λ (h : Held). Partial batch' h.bytes) (sym f) t.partial;
      same = λ more. ap₂ (λ (h : Held) (l : List ℕ). resumed h batch' (l ++ more)) f (sym (ap (λ (k : ℕ). drop k piece) end ∙ drop-length piece)) ∙ t.same more;
    }
