-- The lines about windows: how long one is, and those written so far.
-- Assumes nothing.
use mathlib.Core.Path.{◌≡◌, refl, sym, ap, ap₂, subst, ◌∙◌}
use mathlib.Core.Logic.{◌⊎◌, inl, inr, ⊎_elim}
use Prim.Native.Nat.{ℕ, suc, ◌+◌, ◌-◌, ◌≤◌, ◌<◌}
use native.Mathlib.Nat.{add-zero, add-suc, suc-add}
use native.Mathlib.Omega.{arith}
use mathlib.Core.List.{List, [], ◌∷◌, ◌++◌, append_assoc, append-nil}
use lib.ListN.{length, get_or, take, drop, length-append, length-take, length-drop, take-append-drop}
use lib.Seq.{take-suc, get_or-drop, drop-drop, length-sets}
use Rattle.cut_plan.specs.Cut.{bounds}
use Rattle.lists.proofs.Numbers.{either}
use Rattle.record.specs.declared.Bounds.{Bounds}
use Rattle.listing_text.specs.Text.{bytes, number_text}
use Rattle.listing.specs.Answer.{count_line, window_line, window_lines, windows_listed}
use Rattle.listing.specs.Promises.{longest_line, Lists}
use Rattle.listing_text.specs.Promises.{WroteText}
use Rattle.listing_request.specs.Asked.{space_byte}
use Rattle.listing_request.specs.declared.Request.{Request}
use Rattle.listing.specs.declared.Step.{Step}
use Rattle.listing_text.proofs.Text.{number_few}
use Rattle.listing_text.proofs.Wrote.{wrote_then, wrote_as}

-- ---- One line

-- a number and the byte after it
abbrev pub field : ℕ → ℕ → List ℕ
field n byte = number_text n ++ (byte ∷ [])

pub length_field : (n byte : ℕ) → length (field n byte) ≡ length (number_text n) + 1
length_field n byte = length-append (number_text n) (byte ∷ [])

-- the byte that ends a line
abbrev pub newline_byte : ℕ
newline_byte = 10

-- the line is three of these
pub window_fields : (i : ℕ) (b : Bounds) → field i space_byte ++ (field b.start space_byte ++ field b.end newline_byte) ≡ window_line i b
unfolding window_line
window_fields i b = simp append_assoc

pub count_fields : (n : ℕ) → bytes "windows " ++ field n newline_byte ≡ count_line n
unfolding count_line
count_fields n = refl

pub line_few : (i : ℕ) (b : Bounds) → length (window_line i b) ≤ longest_line
line_few i b =
    omega (arith, ap length (window_fields i b), length-append (field i space_byte) (field b.start space_byte ++ field b.end newline_byte), length-append (field b.start space_byte) (field b.end newline_byte), length_field i space_byte, length_field b.start space_byte, length_field b.end newline_byte, number_few i, number_few b.start, number_few b.end)

-- ---- Those written so far

lines_last : (i : ℕ) (bs : List Bounds) (b : Bounds) → window_lines i (bs ++ (b ∷ [])) ≡ window_lines i bs ++ window_line (i + length bs) b
unfolding window_lines
lines_last i [] b = rw (append-nil, add-zero)
lines_last i (c ∷ bs) b = rw (lines_last (suc i) bs b, append_assoc, add-suc, suc-add)

-- the windows from `from` on, up to `next`, of these
abbrev pub between : List Bounds → ℕ → ℕ → List Bounds
between ws from next = take (next - from) (drop from ws)

between_more : (ws : List Bounds) (from next : ℕ) → from ≤ next → next < length ws → window_lines from (between ws from (next + 1)) ≡ window_lines from (between ws from next) ++ window_line next (get_or ws next (bounds 0 0))
between_more ws from next a b =
    let k : next + 1 - from ≡ suc (next - from) = omega arith in
    let inside : next - from < length (drop from ws) = omega (arith, length-drop from ws) in
    let there : from + (next - from) ≡ next = omega arith in
    let far : from + length (between ws from next) ≡ next = omega (arith, length-take (next - from) (drop from ws), length-drop from ws) in
    ap (λ (m : ℕ). window_lines from (take m (drop from ws))) k ∙ ap (window_lines from) (take-suc (drop from ws) (next - from) (bounds 0 0) inside)
    ∙ lines_last from (between ws from next) (get_or (drop from ws) (next - from) (bounds 0 0))
    ∙ ap₂ (λ (m : ℕ) (b : Bounds). window_lines from (between ws from next) ++ window_line m b) far (get_or-drop from ws (next - from) (bounds 0 0) ∙ ap (λ (m : ℕ). get_or ws m (bounds 0 0)) there)

-- the blocks of a listing, one after another, are the lines about all windows
lines_append : (i : ℕ) (bs cs : List Bounds) → window_lines i (bs ++ cs) ≡ window_lines i bs ++ window_lines (i + length bs) cs
unfolding window_lines
lines_append i [] cs = rw add-zero
lines_append i (b ∷ bs) cs = rw (lines_append (suc i) bs cs, append_assoc, add-suc, suc-add)

pub blocks_join : (ws : List Bounds) (from next : ℕ) → from ≤ next → next ≤ length ws → window_lines from (between ws from next) ++ window_lines next (drop next ws) ≡ window_lines from (drop from ws)
blocks_join ws from next a b =
    let far : from + length (between ws from next) ≡ next = omega (arith, length-take (next - from) (drop from ws), length-drop from ws) in
    let there : from + (next - from) ≡ next = omega arith in
    ap (λ (m : ℕ). window_lines from (between ws from next) ++ window_lines m (drop next ws)) (sym far) ∙ sym (lines_append from (between ws from next) (drop next ws))
    ∙ ap (λ (l : List Bounds). window_lines from (between ws from next ++ l)) (ap (λ (m : ℕ). drop m ws) (sym there) ∙ sym (drop-drop (next - from) from ws)) ∙ ap (window_lines from) (take-append-drop (next - from) (drop from ws))

-- `next` is the next window, and the lines about those before it stand from `at` up to `place`
pub record Listing (q : Request) (from : ℕ) (out : List ℕ) (at next place : ℕ) (out' : List ℕ) : Type 0 where
  pub goes : from ≤ next
  pub inside : place ≤ length out
  pub wrote : WroteText (window_lines from (between (windows_listed q) from next)) out at place out'

module _ (q : Request) (from : ℕ) (out : List ℕ) (at : ℕ) where
  pub listing_none : at ≤ length out → Listing q from out at from at out
  unfolding window_lines
  listing_none h =
      let z : from - from ≡ 0 = omega arith in
      record { goes = omega arith; inside = h; wrote = subst (λ (m : ℕ). WroteText (window_lines from (take m (drop from (windows_listed q)))) out at at out) (sym z) (record { put = refl; ends = sym (add-zero at) }) }

  pub listing_long : {next place : ℕ} {out' : List ℕ} → Listing q from out at next place out' → length out' ≡ length out
  listing_long {next} {place} {out'} l = ap length l.wrote.put ∙ length-sets out at (window_lines from (between (windows_listed q) from next))

  pub listing_more : {next place place' : ℕ} {out' out'' : List ℕ} → Listing q from out at next place out' → next < length (windows_listed q) → place + longest_line ≤ length out → WroteText (window_line next (get_or (windows_listed q) next (bounds 0 0))) out' place place' out'' → Listing q from out at (next + 1) place' out''
  listing_more {next} l b h w =
      record {
        goes = omega (arith, l.goes);
        inside = omega (arith, w.ends, line_few next (get_or (windows_listed q) next (bounds 0 0)));
        wrote = wrote_as (sym (between_more (windows_listed q) from next l.goes b)) (wrote_then l.wrote w);
      }

  pub listing_ends : {step : Step} {out' : List ℕ} → Listing q from out at step.next step.at out' → (length (windows_listed q) ≤ step.next) ⊎ (length out < step.at + longest_line) → Lists q from out at step out'
  listing_ends l f = record { goes = l.goes; wrote = l.wrote; inside = l.inside; full = f }

-- where there is room for a line and a window is left, it is listed
pub lists_move : {q : Request} {from : ℕ} {out : List ℕ} {at : ℕ} {step : Step} {out' : List ℕ} → Lists q from out at step out' → from < length (windows_listed q) → at + longest_line ≤ length out → from < step.next
unfolding window_lines
lists_move {q} {from} {out} {at} {step} {out'} l b h = go l.full
  where
    stays : step.next ≤ from → step.at ≡ at
    stays s =
        let z : step.next - from ≡ 0 = omega arith in
        l.wrote.ends ∙ ap (λ (m : ℕ). at + length (window_lines from (take m (drop from (windows_listed q))))) z ∙ add-zero at

    go : (length (windows_listed q) ≤ step.next) ⊎ (length out < step.at + longest_line) → from < step.next
    go (inl all) = omega arith
    go (inr full) = ⊎_elim (λ (s : step.next ≤ from). absurd (omega (arith, stays s))) (λ (s : from < step.next). s) (either step.next from)
