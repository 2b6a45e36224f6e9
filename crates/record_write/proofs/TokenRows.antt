-- The rows of tokens, written one after another.
-- Assumes nothing.
use mathlib.Core.Path.{◌≡◌, sym, ap, ◌∙◌}
use Prim.Native.Nat.{ℕ, ◌+◌, ◌*◌}
use native.Mathlib.Numerals.{add-one}
use mathlib.Core.List.{List, [], ◌∷◌, ◌++◌, flat_map}
use lib.ListN.{drop}
use lib.Seq.{sets}
use Rattle.record.specs.Tree.{Row}
use Rattle.record.specs.Flat.{row_width, row_numbers}
use Rattle.record.specs.Read.{several}
use Rattle.record.proofs.Flat.{row_stored}
use Rattle.record_write.specs.Tokens.{token_width, token_row}
use Rattle.record.proofs.Several.{length_several, several_more}
use Rattle.record_write.proofs.Runs.{sets_more}

-- the rows of n tokens
abbrev pub token_rows : ℕ → ℕ → List ℕ → List Row
token_rows t n tokens = several (token_row t) token_width n tokens

-- a turn that writes one more row after the others
pub token_turn : (t n : ℕ) (tokens was : List ℕ) {row : Row} → row ≡ token_row t (drop (n * token_width) tokens) → sets (sets was 0 (flat_map row_numbers (token_rows t n tokens))) (n * row_width) (row_numbers row) ≡ sets was 0 (flat_map row_numbers (token_rows t (n + 1) tokens))
token_turn t n tokens was {row} r =
    ap (λ (k : ℕ). sets (sets was 0 (flat_map row_numbers (token_rows t n tokens))) (k * row_width) (row_numbers row)) (sym (length_several (token_row t) token_width n tokens))
    ∙ sets_more row_stored was (token_rows t n tokens) row
    ∙ ap (λ (x : Row). sets was 0 (flat_map row_numbers (token_rows t n tokens ++ (x ∷ [])))) r
    ∙ ap (λ (l : List Row). sets was 0 (flat_map row_numbers l)) (sym (several_more (token_row t) token_width n tokens))
    ∙ ap (λ (k : ℕ). sets was 0 (flat_map row_numbers (token_rows t k tokens))) (sym (add-one n))
