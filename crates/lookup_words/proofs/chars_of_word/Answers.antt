-- `chars_of_word` reads the offsets of the first and the last row of a word. Assumes nothing.
use mathlib.Core.Path.{◌≡◌, sym, ap, ◌∙◌}
use Prim.Native.Nat.{ℕ}
use mathlib.Core.List.{List}
use native.Mathlib.Omega.{arith}
use Rattle.std.specs.Prelude.{Option as Answer, Some}
use Rattle.lookup_ranges.specs.declared.Rows.{Rows}
use Rattle.lookup_search.specs.Answers.{tokens_answer}
use Rattle.lookup_search.specs.Promises.{OfOne}
use Rattle.lookup_words.specs.Words.{word_to_tokens}
use Rattle.lookup_words.specs.Answers.{chars_answer}
use Rattle.lookup_words.proofs.Answered.{tokens_back, tokens_back_lem}
use Rattle.lookup_words.proofs.WordLaws.{chars_nothing}
use Rattle.lookup_words.proofs.WordsStored.{word_ordered, first_inside, last_inside, word_chars_stored}
use Rattle.lookup_words.proofs.chars_of_word.Goals as goal

-- what was found of the word, by the case of the answer
found : {nodes rows : List ℕ} (word id : ℕ) {t a : Answer Rows} → OfOne nodes rows (λ E. t ≡ tokens_answer (word_to_tokens E word id)) → t ≡ a → OfOne nodes rows (λ E. word_to_tokens E word id ≡ tokens_back a)
found word id h e = λ E one. tokens_back_lem _ _ (h E one) ∙ ap tokens_back e

pub returns-in_err-start : goal.returns-in_err-start
returns-in_err-start c = λ E one.
    c.from_residual.ensures ∙ ap chars_answer (sym (chars_nothing one _ _ (found c.args.word.0 c.args.sequence_id c.tokens_of_word.ensures c.in_err-start.was E one)))

pub overflow_sub-end : goal.overflow_sub-end
overflow_sub-end c =
    omega (arith, word_ordered _ _ c.requires _ _ _ (found c.args.word.0 c.args.sequence_id c.tokens_of_word.ensures c.in_ok-start.was))

pub offsets_of-requires : goal.offsets_of-requires
offsets_of-requires c =
    let word = found c.args.word.0 c.args.sequence_id c.tokens_of_word.ensures c.in_ok-start.was in
    (first_inside _ _ c.requires _ _ _ word, last_inside _ _ c.requires _ _ _ word)

pub returns : goal.returns
returns c = λ E one.
    ap Some c.offsets_of.ensures ∙ ap chars_answer (sym (word_chars_stored one _ _ _ (found c.args.word.0 c.args.sequence_id c.tokens_of_word.ensures c.in_ok-start.was E one)))
