-- `tokens_of_word` walks the range of the sequence. Assumes nothing.
use mathlib.Core.Path.{ap, ◌∙◌}
use Rattle.lookup_ranges.proofs.Top.{top_there}
use Rattle.lookup_search.specs.Answers.{tokens_answer}
use Rattle.lookup_search.proofs.Stored.{one_begins}
use Rattle.lookup_words.proofs.WordsStored.{word_in}
use Rattle.lookup_search.proofs.InRange.{end_within, range_inside}
use Rattle.lookup_words.proofs.tokens_of_word.Goals as goal

pub range_of-bounds-requires : goal.range_of-bounds-requires
range_of-bounds-requires c = top_there _ _ c.requires

pub rows_of_word-requires : goal.rows_of_word-requires
rows_of_word-requires c = range_inside _ _ _ _ c.requires c.range_of-bounds.ensures

pub returns : goal.returns
returns c = λ E one.
    let range = c.range_of-bounds.ensures _ E one in
    c.rows_of_word.ensures _ (one_begins one) (end_within one _ _ range) ∙ ap tokens_answer (word_in E _ _ _ range)
