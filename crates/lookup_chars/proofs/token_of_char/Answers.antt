-- `token_of_char` searches the range of the sequence. Assumes nothing.
use mathlib.Core.Path.{ap, ◌∙◌}
use Rattle.lookup_ranges.proofs.Top.{top_there}
use Rattle.lookup_search.specs.Answers.{token_answer}
use Rattle.lookup_search.proofs.Stored.{one_begins}
use Rattle.lookup_chars.proofs.CharsStored.{char_in}
use Rattle.lookup_search.proofs.InRange.{end_within, range_inside}
use Rattle.lookup_chars.proofs.token_of_char.Goals as goal

pub range_of-bounds-requires : goal.range_of-bounds-requires
range_of-bounds-requires c = top_there _ _ c.requires

pub first_holding-requires : goal.first_holding-requires
first_holding-requires c = range_inside _ _ _ _ c.requires c.range_of-bounds.ensures

pub returns : goal.returns
returns c = λ E one.
    let range = c.range_of-bounds.ensures _ E one in
    c.first_holding.ensures _ (one_begins one) (end_within one _ _ range) ∙ ap token_answer (char_in E _ _ _ range)
