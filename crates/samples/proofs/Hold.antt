-- Every sample holds: one claim over the list, by computing.
-- Assumes nothing.
use mathlib.Core.Path.{refl}
use mathlib.Core.List.{flat_map}
use Rattle.lists.specs.Lists.{All}
use Rattle.lookup_ranges.specs.First.{first_from, last_from, until}
use Rattle.lookup_ranges.specs.Ranges.{sequence_range, present, n_sequences, sequence_at, column, get_sequence_ids}
use Rattle.lookup_holding.specs.Holding.{holding_sequence, place_in, token_to_sequence}
use Rattle.lookup_words.specs.Words.{word_to_tokens}
use Rattle.lookup_search.specs.Searches.{word_rows}
use Rattle.record.specs.Flat.{row_numbers, range_numbers, flat_nodes, flat_rows}
use Rattle.record.specs.Read.{fits_ok}
use Rattle.record.specs.Outcome.{in_room}
use Rattle.cut_plan.specs.Cut.{right_from, left_from, windows_of}
use Rattle.cut_lengths.specs.Lengths.{kept_both}
use Rattle.pair_lengths.specs.Lengths.{pair_lengths}
use Rattle.truncate.specs.Truncate.{cut_outcome}
use Rattle.truncate_write.specs.Truncated.{truncated}
use Rattle.join_trees.specs.Join.{join, with_each, each_with}
use Rattle.join_trees.specs.Samples.{lettered, letter, sample_s, sample_p, sample_q, spelled, spelled_windows}
use Rattle.lines.specs.Decimal.{decimal_after}
use Rattle.template_parts.specs.Split.{split}
use Rattle.template_numbers.specs.Number.{after_sign, read_number}
use Rattle.template_pieces.specs.Piece.{same, sequence_of, named, piece_typed, read_part}
use Rattle.template_text.specs.Template.{read_parts, read_template}
use Rattle.samples.specs.Samples.{samples, Holds}

pub hold : All Holds samples
unfolding flat_map windows_of right_from left_from kept_both pair_lengths truncated cut_outcome in_room fits_ok flat_nodes flat_rows row_numbers range_numbers join with_each each_with lettered letter sample_s sample_p sample_q spelled spelled_windows first_from last_from until sequence_range present n_sequences holding_sequence place_in token_to_sequence sequence_at column get_sequence_ids word_rows word_to_tokens split decimal_after after_sign read_number same sequence_of named piece_typed read_part read_parts read_template
hold = (refl, (refl, (refl, (refl, (refl, (refl, (refl, (refl, (refl, (refl, (refl, (refl, (refl, (refl, (refl, (refl, (refl, (refl, (refl, (refl, (refl, (refl, (refl, (refl, (refl, (refl, (refl, tt)))))))))))))))))))))))))))
