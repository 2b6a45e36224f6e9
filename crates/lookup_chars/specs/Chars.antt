-- The row of a character, and the word of a character, over one encoding (document 01, module 1).
-- Assumes nothing: these are definitions.
use Rattle.std.specs.Prelude.{ℕ}
use Rattle.std.proofs.Math.Option.{Option, bind, map}
use Rattle.record.specs.Tree.{Encoding}
use Rattle.lookup_ranges.specs.First.{first_from}
use Rattle.lookup_ranges.specs.Ranges.{sequence_range}
use Rattle.lookup_search.specs.Searches.{in_range, holds_place}
use Rattle.lookup_tokens.specs.Tokens.{token_to_word}

-- "char_to_token: first row in range with start ≤ place < end"
unfoldable pub char_to_token : Encoding → ℕ → ℕ → Option ℕ
char_to_token E place id = first_from (holds_place place) (sequence_range E id).start (in_range E id)

-- "char_to_word needs both steps": the row that holds the place, and that row's word; it "still gives only the word"
unfoldable pub char_to_word : Encoding → ℕ → ℕ → Option ℕ
char_to_word E place id = bind (char_to_token E place id) (λ row. map (λ found. found.1) (token_to_word E row))
