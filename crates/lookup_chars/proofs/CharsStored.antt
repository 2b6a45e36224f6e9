-- What the lookups of a character find, from what the searches find.
-- Assumes nothing.
use mathlib.Core.Path.{◌≡◌, ap}
use Prim.Native.Nat.{ℕ}
use mathlib.Core.Option.{none as nothing, some, bind, map}
use Rattle.record.specs.Tree.{Encoding}
use Rattle.record.specs.declared.Bounds.{Bounds}
use Rattle.lookup_ranges.specs.First.{first_from, part}
use Rattle.lookup_ranges.specs.Ranges.{sequence_range}
use Rattle.lookup_search.specs.Searches.{holds_place}
use Rattle.lookup_tokens.specs.Tokens.{token_to_word}
use Rattle.lookup_chars.specs.Chars.{char_to_token, char_to_word}

pub char_in : (E : Encoding) (place id : ℕ) (b : Bounds) → b ≡ sequence_range E id → first_from (holds_place place) b.start (part b.start b.end E.rows) ≡ char_to_token E place id
unfolding char_to_token
char_in E place id b e = ap (λ (b : Bounds). first_from (holds_place place) b.start (part b.start b.end E.rows)) e

-- ---- The word of a character

pub char_word_nothing : (E : Encoding) (place id : ℕ) → char_to_token E place id ≡ nothing → char_to_word E place id ≡ nothing
unfolding char_to_word bind
char_word_nothing E place id e = rw e

pub char_word_found : (E : Encoding) (place id row : ℕ) → char_to_token E place id ≡ some row → char_to_word E place id ≡ map (λ found. found.1) (token_to_word E row)
unfolding char_to_word bind
char_word_found E place id row e = rw e
