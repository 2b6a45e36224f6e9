-- The statement of request 08 on looking up a word (`word_to_tokens` of lookup_words/specs/Words). That it holds for records that
-- pass the profile is `finds_word` of proofs/Lookup; that it would not hold under every id is shown in proofs/Needed.
-- Assumes nothing: these are definitions.
use Rattle.std.specs.Prelude.{◌≡◌, ◌⊎◌, true, ℕ, ◌-◌, ◌≤◌, ◌<◌, get_or}
use Rattle.std.proofs.Math.Option.{none as nothing, some}
use Rattle.std.proofs.Math.ListN.{get_elem?}
use Rattle.record.specs.Tree.{Encoding, absent}
use Rattle.record.specs.declared.Bounds.{Bounds}
use Rattle.lookup_ranges.specs.Ranges.{sequence_range, present}
use Rattle.lookup_search.specs.Searches.{is_word}
use Rattle.lookup_words.specs.Words.{word_to_tokens}
use Rattle.profile_trees.specs.Rules.{said_of}

-- "under an id with a range, or in a record without ranges"
abbrev pub Asked : Encoding → ℕ → Type 0
Asked E id = ((get_or E.ranges id absent).present ≡ 1) ⊎ (present E.ranges ≡ 0)

-- a "row there", in the range or in all rows if there is none, "carries it"
pub record Carries (E : Encoding) (word id row : ℕ) : Type 0 where
  pub from : (sequence_range E id).start ≤ row
  pub to : row < (sequence_range E id).end
  pub carried : said_of (is_word word) (get_elem? E.rows row) ≡ true

-- "looking up a word .."
pub record FindsWord (E : Encoding) (word id : ℕ) : Type 0 where
  -- ".. finds nothing exactly if no row there carries it"
  pub nothing_carried : word_to_tokens E word id ≡ nothing → (row : ℕ) → Carries E word id row → ⊥
  pub carried_nothing : ((row : ℕ) → Carries E word id row → ⊥) → word_to_tokens E word id ≡ nothing
  -- "and otherwise spans every row that does": from the first of them up to the last
  pub spans : (b : Bounds) → word_to_tokens E word id ≡ some b → (row : ℕ) → Carries E word id row → (b.start ≤ row) × (row < b.end)
  pub first : (b : Bounds) → word_to_tokens E word id ≡ some b → Carries E word id b.start
  pub last : (b : Bounds) → word_to_tokens E word id ≡ some b → (0 < b.end) × Carries E word id (b.end - 1)
