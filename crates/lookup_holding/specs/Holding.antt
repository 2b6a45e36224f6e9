-- Which sequence holds a row (document 01, "Record and lookups"), and where in that sequence the row stands (document 02,
-- request 06).
-- Assumes nothing: these are definitions.
use Rattle.std.specs.Prelude.{ℕ, ◌-◌, Bool, ◌&&◌, cond, leb, ltb, eqb, length, get_or}
use Rattle.std.proofs.Math.Option.{Option, none as nothing, some, map}
use Rattle.record.specs.Tree.{Range, Encoding, absent}
use Rattle.lookup_ranges.specs.First.{first_from}
use Rattle.lookup_ranges.specs.Ranges.{present}

-- the range is there and holds the row
abbrev pub holds_row : ℕ → Range → Bool
holds_row row p = eqb p.present 1 && (leb p.start row && ltb row p.end)

-- "none above the row count; 0 if no ranges, also at the row count itself; else the smallest id whose range holds the
-- row"
unfoldable pub holding_sequence : Encoding → ℕ → Option ℕ
holding_sequence E row =
    cond (ltb (length E.rows) row) nothing
    (cond (eqb (present E.ranges) 0) (some 0)
    (first_from (holds_row row) 0 E.ranges))

-- "the row's place counted from the start of that range .., or the row number itself if there are no ranges": of the
-- range that the id has
unfoldable pub place_in : Encoding → ℕ → ℕ → ℕ
place_in E row id = cond (eqb (present E.ranges) 0) row (row - (get_or E.ranges id absent).start)

-- a sequence, and the place of a row in it
pub record Placed : Type 0 where
  pub sequence : ℕ
  pub place : ℕ

-- "The lookup from row to sequence should give the row's place .. as well"
unfoldable pub token_to_sequence : Encoding → ℕ → Option Placed
token_to_sequence E row = map (λ id. record { sequence = id; place = place_in E row id }) (holding_sequence E row)
