-- `write_tokens` writes a row for each token: after i turns, the rows of the first i tokens stand at the front.
-- Assumes nothing.
use mathlib.Core.Path.{◌≡◌}
use mathlib.Core.List.{flat_map}
use lib.Seq.{sets}
use Rattle.record.specs.Flat.{row_numbers}
use Rattle.record_write.proofs.TokenRows.{token_rows}
use Rattle.record_write.proofs.write_tokens.Given as goal

abbrev pub invariant-loop-i : goal.invariant-loop-i
invariant-loop-i l = l.out_rows ≡ sets l.initial.out_rows 0 (flat_map row_numbers (token_rows l.type_id l.i l.tokens))
