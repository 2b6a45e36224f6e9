-- `word_at` puts the four bytes together. Assumes nothing.
use native.Mathlib.Omega.{arith}
use Rattle.words.proofs.Words.{word_bytes_lem}
use Rattle.words.proofs.word_at.Goals as goal

pub returns : goal.returns
returns c = let v = c.args in omega (arith, word_bytes_lem v.bytes.now v.at, c.from_le_bytes.ensures)
