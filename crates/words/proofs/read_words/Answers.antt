-- `read_words` puts one word after another: after i turns, the first i. Assumes nothing.
use mathlib.Core.Path.{refl}
use Rattle.record.specs.Read.{several}
use Rattle.words.proofs.Words.{words_more}
use Rattle.words.proofs.read_words.Goals as goal

pub loop-i-init : goal.loop-i-init
unfolding several
loop-i-init c = refl

pub loop-i-preserved : goal.loop-i-preserved
loop-i-preserved c =
    let v = c.args in
    rw (c.word_at.ensures, c.loop-i.invariant) (words_more v.bytes.now v.out.now c.loop-i.i)
