-- `report_all` is safe: what is held is always a part of a batch, and the stores are as long as they were. Assumes nothing.
use mathlib.Core.Path.{refl, ◌∙◌}
use mathlib.Core.Logic.{inl}
use native.Mathlib.Omega.{arith}
use Rattle.report.proofs.report_all.Goals as goal

pub loop-init : goal.loop-init
loop-init g c = record { partial = inl (omega (arith, c.start-held.ensures.0)); batch_long = refl; numbers_long = refl }

pub take-held-requires : goal.take-held-requires
take-held-requires g c =
    record {
      prefix_len = c.read_piece-unread.ensures;
      lent_stores = record { batch_long = c.loop.invariant.batch_long ∙ c.requires.batch_long; numbers_long = omega (arith, c.requires.numbers_long, c.loop.invariant.numbers_long) };
      partial = c.loop.invariant.partial;
    }

pub loop-preserved : goal.loop-preserved
loop-preserved g c =
    record { partial = c.take-held.ensures.partial; batch_long = c.take-held.auto.batch ∙ c.loop.invariant.batch_long; numbers_long = c.take-held.auto.numbers ∙ c.loop.invariant.numbers_long }
