-- The next literal is taken in.
use Rattle.conflict_learn.proofs.ShortenedLaws.{next_shortened}
use Rattle.conflict_learn.proofs.shortening.without_implied.Goals as goal

pub loop-l-preserved : goal.loop-l-preserved
loop-l-preserved c =
    next_shortened _ c.model-model.ensures.valid _ _ _ c.loop-l.l-index _ c.loop-l-test.true c.loop-l.invariant
    c.in_ok-keep.ensures
