use Rattle.partial_state.proofs.SoleKinds.{sole_mask, several_mask}
use Rattle.partial_state.proofs.kinds.KindSet.sole.Goals as goal

pub returns-then-self-first : goal.returns-then-self-first
returns-then-self-first c =
    rw (← c.self.view_is) (sole_mask c.self.inside.mask c.self.invariant.0 c.self.invariant.1 c.if-self-first.true)

pub returns-else-self-first : goal.returns-else-self-first
returns-else-self-first c =
    rw (← c.self.view_is) (several_mask c.self.inside.mask c.self.invariant.0 c.self.invariant.1 c.if-self-first.false)
