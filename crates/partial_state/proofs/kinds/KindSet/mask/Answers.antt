use Rattle.partial_state.proofs.KindLaws.{kind_bit}
use Rattle.partial_state.proofs.kinds.KindSet.mask.Goals as goal

pub returns : goal.returns
returns c = rw (← c.self.view_is) (λ t. kind_bit c.self.inside.mask t c.self.invariant.1)
