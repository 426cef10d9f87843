use Rattle.std.proofs.Common.{sym}
use Rattle.partial_state.proofs.WholeParts.{first_kind}
use Rattle.partial_state.proofs.kinds.KindSet.first.Goals as goal

-- the lowest bit
pub returns : goal.returns
returns c = rw (← c.self.view_is) (sym (first_kind c.self.inside.mask c.self.invariant.0 c.self.invariant.1))
