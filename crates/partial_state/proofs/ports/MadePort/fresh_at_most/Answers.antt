use Rattle.partial_state.proofs.PortCalls.{bounded_above}
use Rattle.partial_state.proofs.ports.MadePort.fresh_at_most.Goals as goal

pub returns : goal.returns
returns c =
    rw (← c.self.view_is)
    (bounded_above c.self.inside.links c.fresh_at_most.new.self c.fresh_at_most.result c.fresh_at_most.ensures.formed c.args.n c.fresh_at_most.ensures.empty c.fresh_at_most.ensures.same c.fresh_at_most.ensures.smaller c.fresh_at_most.ensures.narrowed)
