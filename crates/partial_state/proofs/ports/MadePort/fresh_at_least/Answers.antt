use Rattle.partial_state.proofs.PortCalls.{bounded_below}
use Rattle.partial_state.proofs.ports.MadePort.fresh_at_least.Goals as goal

pub returns : goal.returns
returns c =
    rw (← c.self.view_is)
    (bounded_below c.self.inside.links c.fresh_at_least.new.self c.fresh_at_least.result c.fresh_at_least.ensures.formed c.args.n c.fresh_at_least.ensures.empty c.fresh_at_least.ensures.same c.fresh_at_least.ensures.smaller c.fresh_at_least.ensures.narrowed)
