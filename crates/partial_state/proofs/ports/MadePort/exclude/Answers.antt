use Rattle.partial_state.proofs.PortCalls.{excluded}
use Rattle.partial_state.proofs.ports.MadePort.exclude.Goals as goal

pub returns : goal.returns
returns c =
    rw (← c.self.view_is)
    (excluded c.self.inside.links c.exclude.new.self c.exclude.result c.exclude.ensures.formed c.args.j c.exclude.ensures.empty c.exclude.ensures.same c.exclude.ensures.smaller c.exclude.ensures.others c.exclude.ensures.narrowed)
