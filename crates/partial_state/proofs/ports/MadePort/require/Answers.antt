use Rattle.partial_state.proofs.PortCalls.{required}
use Rattle.partial_state.proofs.ports.MadePort.require.Goals as goal

pub returns : goal.returns
returns c =
    rw (← c.self.view_is)
    (required c.self.inside.links c.require.new.self c.require.result c.require.ensures.formed c.args.j c.require.ensures.empty c.require.ensures.same c.require.ensures.smaller c.require.ensures.others c.require.ensures.narrowed)
