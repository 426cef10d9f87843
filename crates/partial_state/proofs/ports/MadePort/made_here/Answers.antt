use Rattle.partial_state.proofs.PortGenerations.{stored_here}
use Rattle.partial_state.proofs.ports.MadePort.made_here.Goals as goal

pub returns : goal.returns
returns c =
    let done = c.made_here.ensures in
    rw (← c.self.view_is)
    (stored_here c.self.inside.links c.made_here.new.self c.args.j done.required done.possible done.fresh_low done.fresh_high)
