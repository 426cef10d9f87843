use Rattle.partial_state.proofs.PortGenerations.{stored_elsewhere}
use Rattle.partial_state.proofs.ports.MadePort.made_elsewhere.Goals as goal

pub returns : goal.returns
returns c =
    let done = c.made_elsewhere.ensures in
    rw (← c.self.view_is)
    (stored_elsewhere c.self.inside.links c.made_elsewhere.new.self c.args.j done.closed done.possible done.required done.fresh_low done.fresh_high)
