use Rattle.partial_state.proofs.WholeParts.{settled}
use Rattle.partial_state.proofs.ports.MadePort.is_settled.Goals as goal

pub returns : goal.returns
returns c = rw (← c.self.view_is) (settled c.self.inside.links c.is_whole.result c.is_whole.ensures)
