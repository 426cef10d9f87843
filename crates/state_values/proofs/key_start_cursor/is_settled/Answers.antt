use Rattle.partial_state.proofs.WholeParts.{settled}
use Rattle.state_values.proofs.key_start_cursor.is_settled.Goals as goal

pub returns : goal.returns
returns c = settled c.args.links c.is_whole.result c.is_whole.ensures
