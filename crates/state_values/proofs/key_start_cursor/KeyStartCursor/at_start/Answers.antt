use Rattle.state_values.proofs.KeyStartLeft.{all_left}
use Rattle.state_values.proofs.key_start_cursor.KeyStartCursor.at_start.Goals as goal

-- nothing is read yet
pub returns : goal.returns
returns c = all_left c.args.problem.now c.args.state.now 0 c.empty.result c.empty.ensures
