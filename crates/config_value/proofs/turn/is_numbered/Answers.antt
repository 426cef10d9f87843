use Rattle.std.proofs.Common.{rules}
use Rattle.config_value.proofs.NumberedByTurn.{is_numbered_is_done}
use Rattle.config_value.proofs.turn.is_numbered.Goals as goal

-- they are numbered where every instance has had its turn
pub returns : goal.returns
returns c = rw is_numbered_is_done (search rules)
