use Rattle.std.proofs.Common.{arith}
use Rattle.partial_state.proofs.NewPorts.{lowest_type}
use Rattle.partial_state.proofs.new_row.lowest_type.Goals as goal

pub returns : goal.returns
returns c = let low = lowest_type c.args.types c.requires (omega arith) in record { below = low.0; is = low.1; least = low.2 }
