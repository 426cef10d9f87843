use Rattle.std.proofs.Common.{arith}
use Rattle.partial_state.proofs.NewPorts.{without_type}
use Rattle.partial_state.proofs.new_row.without_type.Goals as goal

pub returns : goal.returns
returns c = λ k. without_type c.args.types c.args.t k c.requires (omega arith)
