use Rattle.std.proofs.Common.{arith}
use Rattle.partial_state.proofs.NewPorts.{all_bits, low_bits}
use Rattle.partial_state.proofs.new_row.first_bits.Goals as goal

pub returns-then-count-eq64 : goal.returns-then-count-eq64
returns-then-count-eq64 c = λ k. rw c.if-count-eq64.true (all_bits k)

pub returns-else-count-eq64 : goal.returns-else-count-eq64
returns-else-count-eq64 c = λ k. low_bits c.args.count k (omega arith)
