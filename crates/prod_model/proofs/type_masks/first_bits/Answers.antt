use Rattle.base_laws.proofs.Masks128.{bit_at_first, bit_at_first_below}
use Rattle.prod_model.proofs.type_masks.first_bits.Goals as goal
use Rattle.std.proofs.Common.{arith}

pub returns-then-count-eq128 : goal.returns-then-count-eq128
returns-then-count-eq128 c = λ i. rw c.if-count-eq128.true (bit_at_first 128 i)

pub returns-else-count-eq128 : goal.returns-else-count-eq128
returns-else-count-eq128 c = λ i. bit_at_first_below c.args.count i (omega arith)
