use Rattle.literal_book.proofs.Masks.{asks_above}
use Rattle.std.proofs.Common.{arith}
use Rattle.literal_book.proofs.excluding.asks_for.Goals as goal

-- there are no bits from 64 on
pub returns-else-k-lt64 : goal.returns-else-k-lt64
returns-else-k-lt64 c = asks_above c.args.mask c.args.k (omega arith) c.if-k-lt64.false
