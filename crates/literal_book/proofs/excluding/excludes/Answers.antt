use Rattle.std.proofs.Common.{arith}
use Rattle.literal_book.proofs.Masks.{excludes_is}
use Rattle.literal_book.proofs.excluding.excludes.Goals as goal

-- where the requests are met it is the literals that tell
pub returns-then-are_met : goal.returns-then-are_met
returns-then-are_met c =
    let is = excludes_is c.args.problem.now c.args.order.now c.args.n.now c.args.c.now c.args.met c.requires in
    grind (arith, is, c.are_met.ensures, c.all_hold.ensures, c.if-are_met.true, c.len.ensures, c.as_slice.ensures)

-- else one is not met
pub returns-else-are_met : goal.returns-else-are_met
returns-else-are_met c =
    let is = excludes_is c.args.problem.now c.args.order.now c.args.n.now c.args.c.now c.args.met c.requires in
    grind (arith, is, c.are_met.ensures, c.if-are_met.false, c.len.ensures)
