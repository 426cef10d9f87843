use Rattle.std.proofs.Common.{rules}
use Rattle.state_values.proofs.LeafLaws.{masks_share}
use Rattle.state_values.proofs.leaves.shares_leaf.Goals as goal

pub returns : goal.returns
returns c = masks_share c.args.problem.now c.leaves_under.result c.leaves_under-2.result c.args.of c.args.target c.leaves_under.ensures c.leaves_under-2.ensures (search rules) (search rules)
