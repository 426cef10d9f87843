use Rattle.instance_set.proofs.Members.{union_member}
use Rattle.instance_set.proofs.set.InstanceSet.union.Goals as goal

-- word by word
pub returns : goal.returns
returns c = λ j. union_member c.args.self c.args.other j
