use Rattle.instance_set.proofs.Members.{difference_member}
use Rattle.instance_set.proofs.set.InstanceSet.difference.Goals as goal

-- word by word
pub returns : goal.returns
returns c = λ j. difference_member c.args.self c.args.other j
