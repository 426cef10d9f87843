use Rattle.instance_set.proofs.Members.{intersection_member}
use Rattle.instance_set.proofs.set.InstanceSet.intersection.Goals as goal

-- word by word
pub returns : goal.returns
returns c = λ j. intersection_member c.args.self c.args.other j
