use Rattle.std.proofs.Common.{arith}
use Rattle.instance_set.proofs.Ones.{ones_members}
use Rattle.instance_set.proofs.set.InstanceSet.count.Goals as goal

-- each bit that is set is a member
pub returns : goal.returns
returns c = ones_members c.args.self.now (omega (arith, c.fits-self)) (omega (arith, c.fits-self)) (omega (arith, c.fits-self)) (omega (arith, c.fits-self))
