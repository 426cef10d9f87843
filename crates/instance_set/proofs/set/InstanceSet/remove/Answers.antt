use Rattle.std.proofs.Common.{arith}
use Rattle.instance_set.proofs.Members.{removed}
use Rattle.instance_set.proofs.set.InstanceSet.remove.Goals as goal

-- its word has one bit less
pub returns : goal.returns
returns c = λ k. removed c.args.self.now c.with_word.result c.args.j c.word.result c.requires c.word.ensures (omega (arith, c.word.type_inv)) c.with_word.ensures k
