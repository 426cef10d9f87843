use Rattle.instance_set.proofs.Members.{inserted}
use Rattle.instance_set.proofs.set.InstanceSet.insert.Goals as goal

-- its word has one bit more
pub returns : goal.returns
returns c = λ k. inserted c.args.self.now c.with_word.result c.args.j c.word.result c.requires c.word.ensures c.with_word.ensures k
