use Rattle.state_values.proofs.PartsThere.{few_made}
use Rattle.state_values.proofs.truths.truth_at.Goals as goal

pub insert-requires : goal.insert-requires
insert-requires c = few_made c.args.problem.now c.model-model.ensures.valid.declared c.args.p.now c.requires.state c.args.i c.requires.made
