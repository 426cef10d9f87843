-- At instance 0 a truth of the root type has no fault.
use Rattle.seq_search.proofs.Sought.{root_within, faultless_at_root}
use Rattle.seq_search.proofs.seeking.is_true.Goals as goal

pub value_at-requires-clause-instance : goal.value_at-requires-clause-instance
value_at-requires-clause-instance c = root_within c.args.problem.now c.args.c.now c.requires.shaped

pub value_at-requires-clause-faultless : goal.value_at-requires-clause-faultless
value_at-requires-clause-faultless c = faultless_at_root c.args.problem.now c.args.c.now c.args.e.now c.requires.shaped c.requires.truth
