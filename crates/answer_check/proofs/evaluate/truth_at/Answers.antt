use Rattle.std.proofs.Common.{arith}
use Rattle.std.proofs.lemmas.Option.{slice_get_within}
use Rattle.answer_check.proofs.FewItems.{few_shaped}
use Rattle.answer_check.proofs.evaluate.truth_at.Goals as goal

pub insert-requires : goal.insert-requires
insert-requires c =
    let within = slice_get_within c.args.c.now c.args.i c.requires.bounded.instance c.requires.bounded.stands in
    omega (arith, few_shaped c.args.problem.now c.args.c.now c.requires.valid c.requires.shaped)
