-- The first that meets all requests is preferred; and where there is none, they clash.
use Rattle.std.proofs.Common.{◌∙◌, refl}
use Rattle.config_value.proofs.SpelledLaws.{shaped_is_spelled}
use Rattle.branch_cut.proofs.CutLaws.{satisfied_shaped}
use Rattle.config_cli.specs.Results.{preferred}
use Rattle.config_cli.proofs.ConflictLaws.{best_is_preferred, none_clashes}
use Rattle.config_cli.proofs.solved.preferred_outcome.Goals as goal

pub write_answer-requires : goal.write_answer-requires
write_answer-requires g c =
    let first = best_is_preferred (g.S.Solver.problem c.args.solver) c.args.problem.now (g.S.Solver.order c.args.solver) c.args.order.now c.deref.result.now c.in_ok-c.field-0 c.in-Some.c
    c.requires.problem c.requires.order (c.deref.ensures.value ∙ c.in_ok-all.ensures) c.in_ok-c.ensures.best c.in-Some.is in
    shaped_is_spelled c.args.problem.now c.in-Some.c c.model-model.ensures.valid.declared (satisfied_shaped c.args.problem.now c.in-Some.c first.is.satisfied)

pub clash_outcome-requires-clause-clash : goal.clash_outcome-requires-clause-clash
clash_outcome-requires-clause-clash g c =
    none_clashes (g.S.Solver.problem c.args.solver) (g.S.Solver.problem c.best.new.self) (g.S.Solver.order c.args.solver) c.args.order.now c.deref.result.now c.in_ok-c.field-0
    c.best.ensures.same_problem c.requires.order (c.deref.ensures.value ∙ c.in_ok-all.ensures) c.in_ok-c.ensures.best c.in-None.is

pub returns-in_ok-write_answer-in-Some-clause-outcome :
    goal.returns-in_ok-write_answer-in-Some-clause-outcome
returns-in_ok-write_answer-in-Some-clause-outcome g c =
    let first = best_is_preferred (g.S.Solver.problem c.args.solver) c.args.problem.now (g.S.Solver.order c.args.solver) c.args.order.now c.deref.result.now c.in_ok-c.field-0 c.in-Some.c
    c.requires.problem c.requires.order (c.deref.ensures.value ∙ c.in_ok-all.ensures) c.in_ok-c.ensures.best c.in-Some.is in
    preferred c.in-Some.c first refl c.in_ok-write_answer-in-Some.ensures
