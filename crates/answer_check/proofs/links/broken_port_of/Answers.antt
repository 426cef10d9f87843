use Rattle.std.proofs.Common.{ℕ, sym, subst, Option, Some, None, arith}
use Rattle.answer_check.specs.steps.Finds.{BreaksAt, FindsItem}
use Rattle.answer_check.specs.steps.PortTests.{code_of}
use Rattle.answer_check.proofs.BrokenPorts.{finds_port, few_places}
use Rattle.answer_check.proofs.links.broken_port_of.Goals as goal

pub returns-in_err-item : goal.returns-in_err-item
returns-in_err-item c =
    let found = finds_port c.args.problem.now c.args.c.now c.args.i c.get-instance.result.now c.get-instance.ensures c.args.test None c.in_err-item.ensures in
    let Finds : Option ℕ → Type 0 = FindsItem (BreaksAt c.args.problem.now c.args.c.now (code_of c.args.test) c.args.i) in
    subst Finds (sym c.from_residual.ensures) found

pub overflow_cast-result : goal.overflow_cast-result
overflow_cast-result c =
    omega (arith, few_places c.args.problem.now c.args.c.now c.args.i c.get-instance.result.now c.get-instance.ensures c.requires.valid c.args.test c.in_ok-item.item c.in_ok-item.ensures)

pub returns : goal.returns
returns c = finds_port c.args.problem.now c.args.c.now c.args.i c.get-instance.result.now c.get-instance.ensures c.args.test (Some c.in_ok-item.item) c.in_ok-item.ensures
