use Rattle.std.proofs.lemmas.Result.{IfOk-weaker}
use Rattle.config_cli.specs.steps.Checks.{told}
use Rattle.config_cli.proofs.CheckLaws.{answer_refused}
use Rattle.config_cli.proofs.check.read_outcome.Goals as goal

-- what is told of the configuration that was read
pub returns-in-Ok-clause-outcome : goal.returns-in-Ok-clause-outcome
returns-in-Ok-clause-outcome c =
    IfOk-weaker c.verdict.result _ _
    (λ a is. told c.in-Ok.c (record { short = c.requires.short; answer = c.in-Ok.ensures.answer }) is)
    c.verdict.ensures.verdict

pub returns-in-Err-clause-outcome : goal.returns-in-Err-clause-outcome
returns-in-Err-clause-outcome c =
    IfOk-weaker c.refused_answer.result _ _
    (λ a line. answer_refused c.args.problem.now c.args.order.now c.args.bytes.now c.in-Err.refusal a.status a.text.items c.requires.short c.in-Err.ensures.fault line)
    c.refused_answer.ensures.line
