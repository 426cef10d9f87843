use Rattle.std.proofs.lemmas.Result.{IfOk-weaker}
use Rattle.config_cli.proofs.CheckedLaws.{checked_model_refused, checked_order_refused, checked_answer}
use Rattle.config_cli.proofs.check.checked.Goals as goal

pub returns-in-Err-clause-result : goal.returns-in-Err-clause-result
returns-in-Err-clause-result c =
    IfOk-weaker c.refused.result _ _
    (λ a line m o n shows_m shows_o shows_n. checked_model_refused m o n c.in-Err.refusal a.status a.text.items (c.in-Err.ensures.fault m shows_m) line)
    c.refused.ensures.line

pub returns-in-Err-open_order-clause-result : goal.returns-in-Err-open_order-clause-result
returns-in-Err-open_order-clause-result c =
    IfOk-weaker c.refused-in-Err-open_order.result _ _
    (λ a line m o n shows_m shows_o shows_n.
    checked_order_refused c.in-Ok.problem m o n c.in-Err-open_order.refusal a.status a.text.items (c.in-Ok.ensures.model m shows_m)
    (c.in-Err-open_order.ensures.fault o shows_o) line)
    c.refused-in-Err-open_order.ensures.line

pub returns-clause-result : goal.returns-clause-result
returns-clause-result c =
    IfOk-weaker c.answer_outcome.result _ _
    (λ a is m o n shows_m shows_o shows_n.
    checked_answer c.in-Ok.problem c.in-Ok-open_order.order m o n a.status a.text.items (c.in-Ok.ensures.model m shows_m)
    (c.in-Ok-open_order.ensures.order o shows_o) (is n shows_n))
    c.answer_outcome.ensures.outcome
