-- A file that is refused tells its fault; and where none is, the outcome is the preferred one.
use Rattle.std.proofs.lemmas.Result.{IfOk-weaker}
use Rattle.config_cli.specs.Results.{preferred_outcome}
use Rattle.config_cli.proofs.OutcomeLaws.{model_refused, order_refused}
use Rattle.config_cli.proofs.outcome.configured.Goals as goal

pub returns-in-Err-clause-result : goal.returns-in-Err-clause-result
returns-in-Err-clause-result c =
    IfOk-weaker c.refused.result _ _
    (λ a line m o shows_m shows_o. model_refused m o c.in-Err.refusal _ _ (c.in-Err.ensures.fault m shows_m) line)
    c.refused.ensures.line

pub returns-in-Err-open_order-clause-result : goal.returns-in-Err-open_order-clause-result
returns-in-Err-open_order-clause-result c =
    IfOk-weaker c.refused-in-Err-open_order.result _ _
    (λ a line m o shows_m shows_o.
    order_refused c.in-Ok.problem m o c.in-Err-open_order.refusal _ _ (c.in-Ok.ensures.model m shows_m)
    (c.in-Err-open_order.ensures.fault o shows_o) line)
    c.refused-in-Err-open_order.ensures.line

pub returns-clause-result : goal.returns-clause-result
returns-clause-result c =
    IfOk-weaker c.preferred_outcome.result _ _
    (λ a is m o shows_m shows_o.
    preferred_outcome c.in-Ok.problem (c.in-Ok.ensures.model m shows_m)
    c.in-Ok-open_order.order (c.in-Ok-open_order.ensures.order o shows_o) is)
    c.preferred_outcome.ensures.outcome
