use Rattle.std.proofs.lemmas.Result.{IfOk-weaker, IfErr-weaker}
use Rattle.serde_json.specs.View.{view}
use Rattle.file_meaning.specs.Refused.{IsRefusalOfExpr}
use Rattle.file_meaning.proofs.OwnFaults.{refusal_same, own_form, refusal_is_own, judged_faultless}
use Rattle.file_meaning.proofs.expression.judge_expr.Goals as goal

pub returns-in_err-refuse_misformed-clause-fault : goal.returns-in_err-refuse_misformed-clause-fault
returns-in_err-refuse_misformed-clause-fault c =
    refusal_same c.from_residual.result c.in_err-refuse_misformed.field-0.0 (IsRefusalOfExpr c.args.model.now (view c.args.value.now) c.args.at c.args.truth) c.from_residual.ensures.1
    (c.in_err-refuse_misformed.ensures.fault c.args.model.now c.args.at c.args.truth)

pub judge-requires-clause-form : goal.judge-requires-clause-form
judge-requires-clause-form c =
    own_form c.args.model.now (view c.args.value.now) c.args.at c.args.truth c.args.expr.now c.requires.expr c.in_ok-refuse_misformed.ensures.formed

pub returns-clause-faultless : goal.returns-clause-faultless
returns-clause-faultless c =
    IfOk-weaker c.judge.result _ _
    (λ x judged. judged_faultless c.args.model.now (view c.args.value.now) c.args.at c.args.truth c.args.expr.now c.requires.expr c.in_ok-refuse_misformed.ensures.formed judged)
    c.judge.ensures.judged

pub returns-clause-fault : goal.returns-clause-fault
returns-clause-fault c =
    IfErr-weaker c.judge.result _ _
    (λ r refused. refusal_is_own c.args.model.now (view c.args.value.now) c.args.at c.args.truth c.args.expr.now c.requires.expr c.in_ok-refuse_misformed.ensures.formed r refused)
    c.judge.ensures.fault
