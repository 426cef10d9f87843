use Rattle.serde_json.specs.View.{view}
use Rattle.file_meaning.specs.Refused.{IsRefusalOfExpr}
use Rattle.file_meaning.proofs.OwnFaults.{refusal_same, own_form, refusal_is_own, judged_faultless}
use Rattle.file_meaning.proofs.expression.read_named.Goals as goal

pub returns-in_err-refuse_misformed-clause-fault : goal.returns-in_err-refuse_misformed-clause-fault
returns-in_err-refuse_misformed-clause-fault c =
    refusal_same c.from_residual.result c.in_err-refuse_misformed.field-0.0 (IsRefusalOfExpr c.args.model.now (view c.args.value.now) c.args.at c.args.truth) c.from_residual.ensures.1
    (c.in_err-refuse_misformed.ensures.fault c.args.model.now c.args.at c.args.truth)

pub judge-requires-clause-form : goal.judge-requires-clause-form
judge-requires-clause-form c =
    own_form c.args.model.now (view c.args.value.now) c.args.at c.args.truth c.in-Ok.expr c.in-Ok.ensures c.in_ok-refuse_misformed.ensures.formed

pub returns-in_err-judge-clause-fault : goal.returns-in_err-judge-clause-fault
returns-in_err-judge-clause-fault c =
    refusal_same c.from_residual-in_err-judge.result c.in_err-judge.field-0.0 (IsRefusalOfExpr c.args.model.now (view c.args.value.now) c.args.at c.args.truth) c.from_residual-in_err-judge.ensures.1
    (refusal_is_own c.args.model.now (view c.args.value.now) c.args.at c.args.truth c.in-Ok.expr c.in-Ok.ensures c.in_ok-refuse_misformed.ensures.formed c.in_err-judge.field-0.0 c.in_err-judge.ensures.fault)

pub returns-clause-faultless : goal.returns-clause-faultless
returns-clause-faultless c =
    judged_faultless c.args.model.now (view c.args.value.now) c.args.at c.args.truth c.in-Ok.expr c.in-Ok.ensures c.in_ok-refuse_misformed.ensures.formed c.in_ok-judge.ensures.judged
