use Rattle.std.proofs.lemmas.Result.{IfErr-weaker}
use Rattle.serde_json.specs.View.{view}
use Rattle.file_meaning.specs.Faults.{HasModelFault}
use Rattle.file_meaning.specs.Refused.{IsRefusalOfFile}
use Rattle.model_reader.specs.Passes.{IsRefusalBy}
use Rattle.model_reader.proofs.WholeFiles.{refused_value}
use Rattle.model_reader.proofs.model.read_model.Goals as goal

pub returns-clause-fault : goal.returns-clause-fault
returns-clause-fault c =
    let d = view c.in_ok-value.value in
    IfErr-weaker c.problem_of.result (IsRefusalBy (HasModelFault d)) (IsRefusalOfFile HasModelFault c.args.bytes.now)
    (λ e refused. refused_value HasModelFault c.args.bytes.now d e c.in_ok-value.ensures.value refused) c.problem_of.ensures.fault
