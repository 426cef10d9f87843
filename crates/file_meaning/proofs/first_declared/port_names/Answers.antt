use Rattle.std.proofs.Common.{◌∙◌}
use Rattle.std.proofs.lemmas.Result.{IfOk-weaker}
use Rattle.file_meaning.proofs.TypeNames.{port_names_declared}
use Rattle.file_meaning.proofs.first_declared.port_names.Goals as goal

pub returns : goal.returns
returns c =
    IfOk-weaker c.first_names.result _ _ (λ names read. read ∙ port_names_declared c.args.model.now c.args.t c.requires.declared) c.first_names.ensures
