use Rattle.std.proofs.lemmas.Result.{IfErr-weaker}
use Rattle.file_meaning.specs.Faults.{HasModelFault}
use Rattle.file_meaning.proofs.KnownKeys.{known_in_model}
use Rattle.config_cli.proofs.OutcomeLaws.{known_place}
use Rattle.config_cli.proofs.outcome.open_model.Goals as goal

pub returns-in-Bytes-clause-known : goal.returns-in-Bytes-clause-known
returns-in-Bytes-clause-known c =
    IfErr-weaker c.read_model.result _ _ (known_place HasModelFault known_in_model _) c.read_model.ensures.fault
