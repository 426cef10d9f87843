use Rattle.std.proofs.lemmas.Result.{IfErr-weaker}
use Rattle.file_meaning.specs.Faults.{HasOrderFault}
use Rattle.file_meaning.proofs.KnownKeys.{known_in_order}
use Rattle.config_cli.proofs.OutcomeLaws.{known_place}
use Rattle.config_cli.proofs.outcome.open_order.Goals as goal

pub returns-in-Bytes-clause-known : goal.returns-in-Bytes-clause-known
returns-in-Bytes-clause-known c =
    IfErr-weaker c.read_order.result _ _ (known_place (HasOrderFault c.args.problem.now) (known_in_order c.args.problem.now) _) c.read_order.ensures.fault
