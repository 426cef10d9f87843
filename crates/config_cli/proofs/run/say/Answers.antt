use Rattle.std.proofs.Common.{refl, ap}
use Rattle.std.specs.Prelude.{Err}
use Rattle.config_cli.specs.steps.Leaves.{whole, part}
use Rattle.config_cli.proofs.run.say.Goals as goal

pub returns-in-Ok-clause-written : goal.returns-in-Ok-clause-written
returns-in-Ok-clause-written g c = whole c.args.text.now (refl, refl) c.in-Ok.ensures.whole

pub returns-in-Err-Failed-clause-written : goal.returns-in-Err-Failed-clause-written
returns-in-Err-Failed-clause-written g c = part c.args.status c.args.text.now (refl, refl) refl (c.in-Err-Failed.ensures.front (ap Err c.in-Err-Failed.field-0-is))
