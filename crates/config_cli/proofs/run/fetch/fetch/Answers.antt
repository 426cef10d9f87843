use Rattle.std.proofs.Common.{ap}
use Rattle.std.specs.Prelude.{Err}
use Rattle.config_cli.proofs.run.fetch.fetch.Goals as goal

pub returns-in-Err-TooLong-clause-fetched : goal.returns-in-Err-TooLong-clause-fetched
returns-in-Err-TooLong-clause-fetched g c = λ fs told.
    let longer = c.in-Err-TooLong.ensures.too_long (ap Err c.in-Err-TooLong.field-0-is) fs told in
    (longer.bytes, longer.is, longer.longer)
