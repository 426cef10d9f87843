use Rattle.std.proofs.Common.{◌∙◌}
use Rattle.config_cli.proofs.run.files.configure.Goals as goal

-- the two files that were read, and what they result in
pub returns-in-Ok-clause-outcome : goal.returns-in-Ok-clause-outcome
returns-in-Ok-clause-outcome g c = λ fs told.
    let m = c.in_ok-model_file.ensures.fetched fs told in
    let o = c.in_ok-order_file.ensures.fetched fs (c.in_ok-model_file.ensures.same ∙ told) in
    record {
      model_bytes = m.0;
      order_bytes = o.0;
      model_there = m.1;
      order_there = o.1;
      configured = c.in-Ok.ensures.result m.0 o.0 m.2 o.2;
    }
