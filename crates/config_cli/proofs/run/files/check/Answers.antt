use Rattle.std.proofs.Common.{◌∙◌}
use Rattle.config_cli.proofs.run.files.check.Goals as goal

-- the three files that were read, and what they result in
pub returns-in-Ok-clause-outcome : goal.returns-in-Ok-clause-outcome
returns-in-Ok-clause-outcome g c = λ fs told.
    let m = c.in_ok-model_file.ensures.fetched fs told in
    let o = c.in_ok-order_file.ensures.fetched fs (c.in_ok-model_file.ensures.same ∙ told) in
    let a = c.in_ok-answer_file.ensures.fetched fs (c.in_ok-order_file.ensures.same ∙ c.in_ok-model_file.ensures.same ∙ told) in
    record {
      model_bytes = m.0;
      order_bytes = o.0;
      answer_bytes = a.0;
      model_there = m.1;
      order_there = o.1;
      answer_there = a.1;
      checked = c.in-Ok.ensures.result m.0 o.0 a.0 m.2 o.2 a.2;
    }
