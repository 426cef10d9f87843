use Rattle.std.proofs.Common.{◌≡◌, ◌+◌, ◌∙◌, ap, ◌++◌, ◌∷◌, [], length, length-append, arith}
use Rattle.partial_state.specs.steps.Bounds.{is_left}
use Rattle.partial_state.proofs.LoggedCuts.{cut_logs, taken_back}
use Rattle.partial_state.proofs.partial.Partial.cut_logged.Goals as goal

-- the old values are the latest entry
pub returns-in-Ok-clause-logs : goal.returns-in-Ok-clause-logs
returns-in-Ok-clause-logs c =
    let pushed = c.in_ok-push.ensures.pushed ∙ ap (λ o. c.args.log.now ++ o ∷ []) c.of_domain.ensures in
    cut_logs c.args.self.now c.cut.new.self c.args.i c.args.attr (is_left c.args.cut) c.in-Ok.change c.args.log.now c.push.new.self
    c.in_ok-values.values c.in_ok-values.ensures c.in-Ok.ensures.narrowed pushed

-- the entry is there
pub pop-requires : goal.pop-requires
pop-requires c =
    let long : length c.push.new.self ≡ length c.args.log.now + 1 =
    ap length c.in_ok-push.ensures.pushed ∙ length-append c.args.log.now (c.of_domain.result ∷ []) in
    omega (arith, long)

-- and is taken out again
pub returns-in-Err-clause-logged : goal.returns-in-Err-clause-logged
returns-in-Err-clause-logged c =
    taken_back c.args.log.now c.push.new.self c.pop.new.self c.of_domain.result c.pop.result c.in_ok-push.ensures.pushed c.pop.ensures
