use Rattle.std.proofs.Common.{◌≡◌, ◌∙◌, ap, sym, subst}
use Rattle.state_space.specs.State.{State}
use Rattle.partial_state.specs.steps.GenerationLog.{HaveFewPorts}
use Rattle.partial_state.proofs.GenerationLogs.{few_ports}
use Rattle.partial_state.proofs.partial.Partial.log_ports.Goals as goal

-- there are few ports
pub log_rows-requires-clause-few_ports : goal.log_rows-requires-clause-few_ports
log_rows-requires-clause-few_ports c =
    let rows : c.as_slice.result.now ≡ c.args.self.now.made = c.as_slice.ensures.value ∙ ap (λ (s : State). s.made) c.self.view_is in
    subst HaveFewPorts (sym rows) (few_ports c.args.problem.now c.args.self.now c.model-model.ensures.valid c.requires)
