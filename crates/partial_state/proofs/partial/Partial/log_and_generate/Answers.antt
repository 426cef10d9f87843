use Rattle.std.proofs.Common.{◌∙◌, ◌∷◌, ◌++◌, [], ap, append_assoc}
use Rattle.state_space.specs.Undo.{Made}
use Rattle.partial_state.specs.steps.GenerationLog.{all_old_ports}
use Rattle.partial_state.proofs.GenerationLogs.{also_on_error, with_entries}
use Rattle.partial_state.proofs.partial.Partial.log_and_generate.Goals as goal

-- the ports are logged
pub returns-in_err-push-clause-kept : goal.returns-in_err-push-clause-kept
returns-in_err-push-clause-kept c =
    also_on_error c.from_residual-in_err-push.result
    (with_entries c.args.log.now c.push.new.self (all_old_ports c.args.self.now.made) (c.in_err-push.ensures.unchanged ∙ c.in_ok-log_ports.ensures.logged))

-- and that the last instance was not made
pub returns-in_err-generate-clause-kept : goal.returns-in_err-generate-clause-kept
returns-in_err-generate-clause-kept c =
    also_on_error c.from_residual-in_err-generate.result
    (with_entries c.args.log.now c.push.new.self (all_old_ports c.args.self.now.made ++ Made ∷ [])
    (c.in_ok-push.ensures.pushed ∙ (ap (λ o. c.log_ports.new.log ++ o ∷ []) c.of_made.ensures
    ∙ (ap (λ l. l ++ Made ∷ []) c.in_ok-log_ports.ensures.logged ∙ append_assoc c.args.log.now (all_old_ports c.args.self.now.made) (Made ∷ [])))))

pub returns-clause-logged : goal.returns-clause-logged
returns-clause-logged c =
    c.in_ok-push.ensures.pushed ∙ (ap (λ o. c.log_ports.new.log ++ o ∷ []) c.of_made.ensures
    ∙ (ap (λ l. l ++ Made ∷ []) c.in_ok-log_ports.ensures.logged ∙ append_assoc c.args.log.now (all_old_ports c.args.self.now.made) (Made ∷ [])))
