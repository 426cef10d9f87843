use Rattle.std.proofs.Common.{◌∙◌, ap, take}
use Rattle.partial_state.proofs.GenerationLogs.{cut_back}
use Rattle.partial_state.proofs.partial.Partial.generate_logged.Goals as goal

-- the log is as it was
pub returns-in-Err-clause-kept : goal.returns-in-Err-clause-kept
returns-in-Err-clause-kept c =
    c.cut_to.ensures ∙ (ap (λ n. take n c.log_and_generate.new.log) c.len-len.ensures ∙ cut_back c.args.log.now c.log_and_generate.new.log c.in-Err.ensures.kept)
