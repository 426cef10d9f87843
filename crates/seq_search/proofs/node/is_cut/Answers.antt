-- The states of trails have whole domains.
use Rattle.std.proofs.Common.{subst, sym}
use Rattle.state_values.specs.WholeDomains.{AreDomainsWhole}
use Rattle.branch_cut.proofs.CutLaws.{trail_domains_are_whole}
use Rattle.seq_search.proofs.node.is_cut.Goals as goal

pub cut_dead-requires-clause-whole : goal.cut_dead-requires-clause-whole
cut_dead-requires-clause-whole c =
    subst (AreDomainsWhole c.args.job.now.model) (sym c.state.ensures.state)
    (subst (λ j. AreDomainsWhole j.model c.args.trail.now.state) c.requires.job (trail_domains_are_whole c.args.trail.now c.job-task.ensures.right))
