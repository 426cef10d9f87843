-- Where there is no first that applies, none applies.
use Rattle.std.proofs.Common.{ap, subst, sym, ◌∙◌}
use Rattle.nogood_store.specs.Stores.{AppliesAt, IsFirstApplying}
use Rattle.seq_search.proofs.node.is_excluded.Goals as goal

pub returns-in-None-clause-none : goal.returns-in-None-clause-none
returns-in-None-clause-none c none place applies =
    let h = c.args.store.now in
    let first = subst (IsFirstApplying h.model c.as_slice.result.now c.args.trail.now.state h.nogoods) c.in-None.is c.find.ensures.first in
    let keep = c.as_slice.ensures ∙ ap (λ x. x.keep) c.goal.ensures in
    first place (subst (λ k. AppliesAt h.model k c.args.trail.now.state h.nogoods place) (sym keep)
    (subst (λ m. AppliesAt m c.args.job.now.goal.keep c.args.trail.now.state h.nogoods place) (sym c.requires.model) applies))
