use Rattle.std.proofs.Common.{subst, sym, ◌∙◌}
use Rattle.conflict_learn.specs.steps.Choosing.{IsToldBy}
use Rattle.conflict_learn.proofs.Soundness.{told}
use Rattle.conflict_learn.proofs.learning.told_by.Goals as goal

-- what is left out holds in each configuration that satisfies the model
pub returns : goal.returns
returns c =
    let t = c.args.trail.now in
    let ls = c.args.literals.now in
    subst (λ left. IsToldBy t ls (record { requests = c.args.requests; literals = left }))
    (sym (c.in_ok-from_slice.ensures ∙ (c.deref.ensures.value ∙ c.in_ok-telling.ensures)))
    (told t c.args.requests ls c.requires.trail.task.valid c.requires.sound c.requires.entailed)
