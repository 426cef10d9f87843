use Rattle.std.proofs.Common.{subst, sym}
use Rattle.literal_book.specs.Nogoods.{IsSound}
use Rattle.conflict_learn.specs.steps.Assuming.{AreUsable}
use Rattle.conflict_learn.proofs.Soundness.{assumed_is_sound}
use Rattle.conflict_learn.proofs.learning.told_by_assumed.Goals as goal

-- what was assumed makes a nogood
pub told_by-requires-clause-sound : goal.told_by-requires-clause-sound
told_by-requires-clause-sound c =
    let t = c.args.trail.now in
    let r = c.args.why.now in
    let found = c.in-Some.found in
    subst (λ ls. IsSound t.job.model t.job.order (record { requests = found.requests; literals = ls })) (sym c.deref.ensures.value)
    (assumed_is_sound t r found c.requires.trail c.requires.uncut c.requires.supported c.requires.entailed
    (subst (AreUsable t r) c.in-Some.is c.in_ok-found.ensures))
