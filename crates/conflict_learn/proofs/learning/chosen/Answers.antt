use Rattle.std.proofs.Common.{subst, sym}
use Rattle.literal_book.specs.Nogoods.{IsSound}
use Rattle.conflict_learn.proofs.Soundness.{reason_is_sound}
use Rattle.conflict_learn.proofs.learning.chosen.Goals as goal

-- the reason of a failure makes a nogood
pub told_by-requires-clause-sound : goal.told_by-requires-clause-sound
told_by-requires-clause-sound c =
    let j = c.args.trail.now.job in
    let r = c.args.why.now in
    subst (λ ls. IsSound j.model j.order (record { requests = r.requests; literals = ls })) (sym c.as_slice.ensures)
    (reason_is_sound j r c.requires.uncut c.requires.supported)
