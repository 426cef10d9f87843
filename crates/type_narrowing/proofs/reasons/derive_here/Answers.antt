-- What a state says of what it covers holds of all that is wanted there.
use Rattle.reason_trail.specs.declared.reason.Why.TheVariants.{Here}
use Rattle.std.proofs.Common.{false}
use Rattle.type_narrowing.proofs.Narrowings.{narrows_pushed}
use Rattle.type_narrowing.proofs.Failures.{is_subject}
use Rattle.type_narrowing.proofs.reasons.derive_here.Goals as goal

pub returns : goal.returns
returns c =
    narrows_pushed c.args.trail.now c.derive_here.new.self c.args.l (Here 0 false) c.job-task.ensures.right c.requires.fits c.requires.part
    (λ x wanted covers. c.requires.supported x (is_subject c.args.trail.now.job x wanted) covers) c.in_ok-derive_here.field-0 c.in_ok-derive_here.ensures.pushed
