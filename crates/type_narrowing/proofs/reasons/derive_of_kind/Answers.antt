-- What the type of an instance supports holds of all that is wanted.
use Rattle.std.proofs.Common.{[], ◌∷◌, sym, subst}
use Rattle.config_value.specs.declared.literal.Literal.TheVariants.{Kind}
use Rattle.state_space.specs.Described.{entails_all}
use Rattle.reason_trail.specs.declared.reason.Why.TheVariants.{Written}
use Rattle.type_narrowing.specs.steps.Narrowing.{Narrows}
use Rattle.type_narrowing.proofs.Narrowings.{narrows_itself, narrows_pushed}
use Rattle.type_narrowing.proofs.Failures.{is_subject, entailed_hold}
use Rattle.type_narrowing.proofs.OfKind.{kind_entailed_alone}
use Rattle.type_narrowing.proofs.reasons.derive_of_kind.Goals as goal

pub derive-requires-clause-entailed : goal.derive-requires-clause-entailed
derive-requires-clause-entailed c =
    let t = c.args.trail.now in
    subst (λ r. entails_all t.job.model t.state r.literals) (sym c.in_ok-why.ensures)
    (kind_entailed_alone t.job.model t.state c.args.i c.args.kind c.state-state.ensures.problem c.requires.sole c.job-task.ensures.right.task.valid)

pub returns-in_err-derive : goal.returns-in_err-derive
returns-in_err-derive c = subst (Narrows c.args.trail.now) (sym c.in_err-derive.ensures.unchanged) (narrows_itself c.args.trail.now)

pub returns : goal.returns
returns c =
    let t = c.args.trail.now in
    let kinds = Kind c.args.i c.args.kind ∷ [] in
    narrows_pushed t c.derive.new.self c.args.l (Written c.in_ok-why.why) c.job-task.ensures.right c.requires.fits c.requires.part
    (λ x wanted covers. c.requires.supported x (is_subject t.job x wanted)
    (entailed_hold t.job.model t.state x kinds c.state-state.ensures.problem covers
    (kind_entailed_alone t.job.model t.state c.args.i c.args.kind c.state-state.ensures.problem c.requires.sole c.job-task.ensures.right.task.valid)))
    c.in_ok-derive.field-0 c.in_ok-derive.ensures.pushed
