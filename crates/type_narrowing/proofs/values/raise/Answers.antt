-- The type supports the low end of its range.
use Rattle.std.proofs.Common.{rules, ◌≡◌, sym, subst, w64, to_z, of_z}
use Rattle.std.proofs.lemmas.Int.{ints, to_z-of_z}
use Rattle.std.specs.Prelude.{IsTrue, IsSome}
use Rattle.config_value.specs.declared.literal.Literal.TheVariants.{AtLeast}
use Rattle.config_value.specs.Literals.{has_literal}
use Rattle.state_space.specs.State.{domain_at}
use Rattle.type_narrowing.proofs.Narrowings.{narrows_itself}
use Rattle.type_narrowing.proofs.RangeReasons.{values_there, least_fits, low_supported}
use Rattle.type_narrowing.proofs.values.raise.Goals as goal

pub low-requires : goal.low-requires
low-requires c =
    subst (λ s. IsSome (domain_at s c.args.i c.args.attr)) (sym c.state.ensures.state)
    (values_there c.args.trail.now.job c.args.trail.now.state c.args.i c.args.kind c.args.attr c.args.low c.requires.declared.0 c.job-task.ensures.right.task c.state.ensures.problem c.requires.sole c.requires.declared.1)

pub returns-then-low : goal.returns-then-low
returns-then-low c = narrows_itself c.args.trail.now

pub derive_of_kind-requires-clause-fits : goal.derive_of_kind-requires-clause-fits
derive_of_kind-requires-clause-fits c =
    least_fits c.args.trail.now.job c.args.trail.now.state c.args.i c.args.kind c.args.attr c.args.low c.requires.declared.0 c.job-task.ensures.right.task c.state.ensures.problem c.requires.sole c.requires.declared.1 _

pub derive_of_kind-requires-clause-supported : goal.derive_of_kind-requires-clause-supported
derive_of_kind-requires-clause-supported c = λ x subject has.
    let own : to_z w64 (of_z w64 c.args.low) ≡ c.args.low = search (rules, ints, to_z-of_z) in
    subst (λ v. IsTrue (has_literal c.args.trail.now.job.model x (AtLeast c.args.i c.args.attr v))) (sym own)
    (low_supported c.args.trail.now.job c.args.trail.now.state c.args.i c.args.kind c.args.attr c.args.low c.requires.declared.0 c.job-task.ensures.right.task c.state.ensures.problem c.requires.sole c.requires.declared.1 x subject has)
