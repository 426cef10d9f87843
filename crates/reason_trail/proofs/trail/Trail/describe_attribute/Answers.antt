use Rattle.std.proofs.Common.{◌∙◌, sym, subst}
use Rattle.std.specs.Prelude.{IsSome}
use Rattle.state_space.specs.State.{domain_at}
use Rattle.state_space.proofs.DescriptionLaws.{description_is_entailed}
use Rattle.reason_trail.proofs.Possible.{has_domain}
use Rattle.reason_trail.proofs.trail.Trail.describe_attribute.Goals as goal

-- the domain is there, since all possible types have the attribute
pub push_values-requires : goal.push_values-requires
push_values-requires c =
    subst (λ s. IsSome (domain_at s c.args.i c.args.attr)) (sym c.state.ensures.state)
    (has_domain c.args.self.now.job.model c.args.self.now.state c.args.i c.state.ensures.problem c.args.attr (sym c.all_have_attribute.ensures ∙ c.if-not-all_have_attribute.false))

pub returns-clause-entailed : goal.returns-clause-entailed
returns-clause-entailed c =
    (description_is_entailed c.args.self.now.job.model c.args.self.now.state c.args.i c.state.ensures.problem c.requires).attribute c.args.attr
