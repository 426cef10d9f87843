use Rattle.std.proofs.Common.{◌∙◌, ap, sym, subst}
use Rattle.std.specs.Prelude.{IsSome}
use Rattle.state_space.specs.State.{port_at}
use Rattle.state_space.proofs.DescriptionLaws.{description_is_entailed}
use Rattle.partial_state.specs.Views.{state_of_port}
use Rattle.reason_trail.proofs.Possible.{has_links, few_later}
use Rattle.reason_trail.proofs.trail.Trail.describe_counts.Goals as goal

-- the port is there, since all possible types have it
pub port-links-requires : goal.port-links-requires
port-links-requires c =
    subst (λ s. IsSome (port_at s c.args.i c.args.port)) (sym c.state.ensures.state)
    (has_links c.args.self.now.job.model c.args.self.now.state c.args.i c.state.ensures.problem c.args.port (sym c.all_have_port.ensures ∙ c.if-not-all_have_port.false))

pub push_counts-requires-clause-few : goal.push_counts-requires-clause-few
push_counts-requires-clause-few c =
    few_later c.args.self.now.job.model c.args.self.now.state c.args.i c.state.ensures.problem c.args.port (state_of_port c.port-links.result)
    (ap (λ s. port_at s c.args.i c.args.port) (sym c.state.ensures.state) ∙ c.port-links.ensures.links)

pub returns-clause-entailed : goal.returns-clause-entailed
returns-clause-entailed c =
    (description_is_entailed c.args.self.now.job.model c.args.self.now.state c.args.i c.state.ensures.problem c.requires).counts c.args.port
