use Rattle.std.proofs.Common.{◌∙◌, sym, subst}
use Rattle.std.specs.Prelude.{IsSome}
use Rattle.state_space.specs.State.{port_at}
use Rattle.state_space.proofs.DescriptionLaws.{description_is_entailed}
use Rattle.reason_trail.proofs.Possible.{has_links}
use Rattle.reason_trail.proofs.trail.Trail.describe_port.Goals as goal

-- the port is there, since all possible types have it
pub port-links-requires : goal.port-links-requires
port-links-requires c =
    subst (λ s. IsSome (port_at s c.args.i c.args.port)) (sym c.state.ensures.state)
    (has_links c.args.self.now.job.model c.args.self.now.state c.args.i c.state.ensures.problem c.args.port (sym c.all_have_port.ensures ∙ c.if-not-all_have_port.false))

pub returns-clause-entailed : goal.returns-clause-entailed
returns-clause-entailed c =
    (description_is_entailed c.args.self.now.job.model c.args.self.now.state c.args.i c.state.ensures.problem c.requires).port c.args.port
