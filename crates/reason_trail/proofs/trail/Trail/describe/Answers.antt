use Rattle.std.proofs.Common.{◌∙◌, ◌++◌, ap, false, ℕ}
use Rattle.std.specs.Prelude.{if◌then◌else◌}
use Rattle.std.specs.Int.{trailing_zeros, w128}
use Rattle.std.specs.List.{flat_map}
use Rattle.prod_model.specs.Taxonomy.{attributes_at, ports_at}
use Rattle.state_space.specs.Sets.{has_number}
use Rattle.state_space.specs.State.{kinds_at}
use Rattle.state_space.specs.Descriptions.{kinds_description, attribute_description, port_description, description}
use Rattle.state_space.proofs.DescriptionLaws.{description_is_entailed}
use Rattle.reason_trail.proofs.InTurn.{three_joined}
use Rattle.reason_trail.proofs.Possible.{first_possible}
use Rattle.reason_trail.proofs.trail.Trail.describe.Goals as goal

pub returns-in_err-describe_kinds-clause-entailed : goal.returns-in_err-describe_kinds-clause-entailed
returns-in_err-describe_kinds-clause-entailed c =
    (description_is_entailed c.args.self.now.job.model c.args.self.now.state c.args.i c.state.ensures.problem c.requires).all

-- the type of the lowest bit is the first possible one
pub describe_attributes-requires-clause-known : goal.describe_attributes-requires-clause-known
describe_attributes-requires-clause-known c =
    (first_possible c.args.self.now.job.model c.args.self.now.state c.args.i c.kinds-kind.result c.state.ensures.problem c.requires c.kinds-kind.type_inv
    (λ t. c.kinds-kind.ensures t ∙ ap (λ s. if has_number (kinds_at s c.args.i) t then 1 else 0) c.state.ensures.state)).1

pub returns-in_err-describe_attributes-clause-entailed : goal.returns-in_err-describe_attributes-clause-entailed
returns-in_err-describe_attributes-clause-entailed c =
    (description_is_entailed c.args.self.now.job.model c.args.self.now.state c.args.i c.state.ensures.problem c.requires).all

pub describe_ports-requires-clause-known : goal.describe_ports-requires-clause-known
describe_ports-requires-clause-known c =
    (first_possible c.args.self.now.job.model c.args.self.now.state c.args.i c.kinds-kind.result c.state.ensures.problem c.requires c.kinds-kind.type_inv
    (λ t. c.kinds-kind.ensures t ∙ ap (λ s. if has_number (kinds_at s c.args.i) t then 1 else 0) c.state.ensures.state)).1

pub returns-in_err-describe_ports-clause-entailed : goal.returns-in_err-describe_ports-clause-entailed
returns-in_err-describe_ports-clause-entailed c =
    (description_is_entailed c.args.self.now.job.model c.args.self.now.state c.args.i c.state.ensures.problem c.requires).all

-- the parts, one after the other
pub returns-clause-described : goal.returns-clause-described
unfolding description
returns-clause-described c =
    let m = c.args.self.now.job.model in
    let s = c.args.self.now.state in
    let i = c.args.i in
    let first = (first_possible m s i c.kinds-kind.result c.state.ensures.problem c.requires c.kinds-kind.type_inv
    (λ t. c.kinds-kind.ensures t ∙ ap (λ s. if has_number (kinds_at s i) t then 1 else 0) c.state.ensures.state)).0 in
    let attributes = λ (t : ℕ). flat_map (λ a. attribute_description m s i a.id) (attributes_at m t) in
    let ports = λ (t : ℕ). flat_map (λ p. port_description m s i p.id) (ports_at m t) in
    let kind = c.kinds-kind.result in
    ap (λ ls. record { requests = 0; literals = ls; cut = false })
    (three_joined _ c.describe_kinds.new.into c.describe_attributes.new.into c.describe_ports.new.into (kinds_description m s i)
    (attributes (trailing_zeros w128 kind)) (ports (trailing_zeros w128 kind)) c.new-literals.ensures
    c.in_ok-describe_kinds.ensures.described c.in_ok-describe_attributes.ensures.described c.in_ok-describe_ports.ensures.described
    ∙ ap (λ t. (kinds_description m s i ++ attributes t) ++ ports t) first)

pub returns-clause-entailed : goal.returns-clause-entailed
returns-clause-entailed c =
    (description_is_entailed c.args.self.now.job.model c.args.self.now.state c.args.i c.state.ensures.problem c.requires).all
