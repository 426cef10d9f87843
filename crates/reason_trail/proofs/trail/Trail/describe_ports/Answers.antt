use Rattle.std.proofs.Common.{◌++◌, ◌∙◌, ap, sym, append-nil}
use Rattle.std.specs.List.{flat_map}
use Rattle.std.proofs.lemmas.List.{take_all}
use Rattle.std.proofs.lemmas.Option.{slice_get-get_or}
use Rattle.base_laws.proofs.Steps.{flat_map_take_more}
use Rattle.prod_model.specs.declared.model.PortAt.{PortAt}
use Rattle.prod_model.specs.Taxonomy.{ports_at}
use Rattle.state_space.specs.Descriptions.{port_description}
use Rattle.reason_trail.proofs.InTurn.{two_joined, begins_longer, begins_on, on_err}
use Rattle.reason_trail.proofs.trail.Trail.describe_ports.Goals as goal

pub loop-port-init : goal.loop-port-init
loop-port-init c = sym (append-nil c.args.into.now)

pub loop-port-preserved : goal.loop-port-preserved
loop-port-preserved c =
    let items = c.ports_of-port-items.result.now in
    let each = λ (x : PortAt). port_description c.args.self.now.job.model c.args.self.now.state c.args.i x.id in
    let at = slice_get-get_or items c.loop-port.port-index _ c.loop-port-test.true in
    two_joined c.args.into.now c.loop-port.into c.describe_port.new.into _ _ c.loop-port.invariant c.in_ok-describe_port.ensures.described
    ∙ ap (λ ls. c.args.into.now ++ ls) (sym (flat_map_take_more each items c.loop-port.port-index _ at))

pub returns-in_err-describe_port-clause-begun : goal.returns-in_err-describe_port-clause-begun
returns-in_err-describe_port-clause-begun c =
    on_err (begins_on c.args.into.now c.loop-port.into c.describe_port.new.into (begins_longer c.args.into.now _ c.loop-port.into c.loop-port.invariant) c.in_err-describe_port.ensures.begun) c.from_residual.result

pub returns-clause-described : goal.returns-clause-described
returns-clause-described c =
    let model = c.problem.ensures.problem ∙ ap (λ j. j.model) c.job.ensures.job in
    let each = λ (x : PortAt). port_description c.args.self.now.job.model c.args.self.now.state c.args.i x.id in
    c.loop-port.invariant
    ∙ ap (λ xs. c.args.into.now ++ flat_map each xs)
    (take_all c.loop-port.port-index c.ports_of-port-items.result.now c.loop-port-test.false ∙ c.ports_of-port-items.ensures ∙ ap (λ m. ports_at m c.args.kind) model)
