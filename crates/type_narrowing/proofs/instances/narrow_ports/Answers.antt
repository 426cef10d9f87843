-- The instance stays of its one type, and so has the ports of that.
use Rattle.std.proofs.Common.{◌<◌, length, ap, sym, subst, ◌∙◌, None}
use Rattle.prod_model.specs.declared.model.PortKind.TheVariants.{Part}
use Rattle.prod_model.specs.Taxonomy.{ports_at}
use Rattle.branch_cut.proofs.FixedLaws.{type_known}
use Rattle.type_narrowing.proofs.Narrowings.{narrows_itself, narrows_on}
use Rattle.type_narrowing.proofs.PortReasons.{among_read}
use Rattle.type_narrowing.proofs.instances.narrow_ports.Goals as goal

pub ports_of-port-items-requires : goal.ports_of-port-items-requires
ports_of-port-items-requires c =
    subst (λ m. c.args.kind < length m.types) (sym c.requires.problem)
    (type_known c.args.trail.now.job.model c.args.trail.now.state c.args.i c.args.kind c.state-state.ensures.problem c.requires.sole)

pub loop-port-init : goal.loop-port-init
loop-port-init c = narrows_itself c.args.trail.now

pub narrow_port-requires-clause-declared : goal.narrow_port-requires-clause-declared
narrow_port-requires-clause-declared c =
    let model = c.requires.problem ∙ ap (λ j. j.model) (sym c.loop-port.invariant.filters.extends.job) in
    let items = c.ports_of-port-items.ensures ∙ ap (λ m. ports_at m c.args.kind) model in
    among_read c.ports_of-port-items.result.now (ports_at c.loop-port.trail.job.model c.args.kind) c.loop-port.port-index
    (record { id = 0; kind = Part; target = 0; low = 0; high = 0; inverse = None }) items c.loop-port-test.true

pub returns-in_err-failed-clause-narrows : goal.returns-in_err-failed-clause-narrows
returns-in_err-failed-clause-narrows c = narrows_on c.args.trail.now c.loop-port.trail c.narrow_port.new.trail c.loop-port.invariant c.narrow_port.ensures.narrows

pub returns-then-is_some-clause-narrows : goal.returns-then-is_some-clause-narrows
returns-then-is_some-clause-narrows c = narrows_on c.args.trail.now c.loop-port.trail c.narrow_port.new.trail c.loop-port.invariant c.narrow_port.ensures.narrows

pub loop-port-preserved : goal.loop-port-preserved
loop-port-preserved c = narrows_on c.args.trail.now c.loop-port.trail c.narrow_port.new.trail c.loop-port.invariant c.narrow_port.ensures.narrows
