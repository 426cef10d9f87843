use Rattle.std.proofs.Common.{◌≡◌, true, None, length, arith}
use Rattle.prod_model.specs.declared.model.PortAt.{PortAt}
use Rattle.prod_model.specs.declared.model.PortKind.TheVariants.{Part}
use Rattle.prod_model.specs.Forest.{is_leaf}
use Rattle.prod_model.proofs.ValidModels.{few_types}
use Rattle.config_value.specs.Literals.{has_port}
use Rattle.state_space.specs.State.{first_ports}
use Rattle.partial_state.proofs.MarkedTypes.{port_at_within, leaf_marked, ids_marked}
use Rattle.partial_state.proofs.root.mark_ports.Goals as goal

-- there are at most 128 types
pub mark-requires-clause-below : goal.mark-requires-clause-below
mark-requires-clause-below c =
    let few = few_types c.args.problem.now c.requires.valid in
    omega (arith, few, c.requires.known)

-- each id has its place
pub mark-requires-clause-within : goal.mark-requires-clause-within
mark-requires-clause-within c =
    let none : PortAt = record { id = 0; kind = Part; target = 0; low = 0; high = 0; inverse = None } in
    let within = port_at_within c.args.problem.now c.requires.valid c.args.t c.loop-port.port-index c.ports_of-ports.result.now none c.ports_of-ports.ensures c.loop-port-test.true in
    omega (arith, within, c.loop-port.invariant.long, c.requires.marked.long)

-- all of the leaf are marked
pub returns : goal.returns
returns c =
    let m = c.args.problem.now in
    let xs = c.ports_of-ports.result.now in
    let leaf : is_leaf m c.args.t ≡ true = grind (arith, c.is_leaf.ensures, c.if-not-is_leaf.false) in
    let end : c.loop-port.port-index ≡ length xs = omega arith in
    leaf_marked m (λ k a. has_port m k a) (length (first_ports m)) c.args.t c.args.masks.now.items c.loop-port.masks.items c.requires.marked leaf
    (ids_marked (λ e. e.id) c.args.t xs _ c.loop-port.port-index c.args.masks.now.items c.loop-port.masks.items c.ports_of-ports.ensures end c.loop-port.invariant)
