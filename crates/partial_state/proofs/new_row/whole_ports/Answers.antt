use Rattle.std.proofs.Common.{◌≡◌, ◌∙◌, ap, sym, subst, map, length, slice_index, bit_and, ℕ, arith}
use Rattle.std.specs.Prelude.{IsSome}
use Rattle.std.specs.List.{range_with_len}
use Rattle.prod_model.specs.Taxonomy.{port_of}
use Rattle.config_value.specs.Literals.{has_port}
use Rattle.state_space.specs.State.{first_ports, leaves_that}
use Rattle.partial_state.specs.Masks.{kinds_of}
use Rattle.partial_state.proofs.KindLists.{common_has, common_ports}
use Rattle.partial_state.proofs.NewPorts.{port_entry, port_place, port_next, masks_long}
use Rattle.partial_state.proofs.new_row.whole_ports.Goals as goal

-- there are at most 256 ports
pub overflow_cast-port : goal.overflow_cast-port
overflow_cast-port c =
    let place = port_place c.args.problem.now c.args.kinds c.args.made c.args.port_types.now c.loop-types.types-index c.loop-types.ports.items c.requires.valid c.requires.types c.loop-types.invariant c.loop-types-test.true in
    omega (arith, c.len-port.ensures, place.0, place.2)

pub whole_port-requires : goal.whole_port-requires
whole_port-requires c =
    let m = c.args.problem.now in
    let place = port_place m c.args.kinds c.args.made c.args.port_types.now c.loop-types.types-index c.loop-types.ports.items c.requires.valid c.requires.types c.loop-types.invariant c.loop-types-test.true in
    let same : c.len-port.result ≡ c.loop-types.types-index = omega (arith, c.len-port.ensures, place.0) in
    λ t is. subst (λ (p : ℕ). IsSome (port_of m t p)) (sym same)
    (common_has m c.args.port_types.now (length (first_ports m)) c.args.kinds (λ a. omega (arith, c.type_inv.port_types a)) (omega (arith, c.ranges.kinds.fits)) c.requires.types c.requires.leaves c.loop-types.types-index place.1 t is)

pub loop-types-preserved : goal.loop-types-preserved
loop-types-preserved c =
    let m = c.args.problem.now in
    let masks = c.args.port_types.now in
    let k = c.loop-types.types-index in
    let place = port_place m c.args.kinds c.args.made masks k c.loop-types.ports.items c.requires.valid c.requires.types c.loop-types.invariant c.loop-types-test.true in
    let same : c.len-port.result ≡ k = omega (arith, c.len-port.ensures, place.0) in
    port_next m c.args.kinds c.args.made k c.len-port.result (bit_and (slice_index masks k) c.args.kinds) c.loop-types.ports.items c.push.new.self.items c.whole_port.result c.loop-types.invariant same c.whole_port.ensures
    (common_ports m masks (length (first_ports m)) c.args.kinds (λ a. omega (arith, c.type_inv.port_types a)) (omega (arith, c.ranges.kinds.fits)) c.requires.types c.requires.leaves k place.1)
    c.in_ok-push.ensures.items

-- all are gone over
pub returns : goal.returns
returns c =
    let m = c.args.problem.now in
    let long : length c.args.port_types.now ≡ length (first_ports m) = masks_long kinds_of (λ p. leaves_that m (λ t. has_port m t p)) c.args.port_types.now (length (first_ports m)) c.requires.types in
    let end : c.loop-types.types-index ≡ length (first_ports m) = omega (arith, long) in
    c.loop-types.invariant ∙ ap (λ n. map (port_entry m c.args.kinds c.args.made) (range_with_len 0 n)) end
