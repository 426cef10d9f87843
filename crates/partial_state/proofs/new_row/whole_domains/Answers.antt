use Rattle.std.proofs.Common.{◌≡◌, ◌<◌, ◌∙◌, [], ap, length, slice_index, arith}
use Rattle.prod_model.proofs.ValidModels.{few_types}
use Rattle.config_value.specs.Literals.{has_attribute}
use Rattle.state_space.specs.State.{first_attributes, leaves_that}
use Rattle.partial_state.specs.Masks.{kinds_of}
use Rattle.partial_state.specs.steps.NewRows.{shares}
use Rattle.partial_state.proofs.KindLists.{shares_type}
use Rattle.partial_state.proofs.NewPorts.{masks_long}
use Rattle.partial_state.proofs.NewRows.{domains_before, domains_next, room_left, domains_of_all}
use Rattle.partial_state.proofs.new_row.whole_domains.Goals as goal

-- there are at most 128 types
pub overflow_cast-t : goal.overflow_cast-t
overflow_cast-t c =
    let few = few_types c.args.problem.now c.model.ensures.valid in
    omega (arith, few, c.len-types.ensures, ap (λ m. length m.types) c.model.ensures.model)

pub push_domains-requires-clause-room : goal.push_domains-requires-clause-room
push_domains-requires-clause-room c =
    let m = c.args.problem.now in
    let types = c.args.attribute_types.now in
    let within : c.loop-t.t < length m.types = omega (arith, c.len-types.ensures, ap (λ m. length m.types) c.model.ensures.model) in
    let long : length types ≡ length (first_attributes m) = masks_long kinds_of (λ a. leaves_that m (λ t. has_attribute m t a)) types (length (first_attributes m)) c.requires.types in
    let room = room_left m (λ a. shares (slice_index types a) c.args.kinds) c.loop-t.t c.loop-t.domains.items c.new_attributes-new.result.now within c.loop-t.invariant c.new_attributes-new.ensures.new in
    omega (arith, long, room)

pub loop-t-preserved : goal.loop-t-preserved
loop-t-preserved c =
    domains_next c.args.problem.now (λ a. shares (slice_index c.args.attribute_types.now a) c.args.kinds) c.loop-t.t c.loop-t.domains.items c.push_domains.new.domains.items c.new_attributes-new.result.now
    c.loop-t.invariant c.new_attributes-new.ensures.new c.in_ok-push_domains.ensures

-- all types are gone over
pub returns-clause-domains : goal.returns-clause-domains
returns-clause-domains c =
    let m = c.args.problem.now in
    let types = c.args.attribute_types.now in
    let end : c.loop-t.t ≡ length m.types = omega (arith, c.len-types.ensures, ap (λ m. length m.types) c.model.ensures.model) in
    c.loop-t.invariant ∙ ap (domains_before m (λ a. shares (slice_index types a) c.args.kinds)) end
    ∙ domains_of_all m (λ a. shares (slice_index types a) c.args.kinds) (kinds_of c.args.kinds) []
    (shares_type m (λ t a. has_attribute m t a) types (length (first_attributes m)) c.args.kinds (λ a. omega (arith, c.type_inv.attribute_types a)) (omega (arith, c.ranges.kinds.fits)) c.requires.types c.requires.leaves)
