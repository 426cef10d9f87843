use Rattle.std.proofs.Common.{rules, ◌∙◌, ◌<◌, ◌+◌, ◌^◌, ap, sym, subst, map, length, arith}
use Rattle.std.specs.Prelude.{IsTrue}
use Rattle.std.specs.List.{list_all, range_with_len}
use Rattle.prod_model.specs.Forest.{is_leaf}
use Rattle.state_space.specs.State.{State, leaves_under}
use Rattle.state_space.specs.Generation.{target_at}
use Rattle.state_space.specs.Root.{new_instance}
use Rattle.partial_state.specs.Masks.{kinds_of}
use Rattle.partial_state.specs.steps.Generated.{port_of_instance}
use Rattle.partial_state.proofs.Leaves.{kinds_of_leaves}
use Rattle.partial_state.proofs.NextInstances.{room_left, target_is, target_is_type, next_some, next_leaves}
use Rattle.partial_state.proofs.partial.Partial.next_row.Goals as goal

-- the target is a type
pub leaves_under-kinds-requires : goal.leaves_under-kinds-requires
leaves_under-kinds-requires c =
    subst (λ t. t < length c.args.problem.now.types) (sym c.target.ensures)
    (target_is_type c.args.problem.now c.args.self.now c.args.i c.args.port c.requires.first c.model-model.ensures.valid)

-- there is a leaf under it
pub new_of-requires-clause-some : goal.new_of-requires-clause-some
new_of-requires-clause-some c =
    let fits : c.leaves_under-kinds.result < 2 ^ 128 = search rules in
    let known : c.target.result < length c.args.problem.now.types =
    subst (λ t. t < length c.args.problem.now.types) (sym c.target.ensures)
    (target_is_type c.args.problem.now c.args.self.now c.args.i c.args.port c.requires.first c.model-model.ensures.valid) in
    next_some c.args.problem.now c.model-model.ensures.valid c.target.result known c.leaves_under-kinds.result fits
    (kinds_of_leaves c.args.problem.now c.leaves_under-kinds.result c.target.result fits c.leaves_under-kinds.ensures)

pub new_of-requires-clause-leaves : goal.new_of-requires-clause-leaves
new_of-requires-clause-leaves c =
    let fits : c.leaves_under-kinds.result < 2 ^ 128 = search rules in
    let known : c.target.result < length c.args.problem.now.types =
    subst (λ t. t < length c.args.problem.now.types) (sym c.target.ensures)
    (target_is_type c.args.problem.now c.args.self.now c.args.i c.args.port c.requires.first c.model-model.ensures.valid) in
    subst (λ ks. IsTrue (list_all (is_leaf c.args.problem.now) ks))
    (sym (kinds_of_leaves c.args.problem.now c.leaves_under-kinds.result c.target.result fits c.leaves_under-kinds.ensures))
    (next_leaves c.args.problem.now c.model-model.ensures.valid c.target.result known)

pub new_of-requires-clause-attribute_types : goal.new_of-requires-clause-attribute_types
new_of-requires-clause-attribute_types c =
    ap (map kinds_of) c.as_slice.ensures.value ∙ (ap (λ (s : State). s.attribute_types) c.self.view_is ∙ c.requires.state.attribute_types)

pub new_of-requires-clause-port_types : goal.new_of-requires-clause-port_types
new_of-requires-clause-port_types c =
    ap (map kinds_of) c.as_slice-2.ensures.value ∙ (ap (λ (s : State). s.port_types) c.self.view_is ∙ c.requires.state.port_types)

pub new_of-requires-clause-few : goal.new_of-requires-clause-few
new_of-requires-clause-few c =
    let room = room_left c.args.problem.now c.args.self.now c.model-model.ensures.valid c.requires.room in
    omega (arith, room, c.made.ensures)

pub returns : goal.returns
returns c =
    let fits : c.leaves_under-kinds.result < 2 ^ 128 = search rules in
    let m = c.args.problem.now in
    let s = c.args.self.now in
    let kinds = kinds_of_leaves m c.leaves_under-kinds.result c.target.result fits c.leaves_under-kinds.ensures in
    let target = c.target.ensures ∙ target_is m s c.args.i c.args.port c.requires.first in
    c.in_ok-row.ensures
    ∙ (ap (λ ks. new_instance m ks (range_with_len 0 (c.made.result + 1))) (kinds ∙ ap (leaves_under m) target)
    ∙ ap (λ n. new_instance m (leaves_under m (target_at m s (port_of_instance c.args.i c.args.port))) (range_with_len 0 (n + 1))) c.made.ensures)
