use Rattle.std.proofs.Common.{◌<◌, ◌∙◌, ◌∷◌, ◌++◌, ◌&&◌, [], length, ap, sym, subst, map, ℕ, arith}
use Rattle.prod_model.specs.Forest.{is_a, is_leaf}
use Rattle.prod_model.specs.TypeMasks.{IsMask}
use Rattle.state_space.specs.State.{IsState}
use Rattle.state_space.proofs.NewState.{root_is_state}
use Rattle.partial_state.specs.Masks.{kinds_of}
use Rattle.partial_state.proofs.RootMade.{root_type, leaf_some, all_leaves, kinds_under, root_made}
use Rattle.partial_state.proofs.partial.Partial.root.Goals as goal

-- the root type is a type
pub leaves_under-kinds-requires : goal.leaves_under-kinds-requires
leaves_under-kinds-requires c =
    subst (λ (t : ℕ). t < length c.args.problem.now.types) (sym (ap (λ m. m.root) c.model.ensures.model)) (root_type c.args.problem.now c.model.ensures.valid)

-- there is a leaf under it
pub new_of-requires-clause-some : goal.new_of-requires-clause-some
new_of-requires-clause-some c =
    let m = c.args.problem.now in
    let bits = subst (λ (t : ℕ). IsMask c.leaves_under-kinds.result (λ k. is_leaf m k && is_a m k t)) (ap (λ m. m.root) c.model.ensures.model) c.leaves_under-kinds.ensures in
    leaf_some m c.model.ensures.valid c.leaves_under-kinds.result m.root bits (root_type m c.model.ensures.valid)

pub new_of-requires-clause-leaves : goal.new_of-requires-clause-leaves
new_of-requires-clause-leaves c =
    let m = c.args.problem.now in
    let bits = subst (λ (t : ℕ). IsMask c.leaves_under-kinds.result (λ k. is_leaf m k && is_a m k t)) (ap (λ m. m.root) c.model.ensures.model) c.leaves_under-kinds.ensures in
    all_leaves m c.model.ensures.valid c.leaves_under-kinds.result m.root bits (omega (arith, c.leaves_under-kinds.type_inv))

pub returns-clause-root : goal.returns-clause-root
returns-clause-root c =
    let m = c.args.problem.now in
    let mask = c.leaves_under-kinds.result in
    let bits = subst (λ (t : ℕ). IsMask mask (λ k. is_leaf m k && is_a m k t)) (ap (λ m. m.root) c.model.ensures.model) c.leaves_under-kinds.ensures in
    root_made m (kinds_of mask) (map kinds_of c.in_ok-attribute_types.attribute_types.items) (map kinds_of c.in_ok-port_types.port_types.items) c.in_ok-row.row c.push.new.self.items
    c.in_ok-attribute_types.ensures c.in_ok-port_types.ensures (kinds_under m c.model.ensures.valid mask m.root bits) c.in_ok-row.ensures
    (c.in_ok-push.ensures.items ∙ ap (λ l. l ++ c.in_ok-row.row ∷ []) c.in_ok-made.ensures.items)

pub returns-clause-state : goal.returns-clause-state
returns-clause-state c =
    let m = c.args.problem.now in
    let mask = c.leaves_under-kinds.result in
    let bits = subst (λ (t : ℕ). IsMask mask (λ k. is_leaf m k && is_a m k t)) (ap (λ m. m.root) c.model.ensures.model) c.leaves_under-kinds.ensures in
    subst (IsState m) (sym (root_made m (kinds_of mask) (map kinds_of c.in_ok-attribute_types.attribute_types.items) (map kinds_of c.in_ok-port_types.port_types.items) c.in_ok-row.row c.push.new.self.items
    c.in_ok-attribute_types.ensures c.in_ok-port_types.ensures (kinds_under m c.model.ensures.valid mask m.root bits) c.in_ok-row.ensures
    (c.in_ok-push.ensures.items ∙ ap (λ l. l ++ c.in_ok-row.row ∷ []) c.in_ok-made.ensures.items))) (root_is_state m c.model.ensures.valid)
