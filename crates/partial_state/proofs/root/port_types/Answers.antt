use Rattle.std.proofs.Common.{◌≡◌, ap, length, subst, ℕ, arith}
use Rattle.prod_model.proofs.ValidModels.{few_types}
use Rattle.config_value.specs.Literals.{has_port}
use Rattle.state_space.specs.State.{first_ports}
use Rattle.partial_state.specs.steps.Marks.{AreMarked}
use Rattle.partial_state.proofs.MarkedTypes.{all_marked}
use Rattle.partial_state.proofs.root.port_types.Goals as goal

-- there are at most 128 types
pub overflow_cast-t : goal.overflow_cast-t
overflow_cast-t c =
    let few = few_types c.args.problem.now c.model.ensures.valid in
    omega (arith, few, c.len-types.ensures, ap (λ m. length m.types) c.model.ensures.model)

-- all types are gone over
pub returns : goal.returns
returns c =
    let m = c.args.problem.now in
    let end : c.loop-t.t ≡ length m.types = omega (arith, c.len-types.ensures, ap (λ m. length m.types) c.model.ensures.model) in
    all_marked m (λ k a. has_port m k a) (length (first_ports m)) c.loop-t.masks.items (few_types m c.model.ensures.valid)
    (subst (λ (t : ℕ). AreMarked m (λ k a. has_port m k a) (length (first_ports m)) t c.loop-t.masks.items) end c.loop-t.invariant)
