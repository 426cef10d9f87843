use Rattle.std.proofs.Common.{◌≡◌}
use Rattle.prod_model.specs.Taxonomy.{first_id}
use Rattle.partial_state.proofs.root.number_of_attributes.Given as goal

-- the ids of the types so far
abbrev pub invariant-loop-t : goal.invariant-loop-t
invariant-loop-t l = l.count ≡ first_id (λ d. d.attributes) (λ d. d.name) l.problem.types l.t
