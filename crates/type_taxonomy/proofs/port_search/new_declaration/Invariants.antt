use Rattle.std.proofs.Common.{◌≡◌, ◌+◌}
use Rattle.prod_model.specs.Taxonomy.{first_id}
use Rattle.type_taxonomy.proofs.port_search.new_declaration.Given as goal

-- the types so far have fewer new ports
abbrev pub invariant-loop-t : goal.invariant-loop-t
invariant-loop-t l = l.id ≡ first_id (λ d. d.ports) (λ d. d.name) l.types l.t + l.left
