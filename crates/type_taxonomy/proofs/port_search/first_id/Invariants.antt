use Rattle.std.proofs.Common.{◌≡◌, ◌≤◌, length, take, sum_by}
use Rattle.prod_model.specs.Taxonomy.{first_id}
use Rattle.type_taxonomy.proofs.port_search.first_id.Given as goal

-- the ids of the types so far, of which there are no more than declarations
abbrev pub invariant-loop-u : goal.invariant-loop-u
invariant-loop-u l = record {
  id : l.id ≡ first_id (λ d. d.ports) (λ d. d.name) l.types l.u;
  few : l.id ≤ sum_by (λ d. length d.ports) (take l.u l.types);
}
