use Rattle.type_taxonomy.proofs.port_search.+is_declared_along.Given as goal

abbrev pub decreases-is_declared_along : goal.decreases-is_declared_along
decreases-is_declared_along l = l.most
