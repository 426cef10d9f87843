use Rattle.std.proofs.Common.{length}
use Rattle.prod_model.specs.Forest.{line}
use Rattle.type_taxonomy.proofs.port_search.+port_named.Given as goal

-- the parent's line is shorter
abbrev pub decreases-port_named : goal.decreases-port_named
decreases-port_named l = length (line l.model.now.types l.t)
