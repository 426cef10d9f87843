use Rattle.std.proofs.Common.{length}
use Rattle.prod_model.specs.Forest.{line}
use Rattle.config_cli.proofs.names.+port_name.Given as goal

-- the parent's line is shorter
abbrev pub decreases-port_name : goal.decreases-port_name
decreases-port_name l = length (line l.problem.now.types l.t)
