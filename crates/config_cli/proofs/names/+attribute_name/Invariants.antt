use Rattle.std.proofs.Common.{length}
use Rattle.prod_model.specs.Forest.{line}
use Rattle.config_cli.proofs.names.+attribute_name.Given as goal

-- the parent's line is shorter
abbrev pub decreases-attribute_name : goal.decreases-attribute_name
decreases-attribute_name l = length (line l.problem.now.types l.t)
