use Rattle.config_cli.proofs.names.+is_declared_along.Given as goal

abbrev pub decreases-is_declared_along : goal.decreases-is_declared_along
decreases-is_declared_along g l = l.most
