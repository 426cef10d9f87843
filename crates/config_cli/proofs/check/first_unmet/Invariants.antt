use Rattle.config_cli.proofs.CheckLaws.{AreMetBelow}
use Rattle.config_cli.proofs.check.first_unmet.Given as goal

-- each request so far is met
abbrev pub invariant-loop-k : goal.invariant-loop-k
invariant-loop-k l = AreMetBelow l.problem l.order l.c l.k
