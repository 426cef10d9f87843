use Rattle.std.proofs.lemmas.Bool.{and_parts}
use Rattle.config_value.specs.Satisfies.{satisfies}
use Rattle.worked_models.proofs.satisfying.satisfying.Goals as goal

pub returns-in-Satisfied : goal.returns-in-Satisfied
unfolding satisfies
returns-in-Satisfied c = (and_parts _ _ (and_parts _ _ (c.check.ensures.satisfied.0 c.in-Satisfied.is)).0).0
