use Rattle.prod_model.proofs.Inverses.{own_tables}
use Rattle.prod_model.proofs.problem.Problem.attribute_of.Goals as goal

pub attribute_of-requires : goal.attribute_of-requires
attribute_of-requires c = own_tables c.self.inside.model c.self.inside.tables c.self.invariant.right_tables
